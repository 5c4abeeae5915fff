use Rattle.ckc_printer.proofs.PrintableItems.{tree_can}
use Rattle.ckc_printer.proofs.laws.trees_can_print.Goals as goal

pub returns : goal.returns
returns c = tree_can
