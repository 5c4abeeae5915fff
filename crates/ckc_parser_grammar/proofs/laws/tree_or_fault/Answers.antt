use Rattle.ckc_parser_grammar.proofs.ReadItems.{tree_or_fault}
use Rattle.ckc_parser_grammar.proofs.laws.tree_or_fault.Goals as goal

pub returns : goal.returns
returns c = tree_or_fault
