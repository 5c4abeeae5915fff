use Rattle.ckc_tree.specs.Items.{parameter}
use Rattle.ckc_printer.specs.ItemPieces.{member_pieces}
use Rattle.ckc_printer.proofs.Commas.{one_more_item}
use Rattle.ckc_printer.proofs.items.put_listed.Goals as goal

pub loop-place-preserved : goal.loop-place-preserved
loop-place-preserved c =
    one_more_item member_pieces parameter c.args.listed.now c.loop-place.place c.index-listed-place.result c.loop-place-test.true c.index-listed-place.is c.put_if.ensures c.put_parameter.ensures c.loop-place.invariant
