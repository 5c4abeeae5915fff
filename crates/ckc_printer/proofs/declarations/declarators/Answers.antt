use Rattle.ckc_tree.specs.Statements.{declarator}
use Rattle.ckc_printer.specs.StatementPieces.{declarator_pieces}
use Rattle.ckc_printer.proofs.Commas.{one_more_item}
use Rattle.ckc_printer.proofs.declarations.declarators.Goals as goal

pub loop-place-preserved : goal.loop-place-preserved
loop-place-preserved c =
    one_more_item declarator_pieces declarator c.args.listed.now c.loop-place.place c.index-listed-place.result c.loop-place-test.true c.index-listed-place.is c.put_if.ensures c.put_declarator.ensures c.loop-place.invariant
