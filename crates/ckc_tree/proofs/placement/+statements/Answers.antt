use Rattle.std.proofs.Common.{◌∙◌}
use Rattle.ckc_tree.proofs.Rows.{block_walked}
use Rattle.ckc_tree.proofs.placement.+statements.Goals as goal

pub walk_parts_of_statement-returns-in-Block : goal.walk_parts_of_statement-returns-in-Block
walk_parts_of_statement-returns-in-Block t c =
    let block = c.in-Block in
    c.walk_statements.ensures ∙ block_walked c.args.stmt.now block.mark block.statements block.span c.as_slice.result.now c.args.cursor.now block.is c.as_slice.ensures.value
