use Rattle.std.proofs.lemmas.Grind.{common_steps}
use Rattle.std.proofs.Common.{arith, rules}
use Rattle.ckc_printer.proofs.Blocks.{block_of}
use Rattle.ckc_printer.proofs.statements.+statements.Goals as goal

pub put_stmt-returns-in-Block : goal.put_stmt-returns-in-Block
put_stmt-returns-in-Block t c =
    let block = c.in-Block in
    rw (block_of c.args.stmt.now block.mark block.statements block.span block.is, ← c.as_slice.ensures.value) c.put_block.ensures

pub put_block-returns : goal.put_block-returns
put_block-returns t c = grind (arith, common_steps)

pub put_for-returns : goal.put_for-returns
put_for-returns t c = grind (arith, common_steps)

pub put_guarded-returns : goal.put_guarded-returns
put_guarded-returns t c = grind (arith, common_steps)

pub put_if_else-returns : goal.put_if_else-returns
put_if_else-returns t c = grind (arith, common_steps)

pub put_stmt-as_slice-requires : goal.put_stmt-as_slice-requires
put_stmt-as_slice-requires t c κs = search rules

pub put_stmt-returns-in-Some : goal.put_stmt-returns-in-Some
put_stmt-returns-in-Some t c = search rules

pub put_stmt-returns-in-None : goal.put_stmt-returns-in-None
put_stmt-returns-in-None t c = grind (arith, common_steps)

pub put_stmt-returns-in-While : goal.put_stmt-returns-in-While
put_stmt-returns-in-While t c = grind (arith, common_steps)

pub put_stmt-returns-in-Continue : goal.put_stmt-returns-in-Continue
put_stmt-returns-in-Continue t c = search rules

pub put_stmts-loop-stmt-preserved : goal.put_stmts-loop-stmt-preserved
put_stmts-loop-stmt-preserved t c = grind (arith, common_steps)

pub put_stmts-returns : goal.put_stmts-returns
put_stmts-returns t c = grind (arith, common_steps)
