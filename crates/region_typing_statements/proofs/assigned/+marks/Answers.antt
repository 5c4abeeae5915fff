use Rattle.std.proofs.Common.{sym, arith}
use Rattle.region_typing_statements.specs.Marks.{seen}
use Rattle.region_typing_statements.proofs.InOrder.{added, marked_more, marks_done}
use Rattle.region_typing_statements.proofs.Rows.{block_tree}
use Rattle.region_typing_statements.proofs.assigned.+marks.Goals as goal

pub mark_statement-returns-in-Block-clause-marked : goal.mark_statement-returns-in-Block-clause-marked
mark_statement-returns-in-Block-clause-marked t c =
    rw (block_tree c.args.written.now c.in-Block.mark c.in-Block.statements c.in-Block.span c.as_slice.result.now c.in-Block.is c.as_slice.ensures.value) c.mark_statements.ensures.marked

pub mark_statements-loop-listed-preserved : goal.mark_statements-loop-listed-preserved
mark_statements-loop-listed-preserved t c =
    let same = c.in_ok-mark_statement.ensures.kept in
    let hidden = rw same at c.in_ok-hide_by.ensures.hidden in
    record {
      so_far = marked_more c.args.beyond c.args.written.now c.loop-listed.listed-index c.listed-item.result (seen c.loop-listed.visible.items) (seen c.hide_by.new.visible.items) _ c.loop-listed.marks.items c.mark_statement.new.marks.items (omega (arith, c.loop-listed-test.true)) c.listed-item.is c.loop-listed.invariant.so_far c.in_ok-mark_statement.ensures.marked hidden;
      added = added _ _ _ _ c.loop-listed.invariant.added same c.in_ok-hide_by.ensures.added;
    }

pub mark_statements-returns-clause-marked : goal.mark_statements-returns-clause-marked
mark_statements-returns-clause-marked t c =
    sym (marks_done c.args.beyond c.args.written.now c.loop-listed.listed-index (seen c.loop-listed.visible.items) _ c.loop-listed.marks.items (omega (arith, c.loop-listed-test.false)) c.loop-listed.invariant.so_far)
