use Rattle.std.proofs.lemmas.Bool.Decides.{nat_tests}
use Rattle.std.proofs.lemmas.Grind.{common_steps}
use Rattle.std.proofs.Common.{Some, sym, arith, rules}
use Rattle.region_typing_rules.specs.Items.{names}
use Rattle.region_typing_statements.specs.Marks.{seen}
use Rattle.region_typing_statements.proofs.InOrder.{added, changed_more, changes_done}
use Rattle.region_typing_statements.proofs.Rows.{block_tree}
use Rattle.region_typing_statements.proofs.changes.+changes.Goals as goal

pub changed-returns-in-Block-clause-changed : goal.changed-returns-in-Block-clause-changed
changed-returns-in-Block-clause-changed t c =
    rw (block_tree c.args.written.now c.in-Block.mark c.in-Block.statements c.in-Block.span c.as_slice.result.now c.in-Block.is c.as_slice.ensures.value) c.all_changed.ensures.changed

pub changed-returns-in-For-clause-changed : goal.changed-returns-in-For-clause-changed
changed-returns-in-For-clause-changed t c =
    let turns = rw c.deref-in-For.ensures at c.turns_change.ensures.changed in
    rw c.in-For.is turns

pub all_changed-loop-listed-preserved : goal.all_changed-loop-listed-preserved
all_changed-loop-listed-preserved t c =
    let same = c.in_ok-later.ensures.kept in
    let hidden = rw same at c.in_ok-hide_by.ensures.hidden in
    record {
      so_far = changed_more (names (Some c.args.bounds.now)) c.args.beyond c.args.written.now c.loop-listed.listed-index c.listed-item.result (seen c.loop-listed.visible.items) (seen c.hide_by.new.visible.items) _ c.loop-listed.first c.in_ok-later.later c.first_of-first.result (omega (arith, c.loop-listed-test.true)) c.listed-item.is c.loop-listed.invariant.so_far c.in_ok-later.ensures.changed c.first_of-first.ensures hidden;
      added = added _ _ _ _ c.loop-listed.invariant.added same c.in_ok-hide_by.ensures.added;
    }

pub all_changed-returns-clause-changed : goal.all_changed-returns-clause-changed
all_changed-returns-clause-changed t c =
    sym (changes_done (names (Some c.args.bounds.now)) c.args.beyond c.args.written.now c.loop-listed.listed-index (seen c.loop-listed.visible.items) _ c.loop-listed.first (omega (arith, c.loop-listed-test.false)) c.loop-listed.invariant.so_far)

pub all_changed-len-outside-requires : goal.all_changed-len-outside-requires
all_changed-len-outside-requires t c κs = search rules

pub all_changed-loop-listed-init : goal.all_changed-loop-listed-init
all_changed-loop-listed-init t c = search rules

pub all_changed-bounds-written-listed-index : goal.all_changed-bounds-written-listed-index
all_changed-bounds-written-listed-index t c = search rules

pub all_changed-loop-listed-smaller : goal.all_changed-loop-listed-smaller
all_changed-loop-listed-smaller t c = search rules

pub all_changed-returns-clause-kept : goal.all_changed-returns-clause-kept
all_changed-returns-clause-kept t c = grind (arith, common_steps)

pub changed-returns-in-Bundle-clause-changed : goal.changed-returns-in-Bundle-clause-changed
changed-returns-in-Bundle-clause-changed t c = search rules

pub changed-returns-in-Assign-clause-changed : goal.changed-returns-in-Assign-clause-changed
changed-returns-in-Assign-clause-changed t c = grind (arith, nat_tests)

pub changed-returns-in-None-clause-changed : goal.changed-returns-in-None-clause-changed
changed-returns-in-None-clause-changed t c = search rules

pub changed-returns-in-None-clause-kept : goal.changed-returns-in-None-clause-kept
changed-returns-in-None-clause-kept t c = search rules

pub changed-returns-in-While-clause-changed : goal.changed-returns-in-While-clause-changed
changed-returns-in-While-clause-changed t c = search rules

pub turns_change-returns-clause-changed : goal.turns_change-returns-clause-changed
turns_change-returns-clause-changed t c = search rules

pub turns_change-returns-clause-kept : goal.turns_change-returns-clause-kept
turns_change-returns-clause-kept t c = grind (arith, common_steps)
