use Rattle.std.proofs.lemmas.Bool.Decides.{nat_tests}
use Rattle.std.proofs.Common.{◌<◌, None, length, Ok, ap, sym, refl, ◌∙◌, arith, rules}
use Rattle.std.specs.Option.{option_map}
use Rattle.ckc_text.specs.Places.{place_at}
use Rattle.ckc_text.specs.declared.code.Code.TheVariants.{E15}
use Rattle.ckc_tree.specs.Statements as s
use Rattle.ckc_tree.specs.Items.{statement_list}
use Rattle.ckc_tree.specs.Expressions as trees
use Rattle.ckc_core.specs.Core as core
use Rattle.ckc_core.specs.Core.{statements_of}
use Rattle.region_typing_rules.specs.Statements as rules
use Rattle.region_typing_scope.specs.Views.{scope}
use Rattle.region_typing_rules.specs.Verdicts.{Passes}
use Rattle.region_typing_scope.specs.OnHeap.{statement, expression}
use Rattle.region_typing_statements.specs.Parts.{branched, turns_from, while_from}
use Rattle.region_typing_statements.proofs.Walking.{goes_on, refused, walks_on, refused_walk, refused_by, done, left, left_walk, grown, size_kept, still_there, still_outside, other_loop, none_more, kept_as}
use Rattle.region_typing_statements.proofs.Testing.{walk_fails, tested}
use Rattle.region_typing_statements.proofs.Rows.{block_tree}
use Rattle.region_typing_statements.proofs.Loops.{call_parts, if_walk, if_else_walk, while_walk, for_walk, nested_walk, nested_broken}
use Rattle.region_typing_statements.proofs.Ways.{from_head, head_grows, parted, turned}
use Rattle.region_typing_statements.proofs.Sequences.{behind_empty, statement_more, statement_breaks, statements_done}
use Rattle.region_typing_statements.proofs.statements.+statements.Goals as goal

pub nested-returns-in_err-inner : goal.nested-returns-in_err-inner
nested-returns-in_err-inner t c =
    nested_broken (place_at c.args.context.now) c.args.in_loop (s.statement c.args.written.now) c.from_residual.result c.args.scope.now c.statement.new.scope c.statement.new.scope c.from_residual.ensures.1 c.in_err-inner.ensures c.set_in_loop.ensures.known

pub nested-returns : goal.nested-returns
nested-returns t c =
    nested_walk (place_at c.args.context.now) c.args.in_loop c.block_start-start.result (s.statement c.args.written.now) c.in_ok-inner.inner c.args.scope.now c.statement.new.scope c.leave.new.self c.in_ok-inner.ensures c.set_in_loop.ensures.known c.set_in_loop.ensures.seen c.block_start-start.ensures c.in_ok-leave.ensures.known c.in_ok-leave.ensures.seen c.in_ok-leave.ensures.size

pub then_branch-returns-in_err-condition-clause-walks : goal.then_branch-returns-in_err-condition-clause-walks
then_branch-returns-in_err-condition-clause-walks t c = refused _ c.from_residual.result c.from_residual.ensures.1 c.in_err-condition.ensures

pub then_branch-returns-clause-walks : goal.then_branch-returns-clause-walks
then_branch-returns-clause-walks t c = goes_on _ c.in_ok-condition.ensures c.guarded.ensures.walks

pub guarded-returns-in_err-consequent-clause-walks : goal.guarded-returns-in_err-consequent-clause-walks
guarded-returns-in_err-consequent-clause-walks t c =
    let known = rw c.deref.ensures at c.in_ok-otherwise.ensures.known in
    let other = rw c.deref.ensures at c.in_ok-otherwise.ensures.other in
    parted (place_at c.args.context.now) (s.statement c.args.written.now) c.args.in_loop branched (λ x o. Passes ((expression c.args.condition, x.0, o), x.1)) c.args.condition c.in_ok-otherwise.otherwise c.args.scope.now c.part.new.self c.nested.new.scope c.from_residual-in_err-consequent.result known other c.in_ok-otherwise.ensures.seen c.in_ok-otherwise.ensures.size
    (refused_walk _ c.from_residual-in_err-consequent.result c.from_residual-in_err-consequent.ensures.1 c.in_err-consequent.ensures)

pub guarded-returns-clause-walks : goal.guarded-returns-clause-walks
guarded-returns-clause-walks t c =
    let known = rw c.deref.ensures at c.in_ok-otherwise.ensures.known in
    let other = rw c.deref.ensures at c.in_ok-otherwise.ensures.other in
    parted (place_at c.args.context.now) (s.statement c.args.written.now) c.args.in_loop branched (λ x o. Passes ((expression c.args.condition, x.0, o), x.1)) c.args.condition c.in_ok-otherwise.otherwise c.args.scope.now c.part.new.self c.nested.new.scope (Ok _) known other c.in_ok-otherwise.ensures.seen c.in_ok-otherwise.ensures.size
    (walks_on _ c.in_ok-consequent.ensures (done branched (record { condition = c.args.condition; consequent = c.in_ok-consequent.consequent; otherwise = c.in_ok-otherwise.otherwise }) _ c.nested.new.scope refl))

pub guarded-returns-clause-size : goal.guarded-returns-clause-size
guarded-returns-clause-size t c = c.in_ok-otherwise.ensures.sizes ∙ sym c.in_ok-otherwise.ensures.size ∙ sym (size_kept c.in_ok-consequent.ensures.so.1)

pub if_alone-returns-in_err-first : goal.if_alone-returns-in_err-first
if_alone-returns-in_err-first t c = refused_walk _ c.from_residual.result c.from_residual.ensures.1 c.in_err-first.ensures.walks

pub if_alone-returns : goal.if_alone-returns
if_alone-returns t c =
    let ended = rw c.in_ok-nothing.ensures at c.branch_ended.ensures in
    walks_on _ c.in_ok-first.ensures.walks ended

pub otherwise-returns-in_err-second : goal.otherwise-returns-in_err-second
otherwise-returns-in_err-second t c =
    let gone = c.turned-walked.ensures in
    turned (place_at c.args.context.now) (s.statement c.args.alternative.now) statement c.args.first.otherwise _ c.args.scope.now c.turned-walked.new.scope c.nested.new.scope c.from_residual.result gone.known gone.seen gone.size
    (refused_walk _ c.from_residual.result c.from_residual.ensures.1 c.in_err-second.ensures)

pub otherwise-returns : goal.otherwise-returns
otherwise-returns t c =
    let gone = c.turned-walked.ensures in
    let ended = rw gone.kept at c.branch_ended.ensures in
    turned (place_at c.args.context.now) (s.statement c.args.alternative.now) statement c.args.first.otherwise _ c.args.scope.now c.turned-walked.new.scope c.branch_ended.new.scope c.branch_ended.result gone.known gone.seen gone.size
    (walks_on _ c.in_ok-second.ensures ended)

pub otherwise-branch_ended-requires : goal.otherwise-branch_ended-requires
otherwise-branch_ended-requires t c =
    let gone = c.turned-walked.ensures in
    rw gone.kept (sym gone.size ∙ sym (size_kept c.in_ok-second.ensures.so.1))

pub while_loop-returns-in_err-turn : goal.while_loop-returns-in_err-turn
while_loop-returns-in_err-turn t c =
    let entered = c.in_ok-around.ensures in
    from_head statement (λ h. while_from (place_at c.args.context.now) (scope c.args.scope.now) h (trees.expression c.args.test.now) (s.statement c.args.body.now)) (s.statement c.args.body.now) None c.args.scope.now c.loop_head.new.scope c.then_branch.new.scope c.from_residual-in_err-turn.result entered.known entered.seen entered.size
    (refused_walk _ c.from_residual-in_err-turn.result c.from_residual-in_err-turn.ensures.1 c.in_err-turn.ensures.walks)

pub while_loop-returns : goal.while_loop-returns
while_loop-returns t c =
    let entered = c.in_ok-around.ensures in
    let ended = rw (entered.around, c.in_ok-nothing.ensures) at c.loop_ended.ensures in
    from_head statement (λ h. while_from (place_at c.args.context.now) (scope c.args.scope.now) h (trees.expression c.args.test.now) (s.statement c.args.body.now)) (s.statement c.args.body.now) None c.args.scope.now c.loop_head.new.scope c.loop_ended.new.scope c.loop_ended.result entered.known entered.seen entered.size
    (walks_on _ c.in_ok-turn.ensures.walks ended)

pub turns-returns-in_err-test : goal.turns-returns-in_err-test
turns-returns-in_err-test t c =
    let entered = c.in_ok-around.ensures in
    let step = option_map s.assignment c.args.step.now in
    from_head statement (λ h. turns_from (place_at c.args.context.now) (scope c.args.scope.now) h (s.statement c.args.body.now) (option_map s.on_heap c.args.test.now) step) (s.statement c.args.body.now) step c.args.scope.now c.loop_head.new.scope c.loop_head.new.scope c.from_residual-in_err-test.result entered.known entered.seen entered.size
    (refused _ c.from_residual-in_err-test.result c.from_residual-in_err-test.ensures.1 c.in_err-test.ensures)

pub turns-returns-in_err-turn : goal.turns-returns-in_err-turn
turns-returns-in_err-turn t c =
    let entered = c.in_ok-around.ensures in
    let step = option_map s.assignment c.args.step.now in
    from_head statement (λ h. turns_from (place_at c.args.context.now) (scope c.args.scope.now) h (s.statement c.args.body.now) (option_map s.on_heap c.args.test.now) step) (s.statement c.args.body.now) step c.args.scope.now c.loop_head.new.scope c.guarded.new.scope c.from_residual-in_err-turn.result entered.known entered.seen entered.size
    (goes_on _ c.in_ok-test.ensures (refused_walk _ c.from_residual-in_err-turn.result c.from_residual-in_err-turn.ensures.1 c.in_err-turn.ensures.walks))

pub turns-returns-in_err-step : goal.turns-returns-in_err-step
turns-returns-in_err-step t c =
    let entered = c.in_ok-around.ensures in
    let step = option_map s.assignment c.args.step.now in
    from_head statement (λ h. turns_from (place_at c.args.context.now) (scope c.args.scope.now) h (s.statement c.args.body.now) (option_map s.on_heap c.args.test.now) step) (s.statement c.args.body.now) step c.args.scope.now c.loop_head.new.scope c.step_behind.new.scope c.from_residual-in_err-step.result entered.known entered.seen entered.size
    (goes_on _ c.in_ok-test.ensures (walks_on _ c.in_ok-turn.ensures.walks (refused_walk _ c.from_residual-in_err-step.result c.from_residual-in_err-step.ensures.1 c.in_err-step.ensures)))

pub turns-returns : goal.turns-returns
turns-returns t c =
    let entered = c.in_ok-around.ensures in
    let step = option_map s.assignment c.args.step.now in
    let ended = rw entered.around at c.loop_ended.ensures in
    from_head statement (λ h. turns_from (place_at c.args.context.now) (scope c.args.scope.now) h (s.statement c.args.body.now) (option_map s.on_heap c.args.test.now) step) (s.statement c.args.body.now) step c.args.scope.now c.loop_head.new.scope c.loop_ended.new.scope c.loop_ended.result entered.known entered.seen entered.size
    (goes_on _ c.in_ok-test.ensures (walks_on _ c.in_ok-turn.ensures.walks (walks_on _ c.in_ok-step.ensures ended)))

pub for_loop-returns-in_err-first : goal.for_loop-returns-in_err-first
for_loop-returns-in_err-first t c = refused_walk _ c.from_residual.result c.from_residual.ensures.1 c.in_err-first.ensures

pub for_loop-returns-in_err-turns : goal.for_loop-returns-in_err-turns
for_loop-returns-in_err-turns t c = walks_on _ c.in_ok-first.ensures (refused_walk _ c.from_residual-in_err-turns.result c.from_residual-in_err-turns.ensures.1 c.in_err-turns.ensures)

pub for_loop-returns : goal.for_loop-returns
for_loop-returns t c =
    let gone = c.in_ok-leave.ensures in
    rw c.in_ok-first.ensures.so.0
    (left_walk statement (rules.both (statement c.in_ok-first.first)) _ (statement c.in_ok-turns.turns) c.in_ok-both.field-0 c.args.scope.now c.turns.new.scope c.leave.new.self c.in_ok-turns.ensures.so.0
    (left c.block_start-start.result c.args.scope.now c.turns.new.scope c.leave.new.self c.block_start-start.ensures (grown c.in_ok-first.ensures.so.1 c.in_ok-turns.ensures.so.1) gone.known gone.seen gone.size)
    c.in_ok-both.ensures)

pub block-returns-in_err-built : goal.block-returns-in_err-built
block-returns-in_err-built t c = refused_walk _ c.from_residual.result c.from_residual.ensures.1 c.in_err-built.ensures

pub block-returns-in_err-needs : goal.block-returns-in_err-needs
block-returns-in_err-needs t c = rw c.in_ok-built.ensures.so.0 (walk_fails _ _ _ _ _ c.from_residual-in_err-needs.result c.is_checked-checked.ensures c.from_residual-in_err-needs.ensures.1 c.in_err-needs.ensures)

pub block-returns : goal.block-returns
block-returns t c =
    let on = sym c.is_checked-checked.ensures ∙ tested _ E15 c.args.span c.in_ok-needs.ensures in
    rw on
    (left_walk statement core.Block _ (statements_of c.in_ok-built.built.items) c.in_ok-block.field-0 c.args.scope.now c.statements.new.scope c.leave.new.self c.in_ok-built.ensures.so.0
    (left c.block_start-start.result c.args.scope.now c.statements.new.scope c.leave.new.self c.block_start-start.ensures c.in_ok-built.ensures.so.1 c.in_ok-leave.ensures.known c.in_ok-leave.ensures.seen c.in_ok-leave.ensures.size)
    c.in_ok-block.ensures)

pub statements-returns-in_err-next : goal.statements-returns-in_err-next
statements-returns-in_err-next t c =
    let xs = c.args.written.now in
    let less : c.loop-listed.listed-index < length xs = omega (arith, c.loop-listed-test.true) in
    refused_by c.from_residual.result c.from_residual.ensures.1
    (λ stop breaks. statement_breaks (place_at c.args.context.now) (rules.statements (place_at c.args.context.now) (scope c.args.scope.now) (statement_list xs)) xs c.loop-listed.listed-index c.listed-item.result (scope c.loop-listed.scope) c.loop-listed.built.items stop less c.listed-item.is c.loop-listed.invariant.so_far breaks)
    c.in_err-next.ensures

pub statements-loop-listed-preserved : goal.statements-loop-listed-preserved
statements-loop-listed-preserved t c =
    let xs = c.args.written.now in
    record {
      so_far = statement_more (place_at c.args.context.now) (rules.statements (place_at c.args.context.now) (scope c.args.scope.now) (statement_list xs)) xs c.loop-listed.listed-index c.listed-item.result (scope c.loop-listed.scope) (scope c.statement.new.scope) c.loop-listed.built.items c.push.new.statements.items c.in_ok-next.next.value c.in_ok-push.ensures (omega (arith, c.loop-listed-test.true)) c.listed-item.is c.loop-listed.invariant.so_far c.in_ok-next.ensures.so.0;
      more = grown c.loop-listed.invariant.more c.in_ok-next.ensures.so.1;
    }

pub statements-returns : goal.statements-returns
statements-returns t c =
    record { so = (statements_done (place_at c.args.context.now) (rules.statements (place_at c.args.context.now) (scope c.args.scope.now) (statement_list c.args.written.now)) c.args.written.now c.loop-listed.listed-index (scope c.loop-listed.scope) c.loop-listed.built.items (omega (arith, c.loop-listed-test.false)) c.loop-listed.invariant.so_far, c.loop-listed.invariant.more) }

pub structured-returns-in-Block : goal.structured-returns-in-Block
structured-returns-in-Block t c =
    rw (block_tree c.args.written.now c.in-Block.mark c.in-Block.inner c.in-Block.span c.as_slice.result.now c.in-Block.is c.as_slice.ensures.value) c.block.ensures

pub statement-returns-in-Bundle : goal.statement-returns-in-Bundle
statement-returns-in-Bundle t c = let walk = rw c.as_slice.ensures.value at c.bundle.ensures in rw c.in-Bundle.is walk

pub statement-returns-in-Assign : goal.statement-returns-in-Assign
statement-returns-in-Assign t c = rw c.in-Assign.is c.assign.ensures

pub statement-returns-in-Call : goal.statement-returns-in-Call
statement-returns-in-Call t c =
    let at = place_at c.args.context.now in
    let g = scope c.args.scope.now in
    let answer = rw c.deref.ensures at c.call_alone.ensures in
    rw c.in-Call.is (kept_as (rules.statement at g (s.CallAlone (trees.expression c.in-Call.call.value) c.in-Call.span)) c.args.scope.now (call_parts at g (trees.expression c.in-Call.call.value) c.in-Call.span) answer)

pub statement-returns-in_ok-nothing-in-Empty : goal.statement-returns-in_ok-nothing-in-Empty
statement-returns-in_ok-nothing-in-Empty t c = rw c.in-Empty.is (done statement c.in_ok-nothing-in-Empty.field-0 core.Nothing c.args.scope.now c.in_ok-nothing-in-Empty.ensures)

pub structured-returns-in-While : goal.structured-returns-in-While
structured-returns-in-While t c =
    let walk = rw (c.deref-in-While.ensures, c.deref-in-While-2.ensures) at c.while_loop.ensures in
    while_walk (place_at c.args.context.now) (s.statement c.args.written.now) (trees.expression c.in-While.test.value) (s.statement c.in-While.body.value) c.in-While.span (ap s.statement c.in-While.is) walk

pub structured-returns-in-For : goal.structured-returns-in-For
structured-returns-in-For t c =
    let walk = rw c.deref-in-For.ensures at c.for_loop.ensures in
    for_walk (place_at c.args.context.now) (s.statement c.args.written.now) (s.for_initial c.in-For.initial) (option_map s.on_heap c.in-For.test) (option_map s.assignment c.in-For.step) (s.statement c.in-For.body.value) c.in-For.span (ap s.statement c.in-For.is) walk

pub statement-returns-in-Return : goal.statement-returns-in-Return
statement-returns-in-Return t c = rw c.in-Return.is c.return_from.ensures

pub statement-returns-in-Break : goal.statement-returns-in-Break
statement-returns-in-Break t c = rw c.in-Break.is c.break_from.ensures

pub statement-returns-in-Continue : goal.statement-returns-in-Continue
statement-returns-in-Continue t c = rw c.in-Continue.is c.continue_with.ensures

pub structured-returns-in-None : goal.structured-returns-in-None
structured-returns-in-None t c =
    let walk = rw (c.deref.ensures, c.deref-in-None.ensures) at c.if_alone.ensures in
    if_walk (place_at c.args.context.now) (s.statement c.args.written.now) (trees.expression c.in-If.test.value) (s.statement c.in-If.consequent.value) c.in-If.span (rw (c.in-If.is, c.in-None.is) refl) walk

pub structured-returns-in_err-first-in-Some : goal.structured-returns-in_err-first-in-Some
structured-returns-in_err-first-in-Some t c =
    let broken = rw (c.deref-in-Some.ensures, c.deref-in-Some-2.ensures) at c.in_err-first-in-Some.ensures in
    if_else_walk (place_at c.args.context.now) (s.statement c.args.written.now) (trees.expression c.in-If.test.value) (s.statement c.in-If.consequent.value) (s.statement c.in-Some.alternative.value) c.in-If.span (rw (c.in-If.is, c.in-Some.is) refl)
    (refused_walk _ c.from_residual.result c.from_residual.ensures.1 broken.walks)

pub structured-returns-in_ok-first-in-Some : goal.structured-returns-in_ok-first-in-Some
structured-returns-in_ok-first-in-Some t c =
    let first = rw (c.deref-in-Some.ensures, c.deref-in-Some-2.ensures) at c.in_ok-first-in-Some.ensures in
    let second = rw c.deref-in-Some-3.ensures at c.otherwise.ensures in
    if_else_walk (place_at c.args.context.now) (s.statement c.args.written.now) (trees.expression c.in-If.test.value) (s.statement c.in-If.consequent.value) (s.statement c.in-Some.alternative.value) c.in-If.span (rw (c.in-If.is, c.in-Some.is) refl)
    (walks_on _ first.walks second)

pub statements-loop-listed-init : goal.statements-loop-listed-init
statements-loop-listed-init t c = record { so_far = behind_empty c.new-built.result.items _ c.new-built.ensures.items; more = none_more c.args.scope.now }

pub block-leave-requires : goal.block-leave-requires
block-leave-requires t c = still_there c.args.scope.now c.statements.new.scope c.block_start-start.result c.block_start-start.ensures c.in_ok-built.ensures.so.1

pub for_loop-leave-requires : goal.for_loop-leave-requires
for_loop-leave-requires t c = still_there c.args.scope.now c.turns.new.scope c.block_start-start.result c.block_start-start.ensures (grown c.in_ok-first.ensures.so.1 c.in_ok-turns.ensures.so.1)

pub nested-leave-requires : goal.nested-leave-requires
nested-leave-requires t c =
    still_there c.args.scope.now c.statement.new.scope c.block_start-start.result c.block_start-start.ensures
    (grown (other_loop c.args.in_loop c.args.scope.now c.set_in_loop.new.self c.set_in_loop.ensures.known c.set_in_loop.ensures.seen) c.in_ok-inner.ensures.so.1)

pub while_loop-loop_ended-requires : goal.while_loop-loop_ended-requires
while_loop-loop_ended-requires t c =
    let entered = c.in_ok-around.ensures in
    let more = grown (head_grows (s.statement c.args.body.now) None c.args.scope.now c.loop_head.new.scope entered.known entered.seen entered.size) c.in_ok-turn.ensures.walks.so.1 in
    record {
      outside = still_outside more entered.few;
      size = c.in_ok-turn.ensures.size;
      breaks = rw (size_kept more, entered.around) c.args.scope.now.breaks_alike;
      continues = rw (size_kept more, entered.around) c.args.scope.now.continues_alike;
    }

pub turns-loop_ended-requires : goal.turns-loop_ended-requires
turns-loop_ended-requires t c =
    let entered = c.in_ok-around.ensures in
    let last = c.in_ok-step.ensures.so.1 in
    let more = grown (head_grows (s.statement c.args.body.now) (option_map s.assignment c.args.step.now) c.args.scope.now c.loop_head.new.scope entered.known entered.seen entered.size) (grown c.in_ok-turn.ensures.walks.so.1 last) in
    record {
      outside = still_outside more entered.few;
      size = c.in_ok-turn.ensures.size ∙ sym (size_kept last);
      breaks = rw (size_kept more, entered.around) c.args.scope.now.breaks_alike;
      continues = rw (size_kept more, entered.around) c.args.scope.now.continues_alike;
    }

pub block-block_start-start-requires : goal.block-block_start-start-requires
block-block_start-start-requires t c = search rules

pub block-branch-built-requires : goal.block-branch-built-requires
block-branch-built-requires t c κs = search rules

pub block-from_residual-requires : goal.block-from_residual-requires
block-from_residual-requires t c κs = search rules

pub block-branch-leave-requires : goal.block-branch-leave-requires
block-branch-leave-requires t c κs = search rules

pub block-from_residual-requires-in_err-leave : goal.block-from_residual-requires-in_err-leave
block-from_residual-requires-in_err-leave t c κs = search rules

pub block-drop-built-requires : goal.block-drop-built-requires
block-drop-built-requires t c κs = search rules

pub block-returns-in_err-leave : goal.block-returns-in_err-leave
block-returns-in_err-leave t c = grind (arith, nat_tests)

pub block-branch-needs-requires : goal.block-branch-needs-requires
block-branch-needs-requires t c κs = search rules

pub block-from_residual-requires-in_err-needs : goal.block-from_residual-requires-in_err-needs
block-from_residual-requires-in_err-needs t c κs = search rules

pub block-drop-built-requires-in_err-needs : goal.block-drop-built-requires-in_err-needs
block-drop-built-requires-in_err-needs t c κs = search rules

pub block-branch-block-requires : goal.block-branch-block-requires
block-branch-block-requires t c κs = search rules

pub block-from_residual-requires-in_err-block : goal.block-from_residual-requires-in_err-block
block-from_residual-requires-in_err-block t c κs = search rules

pub block-returns-in_err-block : goal.block-returns-in_err-block
block-returns-in_err-block t c = grind (arith, nat_tests)

pub for_loop-branch-first-requires : goal.for_loop-branch-first-requires
for_loop-branch-first-requires t c κs = search rules

pub for_loop-from_residual-requires : goal.for_loop-from_residual-requires
for_loop-from_residual-requires t c κs = search rules

pub for_loop-branch-turns-requires : goal.for_loop-branch-turns-requires
for_loop-branch-turns-requires t c κs = search rules

pub for_loop-drop-first-requires : goal.for_loop-drop-first-requires
for_loop-drop-first-requires t c κs = search rules

pub for_loop-branch-leave-requires : goal.for_loop-branch-leave-requires
for_loop-branch-leave-requires t c κs = search rules

pub for_loop-drop-turns-requires : goal.for_loop-drop-turns-requires
for_loop-drop-turns-requires t c κs = search rules

pub for_loop-drop-first-requires-in_err-leave : goal.for_loop-drop-first-requires-in_err-leave
for_loop-drop-first-requires-in_err-leave t c κs = search rules

pub for_loop-returns-in_err-leave : goal.for_loop-returns-in_err-leave
for_loop-returns-in_err-leave t c = grind (arith, nat_tests)

pub for_loop-branch-both-requires : goal.for_loop-branch-both-requires
for_loop-branch-both-requires t c κs = search rules

pub for_loop-from_residual-requires-in_err-both : goal.for_loop-from_residual-requires-in_err-both
for_loop-from_residual-requires-in_err-both t c κs = search rules

pub for_loop-returns-in_err-both : goal.for_loop-returns-in_err-both
for_loop-returns-in_err-both t c = grind (arith, nat_tests)

pub guarded-deref-requires : goal.guarded-deref-requires
guarded-deref-requires t c κs = search rules

pub guarded-branch-otherwise-requires : goal.guarded-branch-otherwise-requires
guarded-branch-otherwise-requires t c κs = search rules

pub guarded-from_residual-requires : goal.guarded-from_residual-requires
guarded-from_residual-requires t c κs = search rules

pub guarded-drop-condition-requires : goal.guarded-drop-condition-requires
guarded-drop-condition-requires t c κs = search rules

pub guarded-branch-consequent-requires : goal.guarded-branch-consequent-requires
guarded-branch-consequent-requires t c κs = search rules

pub guarded-drop-otherwise-inside-requires : goal.guarded-drop-otherwise-inside-requires
guarded-drop-otherwise-inside-requires t c κs = search rules

pub if_alone-returns-in_err-nothing : goal.if_alone-returns-in_err-nothing
if_alone-returns-in_err-nothing t c = search rules

pub if_alone-branch_ended-requires : goal.if_alone-branch_ended-requires
if_alone-branch_ended-requires t c = search rules

pub nested-branch-inner-requires : goal.nested-branch-inner-requires
nested-branch-inner-requires t c κs = search rules

pub nested-from_residual-requires : goal.nested-from_residual-requires
nested-from_residual-requires t c κs = search rules

pub nested-branch-leave-requires : goal.nested-branch-leave-requires
nested-branch-leave-requires t c κs = search rules

pub nested-from_residual-requires-in_err-leave : goal.nested-from_residual-requires-in_err-leave
nested-from_residual-requires-in_err-leave t c κs = search rules

pub nested-drop-inner-requires : goal.nested-drop-inner-requires
nested-drop-inner-requires t c κs = search rules

pub nested-returns-in_err-leave : goal.nested-returns-in_err-leave
nested-returns-in_err-leave t c = grind (arith, nat_tests)

pub otherwise-turned-walked-requires : goal.otherwise-turned-walked-requires
otherwise-turned-walked-requires t c = search rules

pub otherwise-nested-requires : goal.otherwise-nested-requires
otherwise-nested-requires t c = search rules

pub statement-returns-in_err-nothing-in-Empty : goal.statement-returns-in_err-nothing-in-Empty
statement-returns-in_err-nothing-in-Empty t c = search rules

pub statement-structured-requires : goal.statement-structured-requires
statement-structured-requires t c = search rules

pub statement-returns-in-Declare : goal.statement-returns-in-Declare
statement-returns-in-Declare t c = search rules

pub statements-new-built-requires : goal.statements-new-built-requires
statements-new-built-requires t c κs = search rules

pub statements-bounds-written-listed-index : goal.statements-bounds-written-listed-index
statements-bounds-written-listed-index t c = search rules

pub statements-branch-next-requires : goal.statements-branch-next-requires
statements-branch-next-requires t c κs = search rules

pub statements-from_residual-requires : goal.statements-from_residual-requires
statements-from_residual-requires t c κs = search rules

pub statements-drop-built-requires : goal.statements-drop-built-requires
statements-drop-built-requires t c κs = search rules

pub statements-branch-push-requires : goal.statements-branch-push-requires
statements-branch-push-requires t c κs = search rules

pub statements-drop-built-requires-in_err-push : goal.statements-drop-built-requires-in_err-push
statements-drop-built-requires-in_err-push t c κs = search rules

pub statements-returns-in_err-push : goal.statements-returns-in_err-push
statements-returns-in_err-push t c = grind (arith, nat_tests)

pub statements-loop-listed-smaller : goal.statements-loop-listed-smaller
statements-loop-listed-smaller t c = search rules

pub structured-as_slice-requires : goal.structured-as_slice-requires
structured-as_slice-requires t c κs = search rules

pub structured-deref-requires : goal.structured-deref-requires
structured-deref-requires t c κs = search rules

pub structured-deref-requires-in-None : goal.structured-deref-requires-in-None
structured-deref-requires-in-None t c κs = search rules

pub structured-deref-requires-in-Some : goal.structured-deref-requires-in-Some
structured-deref-requires-in-Some t c κs = search rules

pub structured-deref-requires-in-Some-2 : goal.structured-deref-requires-in-Some-2
structured-deref-requires-in-Some-2 t c κs = search rules

pub structured-branch-first-requires : goal.structured-branch-first-requires
structured-branch-first-requires t c κs = search rules

pub structured-from_residual-requires : goal.structured-from_residual-requires
structured-from_residual-requires t c κs = search rules

pub structured-deref-requires-in-Some-3 : goal.structured-deref-requires-in-Some-3
structured-deref-requires-in-Some-3 t c κs = search rules

pub structured-deref-requires-in-While : goal.structured-deref-requires-in-While
structured-deref-requires-in-While t c κs = search rules

pub structured-deref-requires-in-While-2 : goal.structured-deref-requires-in-While-2
structured-deref-requires-in-While-2 t c κs = search rules

pub structured-deref-requires-in-For : goal.structured-deref-requires-in-For
structured-deref-requires-in-For t c κs = search rules

pub structured-unreachable-unreachable : goal.structured-unreachable-unreachable
structured-unreachable-unreachable t c = search rules

pub then_branch-condition-requires : goal.then_branch-condition-requires
then_branch-condition-requires t c = search rules

pub then_branch-branch-condition-requires : goal.then_branch-branch-condition-requires
then_branch-branch-condition-requires t c κs = search rules

pub then_branch-from_residual-requires : goal.then_branch-from_residual-requires
then_branch-from_residual-requires t c κs = search rules

pub then_branch-returns-clause-size : goal.then_branch-returns-clause-size
then_branch-returns-clause-size t c = search rules

pub turns-returns-in_err-around : goal.turns-returns-in_err-around
turns-returns-in_err-around t c = grind (arith, nat_tests)

pub turns-branch-test-requires : goal.turns-branch-test-requires
turns-branch-test-requires t c κs = search rules

pub turns-from_residual-requires-in_err-test : goal.turns-from_residual-requires-in_err-test
turns-from_residual-requires-in_err-test t c κs = search rules

pub turns-drop-around-requires : goal.turns-drop-around-requires
turns-drop-around-requires t c κs = search rules

pub turns-drop-around-requires-in_err-test : goal.turns-drop-around-requires-in_err-test
turns-drop-around-requires-in_err-test t c κs = search rules

pub turns-drop-around-requires-in_err-test-2 : goal.turns-drop-around-requires-in_err-test-2
turns-drop-around-requires-in_err-test-2 t c κs = search rules

pub turns-drop-around-requires-in_err-test-3 : goal.turns-drop-around-requires-in_err-test-3
turns-drop-around-requires-in_err-test-3 t c κs = search rules

pub turns-drop-around-requires-in_err-test-4 : goal.turns-drop-around-requires-in_err-test-4
turns-drop-around-requires-in_err-test-4 t c κs = search rules

pub turns-drop-around-requires-in_err-test-6 : goal.turns-drop-around-requires-in_err-test-6
turns-drop-around-requires-in_err-test-6 t c κs = search rules

pub turns-drop-around-requires-in_err-test-7 : goal.turns-drop-around-requires-in_err-test-7
turns-drop-around-requires-in_err-test-7 t c κs = search rules

pub turns-guarded-requires : goal.turns-guarded-requires
turns-guarded-requires t c = search rules

pub turns-from_residual-requires-in_err-turn : goal.turns-from_residual-requires-in_err-turn
turns-from_residual-requires-in_err-turn t c κs = search rules

pub turns-drop-around-requires-in_err-turn-6 : goal.turns-drop-around-requires-in_err-turn-6
turns-drop-around-requires-in_err-turn-6 t c κs = search rules

pub turns-branch-step-requires : goal.turns-branch-step-requires
turns-branch-step-requires t c κs = search rules

pub turns-from_residual-requires-in_err-step : goal.turns-from_residual-requires-in_err-step
turns-from_residual-requires-in_err-step t c κs = search rules

pub turns-drop-turn-requires : goal.turns-drop-turn-requires
turns-drop-turn-requires t c κs = search rules

pub turns-drop-turn-requires-in_err-step : goal.turns-drop-turn-requires-in_err-step
turns-drop-turn-requires-in_err-step t c κs = search rules

pub turns-drop-turn-requires-in_err-step-2 : goal.turns-drop-turn-requires-in_err-step-2
turns-drop-turn-requires-in_err-step-2 t c κs = search rules

pub turns-drop-turn-requires-in_err-step-3 : goal.turns-drop-turn-requires-in_err-step-3
turns-drop-turn-requires-in_err-step-3 t c κs = search rules

pub turns-drop-turn-requires-in_err-step-4 : goal.turns-drop-turn-requires-in_err-step-4
turns-drop-turn-requires-in_err-step-4 t c κs = search rules

pub turns-drop-turn-requires-in_err-step-5 : goal.turns-drop-turn-requires-in_err-step-5
turns-drop-turn-requires-in_err-step-5 t c κs = search rules

pub turns-drop-around-requires-in_err-step : goal.turns-drop-around-requires-in_err-step
turns-drop-around-requires-in_err-step t c κs = search rules

pub turns-drop-around-requires-in_err-step-2 : goal.turns-drop-around-requires-in_err-step-2
turns-drop-around-requires-in_err-step-2 t c κs = search rules

pub turns-drop-around-requires-in_err-step-6 : goal.turns-drop-around-requires-in_err-step-6
turns-drop-around-requires-in_err-step-6 t c κs = search rules

pub turns-drop-around-requires-in_err-step-7 : goal.turns-drop-around-requires-in_err-step-7
turns-drop-around-requires-in_err-step-7 t c κs = search rules

pub turns-drop-around-requires-in_err-step-8 : goal.turns-drop-around-requires-in_err-step-8
turns-drop-around-requires-in_err-step-8 t c κs = search rules

pub while_loop-branch-nothing-requires : goal.while_loop-branch-nothing-requires
while_loop-branch-nothing-requires t c κs = search rules

pub while_loop-from_residual-requires : goal.while_loop-from_residual-requires
while_loop-from_residual-requires t c κs = search rules

pub while_loop-returns-in_err-nothing : goal.while_loop-returns-in_err-nothing
while_loop-returns-in_err-nothing t c = grind (arith, nat_tests)

pub while_loop-loop_head-requires : goal.while_loop-loop_head-requires
while_loop-loop_head-requires t c = search rules

pub while_loop-branch-around-requires : goal.while_loop-branch-around-requires
while_loop-branch-around-requires t c κs = search rules

pub while_loop-drop-nothing-requires : goal.while_loop-drop-nothing-requires
while_loop-drop-nothing-requires t c κs = search rules

pub while_loop-returns-in_err-around : goal.while_loop-returns-in_err-around
while_loop-returns-in_err-around t c = grind (arith, nat_tests)

pub while_loop-then_branch-requires : goal.while_loop-then_branch-requires
while_loop-then_branch-requires t c = search rules

pub while_loop-branch-turn-requires : goal.while_loop-branch-turn-requires
while_loop-branch-turn-requires t c κs = search rules

pub while_loop-drop-around-requires : goal.while_loop-drop-around-requires
while_loop-drop-around-requires t c κs = search rules

pub while_loop-drop-around-requires-in_err-turn : goal.while_loop-drop-around-requires-in_err-turn
while_loop-drop-around-requires-in_err-turn t c κs = search rules
