use Rattle.std.proofs.Common.{◌≡◌, ◌+◌, ◌++◌, length, refl, sym, ap, ◌∙◌, subst, arith, rules}
use Rattle.std.proofs.lemmas.Result.{IfOk-weaker}
use Rattle.check_insertion.specs.declared.erased.Stmt.{the_lemmas}
use Rattle.check_insertion.specs.Erased.{expression, statement}
use Rattle.check_insertion.proofs.Rows.{block_of}
use Rattle.lowering.specs.Code.{Places, statement_size, statement_code}
use Rattle.lowering.specs.Sized.{SizedStatement}
use Rattle.lowering.specs.Views.{targets_of}
use Rattle.lowering.proofs.Emitting.{place_after, after_condition, after_statement, if_emitted, loop_emitted, statement_sized, statement_room, statements_emitted}
use Rattle.lowering.proofs.statement_code.+statements.Goals as goal

pub emit_statement-returns-in-Block : goal.emit_statement-returns-in-Block
emit_statement-returns-in-Block t c =
    let old = c.args.ops.now.items in
    let shape = block_of c.args.stmt.now c.in-Block.inner c.as_slice-in-Block.result.now c.in-Block.is c.as_slice-in-Block.ensures.value in
    IfOk-weaker c.emit_statements.result _ _ (λ _ e. e ∙ ap (λ x. old ++ statement_code (targets_of c.args.targets) (length old) x) (sym shape)) c.emit_statements.ensures

pub emit_if-returns : goal.emit_if-returns
emit_if-returns t c =
    IfOk-weaker c.emit_statement-2.result _ _ (λ _ e.
    if_emitted (targets_of c.args.targets) (expression c.args.condition.now) (statement c.args.consequent.now) (statement c.args.alternative.now) (c.statement_size.result + 1) c.statement_size-2.result c.args.ops.now.items c.emit_condition.new.ops.items c.emit_statement.new.ops.items c.emit_jump.new.ops.items c.emit_statement-2.new.ops.items
    (ap (λ n. n + 1) c.statement_size.ensures) c.statement_size-2.ensures c.in_ok-emit_condition.ensures c.in_ok-emit_statement.ensures c.in_ok-emit_jump.ensures e)
    c.emit_statement-2.ensures

pub emit_loop-returns : goal.emit_loop-returns
emit_loop-returns t c =
    IfOk-weaker c.end_loop.result _ _ (λ _ e.
    loop_emitted (targets_of c.args.targets) (targets_of c.loop_targets-inner.result) (expression c.args.condition.now) (statement c.args.body.now) (statement c.args.step.now) c.place_behind-turn.result c.statement_size.result c.statement_size-after.result c.expression_size.result c.args.ops.now.items
    c.begin_loop.new.ops.items c.emit_statement.new.ops.items c.emit_statement-2.new.ops.items c.end_loop.new.ops.items
    c.place_behind-turn.ensures c.statement_size.ensures c.statement_size-after.ensures c.expression_size.ensures c.loop_targets-inner.ensures c.in_ok-begin_loop.ensures c.in_ok-emit_statement.ensures c.in_ok-emit_statement-2.ensures e)
    c.end_loop.ensures

pub emit_statements-loop-stmt-preserved : goal.emit_statements-loop-stmt-preserved
emit_statements-loop-stmt-preserved t c =
    statements_emitted (targets_of c.args.targets) c.args.stmts.now c.loop-stmt.stmt-index c.stmt-item.result c.loop-stmt.ops.items c.emit_statement.new.ops.items _ (omega (arith, c.loop-stmt-test.true)) c.stmt-item.is c.loop-stmt.invariant c.in_ok-emit_statement.ensures

-- ---- room for what is left

pub emit_statement-emit_statements-requires : goal.emit_statement-emit_statements-requires
emit_statement-emit_statements-requires t c =
    let shape = block_of c.args.stmt.now c.in-Block.inner c.as_slice-in-Block.result.now c.in-Block.is c.as_slice-in-Block.ensures.value in
    (search (rules, the_lemmas), (c.requires.slot, (subst (SizedStatement c.args.targets.scratch) shape c.requires.sized, omega (arith, c.requires.room, ap statement_size shape))))

pub emit_if-emit_statement-requires : goal.emit_if-emit_statement-requires
emit_if-emit_statement-requires t c =
    let tested = after_condition c.args.targets.scratch (expression c.args.condition.now) _ c.args.ops.now.items c.emit_condition.new.ops.items c.in_ok-emit_condition.ensures in
    (search (rules, the_lemmas), (c.requires.slot, (c.requires.sized.1, omega (arith, c.requires.room, tested))))

pub emit_if-emit_jump-requires : goal.emit_if-emit_jump-requires
emit_if-emit_jump-requires t c =
    let tested = after_condition c.args.targets.scratch (expression c.args.condition.now) _ c.args.ops.now.items c.emit_condition.new.ops.items c.in_ok-emit_condition.ensures in
    let taken = after_statement (targets_of c.args.targets) (statement c.args.consequent.now) c.emit_condition.new.ops.items c.emit_statement.new.ops.items c.in_ok-emit_statement.ensures in
    omega (arith, c.requires.room, tested, taken, c.statement_size-2.ensures)

pub emit_if-emit_statement-requires-2 : goal.emit_if-emit_statement-requires-2
emit_if-emit_statement-requires-2 t c =
    let tested = after_condition c.args.targets.scratch (expression c.args.condition.now) _ c.args.ops.now.items c.emit_condition.new.ops.items c.in_ok-emit_condition.ensures in
    let taken = after_statement (targets_of c.args.targets) (statement c.args.consequent.now) c.emit_condition.new.ops.items c.emit_statement.new.ops.items c.in_ok-emit_statement.ensures in
    let jumped = place_after c.emit_statement.new.ops.items c.emit_jump.new.ops.items _ 1 refl c.in_ok-emit_jump.ensures in
    (search (rules, the_lemmas), (c.requires.slot, (c.requires.sized.2, omega (arith, c.requires.room, tested, taken, jumped))))

pub emit_loop-emit_statement-requires : goal.emit_loop-emit_statement-requires
emit_loop-emit_statement-requires t c =
    let begun = place_after c.args.ops.now.items c.begin_loop.new.ops.items _ 2 refl c.in_ok-begin_loop.ensures in
    let same : c.loop_targets-inner.result.scratch ≡ c.args.targets.scratch = ap (λ (p : Places). p.scratch) c.loop_targets-inner.ensures in
    (search (rules, the_lemmas), (omega (arith, c.requires.slot, same), (subst (λ k. SizedStatement k (statement c.args.body.now)) (sym same) c.requires.sized.1, omega (arith, c.requires.room, begun))))

pub emit_loop-emit_statement-requires-2 : goal.emit_loop-emit_statement-requires-2
emit_loop-emit_statement-requires-2 t c =
    let begun = place_after c.args.ops.now.items c.begin_loop.new.ops.items _ 2 refl c.in_ok-begin_loop.ensures in
    let turned = after_statement (targets_of c.loop_targets-inner.result) (statement c.args.body.now) c.begin_loop.new.ops.items c.emit_statement.new.ops.items c.in_ok-emit_statement.ensures in
    (search (rules, the_lemmas), (c.requires.slot, (c.requires.sized.2, omega (arith, c.requires.room, begun, turned))))

pub emit_loop-end_loop-requires-clause-room : goal.emit_loop-end_loop-requires-clause-room
emit_loop-end_loop-requires-clause-room t c =
    let begun = place_after c.args.ops.now.items c.begin_loop.new.ops.items _ 2 refl c.in_ok-begin_loop.ensures in
    let turned = after_statement (targets_of c.loop_targets-inner.result) (statement c.args.body.now) c.begin_loop.new.ops.items c.emit_statement.new.ops.items c.in_ok-emit_statement.ensures in
    let stepped = after_statement (targets_of c.args.targets) (statement c.args.step.now) c.emit_statement.new.ops.items c.emit_statement-2.new.ops.items c.in_ok-emit_statement-2.ensures in
    omega (arith, c.requires.room, begun, turned, stepped)

pub emit_statements-emit_statement-requires : goal.emit_statements-emit_statement-requires
emit_statements-emit_statement-requires t c = (
  search (rules, the_lemmas),
  (c.requires.slot, (statement_sized c.args.targets.scratch c.args.stmts.now c.loop-stmt.stmt-index c.stmt-item.result (omega (arith, c.loop-stmt-test.true)) c.stmt-item.is c.requires.sized, statement_room (targets_of c.args.targets) c.args.stmts.now c.loop-stmt.stmt-index c.stmt-item.result c.loop-stmt.ops.items c.args.ops.now.items (omega (arith, c.loop-stmt-test.true)) c.stmt-item.is c.loop-stmt.invariant c.requires.room)),
)
