use Rattle.std.proofs.Common.{length, arith}
use Rattle.std.proofs.lemmas.Result.{IfOk-weaker}
use Rattle.pointer_modes.specs.Types.{ctype}
use Rattle.check_insertion.specs.Erased.{expression, place}
use Rattle.lowering.specs.Code.{before_value_size, before_value}
use Rattle.lowering.proofs.Sizes.{length_before}
use Rattle.lowering.proofs.Emitting.{place_after, store_emitted}
use Rattle.lowering.proofs.statement_code.emit_store.Goals as goal

pub returns : goal.returns
returns c =
    IfOk-weaker c.emit_behind_value.result _ _ (λ _ e.
    store_emitted (ctype c.args.ctype.now) (place c.args.cell.now) (expression c.args.value.now) c.args.end c.args.targets.scratch c.args.ops.now.items c.emit_before_value.new.ops.items c.emit_expression.new.ops.items c.emit_behind_value.new.ops.items
    c.in_ok-emit_before_value.ensures c.in_ok-emit_expression.ensures e)
    c.emit_behind_value.ensures

pub emit_expression-requires-clause-room : goal.emit_expression-requires-clause-room
emit_expression-requires-clause-room c =
    let old = c.args.ops.now.items in
    let cell = place c.args.cell.now in
    omega (arith, c.requires.room, place_after old c.emit_before_value.new.ops.items (before_value c.args.targets.scratch (length old) cell) (before_value_size cell) (length_before c.args.targets.scratch (length old) cell) c.in_ok-emit_before_value.ensures)
