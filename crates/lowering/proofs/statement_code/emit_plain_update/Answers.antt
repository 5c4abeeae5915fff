use Rattle.std.proofs.Common.{length, refl, arith}
use Rattle.std.proofs.lemmas.Result.{IfOk-weaker}
use Rattle.pointer_modes.specs.Types.{ctype}
use Rattle.check_insertion.specs.Erased.{expression, place}
use Rattle.lowering.specs.Code.{place_size, place_code}
use Rattle.lowering.proofs.Sizes.{length_place}
use Rattle.lowering.proofs.Emitting.{place_after, update_emitted}
use Rattle.lowering.proofs.statement_code.emit_plain_update.Goals as goal

pub returns : goal.returns
returns c =
    IfOk-weaker c.emit_result.result _ _ (λ _ e.
    update_emitted c.args.slot (ctype c.args.ctype.now) (place c.args.cell.now) (expression c.args.value.now) c.args.operator c.args.site c.operator_op-op.result c.load_op.result c.store_op.result c.has_one_byte.result
    c.args.ops.now.items c.emit_place.new.ops.items c.put_two.new.ops.items c.emit_expression.new.ops.items c.emit_result.new.ops.items
    c.operator_op-op.ensures c.load_op.ensures c.has_one_byte.ensures c.store_op.ensures c.in_ok-emit_place.ensures c.in_ok-put_two.ensures c.in_ok-emit_expression.ensures e)
    c.emit_result.ensures

pub emit_expression-requires-clause-room : goal.emit_expression-requires-clause-room
emit_expression-requires-clause-room c =
    let old = c.args.ops.now.items in
    let cell = place c.args.cell.now in
    let there = place_after old c.emit_place.new.ops.items (place_code c.args.slot (length old) cell) (place_size cell) (length_place c.args.slot (length old) cell) c.in_ok-emit_place.ensures in
    let loaded = place_after c.emit_place.new.ops.items c.put_two.new.ops.items _ 2 refl c.in_ok-put_two.ensures in
    omega (arith, c.requires.room, there, loaded)
