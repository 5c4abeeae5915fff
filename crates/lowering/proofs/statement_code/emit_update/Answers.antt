use Rattle.std.proofs.Common.{sym, ap, ◌∙◌}
use Rattle.std.proofs.lemmas.Result.{IfOk-weaker}
use Rattle.pointer_modes.specs.Types.{ctype}
use Rattle.ckc_core.specs.Steps.{is_char}
use Rattle.check_insertion.specs.Erased.{Through, expression, place, index}
use Rattle.lowering.specs.Code.{byte_size, expression_size}
use Rattle.lowering.proofs.Emitting.{update_by_shape, room_by_shape}
use Rattle.lowering.proofs.statement_code.emit_update.Goals as goal

pub returns : goal.returns
returns c =
    IfOk-weaker c.emit_ended.result _ _ (λ _ e.
    update_by_shape c.args.slot (ctype c.args.ctype.now) (place c.args.cell.now) (expression c.in-Through.pointer.value) (index c.in-Through.index) (expression c.in-Element.number.value) c.in-Element.size c.in-Through.offset c.as_slice.result.now (expression c.args.value.now) c.args.operator c.args.site c.args.end c.in-Some.reading
    (ap place c.in-Through.is ∙ ap (Through (expression c.in-Through.pointer.value) (index c.in-Through.index) c.in-Through.offset) (sym c.as_slice.ensures.value)) (ap index c.in-Element.is) c.in-Some.is c.operator_op.result c.has_one_byte.result
    c.args.ops.now.items c.emit_before_value.new.ops.items c.emit_old_value.new.ops.items c.emit_expression.new.ops.items c.emit_kept_result.new.ops.items c.emit_ended.new.ops.items
    c.operator_op.ensures c.has_one_byte.ensures c.in_ok-emit_before_value.ensures c.in_ok-emit_old_value.ensures c.in_ok-emit_expression.ensures c.in_ok-emit_kept_result.ensures e)
    c.emit_ended.ensures

pub emit_expression-requires-clause-room : goal.emit_expression-requires-clause-room
emit_expression-requires-clause-room c =
    room_by_shape c.args.slot (ctype c.args.ctype.now) (place c.args.cell.now) (expression c.in-Through.pointer.value) (index c.in-Through.index) (expression c.in-Element.number.value) c.in-Element.size c.in-Through.offset c.as_slice.result.now c.args.end c.in-Some.reading
    (ap place c.in-Through.is ∙ ap (Through (expression c.in-Through.pointer.value) (index c.in-Through.index) c.in-Through.offset) (sym c.as_slice.ensures.value)) (ap index c.in-Element.is) c.in-Some.is (expression_size (expression c.args.value.now)) (byte_size (is_char (ctype c.args.ctype.now)))
    c.args.ops.now.items c.emit_before_value.new.ops.items c.emit_old_value.new.ops.items c.in_ok-emit_before_value.ensures c.in_ok-emit_old_value.ensures c.requires.room
