use Rattle.std.proofs.lemmas.Result.{IfOk-weaker}
use Rattle.check_insertion.specs.Erased.{expression}
use Rattle.lowering.specs.Views.{targets_of}
use Rattle.lowering.proofs.Emitting.{local_update_emitted}
use Rattle.lowering.proofs.statement_code.emit_local_update.Goals as goal

pub returns : goal.returns
returns c =
    IfOk-weaker c.emit_result.result _ _ (λ _ e.
    local_update_emitted (targets_of c.args.targets) c.args.char c.args.local (expression c.args.value.now) c.args.operator c.args.site c.operator_op-op.result
    c.args.ops.now.items c.put.new.ops.items c.emit_expression.new.ops.items c.emit_result.new.ops.items
    c.operator_op-op.ensures c.in_ok-put.ensures c.in_ok-emit_expression.ensures e)
    c.emit_result.ensures
