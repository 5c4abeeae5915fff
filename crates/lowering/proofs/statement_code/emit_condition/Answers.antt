use Rattle.std.proofs.Common.{arith}
use Rattle.std.proofs.lemmas.Result.{IfOk-weaker}
use Rattle.check_insertion.specs.Erased.{expression}
use Rattle.lowering.proofs.Emitting.{after_expression, condition_emitted}
use Rattle.lowering.proofs.statement_code.emit_condition.Goals as goal

pub returns : goal.returns
returns c =
    IfOk-weaker c.put.result _ _ (λ _ e.
    condition_emitted c.args.slot (expression c.args.condition.now) c.args.over c.place_behind-other.result c.args.ops.now.items c.emit_expression.new.ops.items c.put.new.ops.items
    c.place_behind-other.ensures c.in_ok-emit_expression.ensures e)
    c.put.ensures

pub place_behind-other-requires : goal.place_behind-other-requires
place_behind-other-requires c =
    omega (arith, c.requires.room, after_expression c.args.slot (expression c.args.condition.now) c.args.ops.now.items c.emit_expression.new.ops.items c.in_ok-emit_expression.ensures)
