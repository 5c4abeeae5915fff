use Rattle.std.proofs.Common.{◌+◌, ◌-◌, ap, ◌∙◌, arith}
use Rattle.bounds_flow.specs.Flows.{Knowledge}
use Rattle.region_typing_rules.specs.Knowing.{without_locals}
use Rattle.region_typing_flow.proofs.Assigned.{left_more}
use Rattle.region_typing_flow.proofs.steps.leave.Goals as goal

pub overflow_add-local : goal.overflow_add-local
overflow_add-local c = omega (arith, c.is_flow.ensures.few)

pub loop-i-preserved : goal.loop-i-preserved
loop-i-preserved c = record {
  left = left_more (c.args.local + c.loop-i.i) (c.args.local + (c.loop-i.i + 1)) (c.args.count - c.loop-i.i) (c.args.count - (c.loop-i.i + 1)) c.loop-i.flow c.leave.new.self (without_locals c.args.local c.args.count c.args.flow.now) (omega arith) (omega (arith, c.loop-i-test.true)) c.in_ok-leave.ensures.ok c.loop-i.invariant.left;
  vars = ap (λ (f : Knowledge). f.vars) c.in_ok-leave.ensures.ok ∙ c.loop-i.invariant.vars;
}
