use Rattle.std.proofs.Common.{◌≡◌, ◌+◌, ◌-◌}
use Rattle.region_typing_rules.specs.Knowing.{without_locals}
use Rattle.region_typing_flow.proofs.steps.leave.Given as goal

-- those that are left leave, from a flow with as many variables
abbrev pub invariant-loop-i : goal.invariant-loop-i
invariant-loop-i l = record {
  left : without_locals (l.local + l.i) (l.count - l.i) l.flow ≡ without_locals l.local l.count l.fn.flow;
  vars : l.flow.vars ≡ l.fn.flow.vars;
}
