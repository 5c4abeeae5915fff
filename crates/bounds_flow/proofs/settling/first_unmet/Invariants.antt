use Rattle.bounds_flow.specs.Settling.{MeetBelow}
use Rattle.bounds_flow.proofs.settling.first_unmet.Given as goal

abbrev pub invariant-loop-p : goal.invariant-loop-p
invariant-loop-p l = MeetBelow l.facts.table l.held l.p
