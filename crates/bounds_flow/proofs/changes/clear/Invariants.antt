use Rattle.std.proofs.Common.{◌≡◌, ◌++◌, drop, false, map, take}
use Rattle.bounds_flow.proofs.changes.clear.Given as goal

abbrev pub invariant-loop-was : goal.invariant-loop-was
invariant-loop-was l = l.assigned ≡ map (λ was. false) (take l.was-index l.initial.assigned) ++ drop l.was-index l.initial.assigned
