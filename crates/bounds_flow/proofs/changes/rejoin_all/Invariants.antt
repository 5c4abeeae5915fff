use Rattle.std.proofs.Common.{◌≡◌, ◌++◌, drop, take}
use Rattle.bounds_flow.specs.Flows.{rejoined_held}
use Rattle.bounds_flow.proofs.changes.rejoin_all.Given as goal

abbrev pub invariant-loop-i : goal.invariant-loop-i
invariant-loop-i l = l.held ≡ rejoined_held (take l.i l.before) (take l.i l.initial.held) (take l.i l.others) ++ drop l.i l.initial.held
