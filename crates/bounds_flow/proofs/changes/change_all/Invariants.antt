use Rattle.std.proofs.Common.{◌≡◌, ◌++◌, drop, map, take}
use Rattle.bounds_flow.specs.Changes.{changed}
use Rattle.bounds_flow.proofs.changes.change_all.Given as goal

abbrev pub invariant-loop-h : goal.invariant-loop-h
invariant-loop-h l = l.held ≡ map (changed l.assigned l.change) (take l.h-index l.initial.held) ++ drop l.h-index l.initial.held
