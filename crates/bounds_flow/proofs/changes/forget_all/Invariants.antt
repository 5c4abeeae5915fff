use Rattle.std.proofs.Common.{◌≡◌, fold, take}
use Rattle.bounds_flow.specs.Pointers.{maybe_null}
use Rattle.bounds_flow.specs.Flows.{change_at}
use Rattle.bounds_flow.proofs.changes.forget_all.Given as goal

abbrev pub invariant-loop-p : goal.invariant-loop-p
invariant-loop-p l = l.held ≡ fold (λ held p. change_at p maybe_null held) l.initial.held (take l.p-index l.pointers)
