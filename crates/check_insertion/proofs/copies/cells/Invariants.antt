use Rattle.std.proofs.Common.{◌≡◌, ◌∷◌, map, drop}
use Rattle.ckc_core.specs.Core.{initial}
use Rattle.check_insertion.proofs.Made.{before}
use Rattle.check_insertion.proofs.copies.cells.Given as goal

-- the cells so far, and those that are left
abbrev pub invariant-loop-c : goal.invariant-loop-c
invariant-loop-c l = map initial l.cells ≡ before initial (λ s ss. s ∷ ss) l.copies.items (map initial (drop l.c-index l.cells))
