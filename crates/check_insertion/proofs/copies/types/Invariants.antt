use Rattle.std.proofs.Common.{◌≡◌, ◌∷◌, map, drop}
use Rattle.pointer_modes.specs.Types.{ctype}
use Rattle.check_insertion.proofs.Made.{before}
use Rattle.check_insertion.proofs.copies.types.Given as goal

-- the types so far, and those that are left
abbrev pub invariant-loop-t : goal.invariant-loop-t
invariant-loop-t l = map ctype l.types ≡ before ctype (λ s ss. s ∷ ss) l.copies.items (map ctype (drop l.t-index l.types))
