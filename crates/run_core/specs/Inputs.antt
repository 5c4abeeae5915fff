-- Which input number a run takes, and which are left.
use Rattle.std.specs.Prelude.{◌≡◌, List, [], ◌∷◌}
use Rattle.std.proofs.Common.{ℤ, pos}

-- the next input number, and 0 behind the last
abbrev pub TakesInput : List ℤ → ℤ → List ℤ → Type 0
TakesInput [] number after = (number ≡ pos 0) × (after ≡ [])
TakesInput (next ∷ left) number after = (number ≡ next) × (after ≡ left)
