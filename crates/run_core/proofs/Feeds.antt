-- The line feed that a text lacks.
use Rattle.std.proofs.Common.{◌≡◌, ℕ, zero, suc, List, [], ◌∷◌, length, get_or, if◌then◌else◌, refl, arith}
use Rattle.std.specs.Prelude.{◌==◌}
use Rattle.run_core.specs.Texts.{missing_feed}

-- it depends on the last byte
pub missing_behind : (text : List ℕ) (n : ℕ) → length text ≡ suc n → missing_feed text ≡ (if get_or text n 0 == 10 then [] else 10 ∷ [])
missing_behind [] n h = cc
missing_behind (b ∷ []) zero h = refl
missing_behind (b ∷ []) (suc n) h = absurd (omega arith)
missing_behind (b ∷ c ∷ bytes) zero h = absurd (omega arith)
missing_behind (b ∷ c ∷ bytes) (suc n) h = missing_behind (c ∷ bytes) n (omega arith)
