-- What giving members to a struct does to the list of all.
use Rattle.std.proofs.Common.{◌≡◌, ℕ, zero, suc, Bool, List, [], ◌∷◌, map, get_or, set, refl, ap}
use Rattle.pointer_modes.specs.declared.structs.Declared.{Declared}
use Rattle.pointer_modes.specs.Types.{Structure, member}
use Rattle.pointer_modes.specs.Declaring.{with_members}
use Rattle.pointer_modes.specs.Insides.{structure}

-- a struct that is written over one with the same taint gives it its members
pub given : (xs : List Declared) (k : ℕ) (d y : Declared) → y.tainted ≡ (get_or xs k d).tainted → map structure (set xs k y) ≡ with_members (map structure xs) k (map member y.members.items)
given [] k d y same = refl
given (x ∷ xs) zero d y same = ap (λ (tainted : Bool). let s : Structure = record { tainted = tainted; members = map member y.members.items } in s ∷ map structure xs) same
given (x ∷ xs) (suc k) d y same = ap (λ ys. structure x ∷ ys) (given xs k d y same)
