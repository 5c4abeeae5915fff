-- Elements of lists.
use Rattle.std.proofs.Common.{◌≡◌, ℕ, zero, suc, List, [], ◌∷◌, Some, subst}
use Rattle.std.specs.Prelude.{slice_get}
use Rattle.std.specs.List.{AllByRecursion}

-- what is so of each element is so of one
pub of_element : {X : Type 0} (P : X → Type 0) (xs : List X) (k : ℕ) (x : X) → AllByRecursion P xs → slice_get xs k ≡ Some x → P x
of_element P [] k x all h = absurd (cc)
of_element P (y ∷ xs) zero x all h = let e : y ≡ x = cc in subst P e all.0
of_element P (y ∷ xs) (suc k) x all h = of_element P xs k x all.1 h
