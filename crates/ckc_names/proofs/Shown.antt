-- What is shown of the parts of a list.
use Rattle.std.proofs.Common.{◌≡◌, Bool, ◌||◌, List, [], ◌∷◌, map, refl, ap}
use Rattle.std.specs.List.{list_any}

-- what is shown of one is shown of any
pub any_shown : {X Y : Type 0} (p : Y → Bool) (g : X → Y) (xs : List X) → list_any p (map g xs) ≡ list_any (λ x. p (g x)) xs
any_shown p g [] = refl
any_shown p g (x ∷ xs) = ap (λ b. p (g x) || b) (any_shown p g xs)
