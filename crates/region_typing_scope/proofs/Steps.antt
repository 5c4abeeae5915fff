-- Rules of the parts of a list, one after another.
use Rattle.std.proofs.Common.{◌≡◌, ℕ, ◌+◌, ◌<◌, ◌≤◌, List, [], ◌∷◌, length, map, drop, get_or, ap, sym, ◌∙◌}
use Rattle.std.proofs.lemmas.List.{drop_more, drop_all}
use Rattle.region_typing_rules.specs.Verdicts.{Stop, Verdict, Passes, Stops, passing}

-- the parts from one on
pub parts_at : {X Y : Type 0} (view : X → Y) (xs : List X) (i : ℕ) (x : X) → i < length xs → x ≡ get_or xs i x → map view (drop i xs) ≡ view x ∷ map view (drop (i + 1) xs)
parts_at view xs i x less is = ap (map view) (drop_more xs i x less ∙ ap (λ y. y ∷ drop (i + 1) xs) (sym is))

pub no_parts : {X Y : Type 0} (view : X → Y) (xs : List X) (i : ℕ) → length xs ≤ i → map view (drop i xs) ≡ []
no_parts view xs i end = ap (map view) (drop_all i xs end)

module _ {Y A B : Type 0} (whole : List Y → A → Verdict B) (step : Y → A → Verdict A) (by_step : (y : Y) (ys : List Y) (a : A) → whole (y ∷ ys) a ≡ passing (step y a) (λ b. whole ys b)) where
  -- a part more
  pub part_more : {X : Type 0} (view : X → Y) (xs : List X) (i : ℕ) (x : X) (all : Verdict B) (a b : A) → i < length xs → x ≡ get_or xs i x → all ≡ whole (map view (drop i xs)) a → step (view x) a ≡ Passes b → all ≡ whole (map view (drop (i + 1) xs)) b
  part_more view xs i x all a b less is so_far passes =
      so_far ∙ ap (λ ys. whole ys a) (parts_at view xs i x less is) ∙ by_step (view x) (map view (drop (i + 1) xs)) a ∙ ap (λ v. passing v (λ c. whole (map view (drop (i + 1) xs)) c)) passes

  -- a part that breaks a rule
  pub part_breaks : {X : Type 0} (view : X → Y) (xs : List X) (i : ℕ) (x : X) (all : Verdict B) (a : A) (stop : Stop) → i < length xs → x ≡ get_or xs i x → all ≡ whole (map view (drop i xs)) a → step (view x) a ≡ Stops stop → all ≡ Stops stop
  part_breaks view xs i x all a stop less is so_far breaks =
      so_far ∙ ap (λ ys. whole ys a) (parts_at view xs i x less is) ∙ by_step (view x) (map view (drop (i + 1) xs)) a ∙ ap (λ v. passing v (λ c. whole (map view (drop (i + 1) xs)) c)) breaks

  -- all parts
  pub parts_done : {X : Type 0} (view : X → Y) (xs : List X) (i : ℕ) (all : Verdict B) (a : A) → length xs ≤ i → all ≡ whole (map view (drop i xs)) a → all ≡ whole [] a
  parts_done view xs i all a end so_far = so_far ∙ ap (λ ys. whole ys a) (no_parts view xs i end)
