-- Lists that are made of others, item by item.
use Rattle.std.proofs.Common.{◌≡◌, ℕ, ◌+◌, ◌<◌, ◌≤◌, List, [], ◌∷◌, ◌++◌, length, map, drop, get_or, ap, sym, ◌∙◌, append_assoc}
use Rattle.std.proofs.lemmas.List.{append-nil, map-append}
use Rattle.region_typing_scope.proofs.Steps.{parts_at, no_parts}

module _ {C S X : Type 0} (view : C → S) (of : List S → List X) where
  -- what is made of an item more
  pub made_more : ((s : S) (ss : List S) → of (s ∷ ss) ≡ of (s ∷ []) ++ of ss) → (xs : List C) (k : ℕ) (x : C) (all built new : List X) → k < length xs → x ≡ get_or xs k x → new ≡ built ++ of (view x ∷ []) → all ≡ built ++ of (map view (drop k xs)) → all ≡ new ++ of (map view (drop (k + 1) xs))
  made_more one xs k x all built new less is are so_far =
      so_far
      ∙ ap (λ ss. built ++ of ss) (parts_at view xs k x less is)
      ∙ ap (λ ys. built ++ ys) (one (view x) (map view (drop (k + 1) xs)))
      ∙ sym (append_assoc built (of (view x ∷ [])) (of (map view (drop (k + 1) xs))))
      ∙ ap (λ ys. ys ++ of (map view (drop (k + 1) xs))) (sym are)

  -- what is made of all items
  pub made_all : of [] ≡ [] → (xs : List C) (k : ℕ) (all built : List X) → length xs ≤ k → all ≡ built ++ of (map view (drop k xs)) → built ≡ all
  made_all none xs k all built end so_far = sym (so_far ∙ ap (λ ss. built ++ of ss) (no_parts view xs k end) ∙ ap (λ ys. built ++ ys) none ∙ append-nil built)

-- an item that is pushed
pub item_pushed : {C X : Type 0} (view : C → X) (old new : List C) (x : C) (y : X) → new ≡ old ++ x ∷ [] → view x ≡ y → map view new ≡ map view old ++ y ∷ []
item_pushed view old new x y are is = ap (map view) are ∙ map-append view old (x ∷ []) ∙ ap (λ z. map view old ++ z ∷ []) is
