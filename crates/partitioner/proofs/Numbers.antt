-- The numbers of a list, item by item.
use Rattle.std.proofs.Common.{◌≡◌, ℕ, ◌+◌, ◌<◌, ◌≤◌, List, [], ◌∷◌, ◌++◌, length, map, drop, get_or, ap, sym, ◌∙◌, append_assoc}
use Rattle.std.proofs.lemmas.List.{append-nil, drop_more, drop_all}

module _ {C S : Type 0} (view : C → S) (from : ℕ → List S → List ℕ) where
  -- an item more
  pub numbers_more : ((n : ℕ) (s : S) (ss : List S) → from n (s ∷ ss) ≡ from n (s ∷ []) ++ from (n + 1) ss) → (xs : List C) (n : ℕ) (x : C) (all old new : List ℕ) → n < length xs → x ≡ get_or xs n x → new ≡ old ++ from n (view x ∷ []) → all ≡ old ++ from n (map view (drop n xs)) → all ≡ new ++ from (n + 1) (map view (drop (n + 1) xs))
  numbers_more one xs n x all old new less is are so_far =
      let rest = drop (n + 1) xs in
      so_far
      ∙ ap (λ ys. old ++ from n (map view ys)) (drop_more xs n x less ∙ ap (λ y. y ∷ rest) (sym is))
      ∙ ap (λ ys. old ++ ys) (one n (view x) (map view rest))
      ∙ sym (append_assoc old (from n (view x ∷ [])) (from (n + 1) (map view rest)))
      ∙ ap (λ ys. ys ++ from (n + 1) (map view rest)) (sym are)

  -- all items
  pub numbers_all : ((n : ℕ) → from n [] ≡ []) → (xs : List C) (n : ℕ) (all built : List ℕ) → length xs ≤ n → all ≡ built ++ from n (map view (drop n xs)) → built ≡ all
  numbers_all none xs n all built end so_far =
      sym (so_far ∙ ap (λ ys. built ++ from n (map view ys)) (drop_all n xs end) ∙ ap (λ ys. built ++ ys) (none n) ∙ append-nil built)
