-- Lists that are made of others, item by item.
use Rattle.std.proofs.Common.{◌≡◌, ℕ, ◌+◌, ◌<◌, ◌≤◌, List, [], ◌∷◌, ◌++◌, length, drop, get_or, refl, ap, sym, ◌∙◌}
use Rattle.std.proofs.lemmas.List.{drop_more, drop_all}

-- what a list shows, before a rest: of each item its view, put before what follows
abbrev pub before : {B S T : Type 0} → (B → S) → (S → T → T) → List B → T → T
before view put [] rest = rest
before view put (y ∷ ys) rest = put (view y) (before view put ys rest)

module _ {A B S T : Type 0} (view : B → S) (put : S → T → T) (whole : List A → T) where
  before_pushed : (ys : List B) (y : B) (rest : T) → before view put (ys ++ y ∷ []) rest ≡ before view put ys (put (view y) rest)
  before_pushed [] y rest = refl
  before_pushed (z ∷ zs) y rest = ap (put (view z)) (before_pushed zs y rest)

  before_none : (seen : List B → T) → seen [] ≡ whole [] → ((y : B) (ys : List B) → seen (y ∷ ys) ≡ put (view y) (seen ys)) → (ys : List B) → before view put ys (whole []) ≡ seen ys
  before_none seen none one [] = sym none
  before_none seen none one (y ∷ ys) = ap (put (view y)) (before_none seen none one ys) ∙ sym (one y ys)

  -- an item more
  pub made_more : (made : A → S) → ((x : A) (rest : List A) → whole (x ∷ rest) ≡ put (made x) (whole rest)) → (xs : List A) (k : ℕ) (x : A) (ys new : List B) (y : B) → k < length xs → x ≡ get_or xs k x → new ≡ ys ++ y ∷ [] → view y ≡ made x → whole xs ≡ before view put ys (whole (drop k xs)) → whole xs ≡ before view put new (whole (drop (k + 1) xs))
  made_more made one xs k x ys new y less is pushed same so_far =
      let rest = drop (k + 1) xs in
      so_far
      ∙ ap (λ zs. before view put ys (whole zs)) (drop_more xs k x less ∙ ap (λ z. z ∷ rest) (sym is))
      ∙ ap (before view put ys) (one x rest ∙ ap (λ s. put s (whole rest)) (sym same))
      ∙ sym (before_pushed ys y (whole rest))
      ∙ ap (λ zs. before view put zs (whole rest)) (sym pushed)

  -- all items
  pub made_all : (seen : List B → T) → seen [] ≡ whole [] → ((y : B) (ys : List B) → seen (y ∷ ys) ≡ put (view y) (seen ys)) → (xs : List A) (k : ℕ) (ys : List B) → length xs ≤ k → whole xs ≡ before view put ys (whole (drop k xs)) → seen ys ≡ whole xs
  made_all seen none one xs k ys end so_far =
      sym (so_far ∙ ap (λ zs. before view put ys (whole zs)) (drop_all k xs end) ∙ before_none seen none one ys)
