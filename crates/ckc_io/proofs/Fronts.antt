-- Lists that are written or read front by front.
use Rattle.std.proofs.Common.{◌≡◌, ℕ, ◌+◌, ◌-◌, ◌≤◌, ◌⊎◌, List, [], ◌++◌, length, take, drop, Option, Some, None, refl, sym, ap, ◌∙◌, append_assoc, arith, length-append, inl, inr, ⊎_elim}
use Rattle.std.proofs.lemmas.List.{append-nil, length-take-le, take_all, take_rest}
use Rattle.std.proofs.Math.Seq.{take-add}
use Rattle.ckc_io.specs.Whole.{Piece}
use Rattle.ckc_io.specs.Written.{grown}

-- growing by nothing
pub grown-nothing : (old : Option (List ℕ)) → grown old [] ≡ old
grown-nothing None = refl
grown-nothing (Some xs) = ap Some (append-nil xs)

-- growing twice
pub grown-grown : (old : Option (List ℕ)) (a b : List ℕ) → grown (grown old a) b ≡ grown old (a ++ b)
grown-grown None a b = refl
grown-grown (Some xs) a b = ap Some (append_assoc xs a b)

-- growing by a front, and then by a front of the rest
pub grown-take-drop : (old : Option (List ℕ)) (text : List ℕ) (m n : ℕ) → grown (grown old (take m text)) (take n (drop m text)) ≡ grown old (take (m + n) text)
grown-take-drop old text m n =
    grown-grown old (take m text) (take n (drop m text)) ∙ ap (grown old) (sym (take-add m n text))

-- the same, where the rest is a slice
pub grown_rest : (old now next : Option (List ℕ)) (text : List ℕ) (at count : ℕ) → now ≡ grown old (take at text) → next ≡ grown now (take count (take (length text - at) (drop at text))) → next ≡ grown old (take (at + count) text)
grown_rest old now next text at count before after =
    after ∙ ap (λ xs. grown now (take count xs)) (take_rest text at) ∙ ap (λ o. grown o (take count (drop at text))) before ∙ grown-take-drop old text at count

-- there is one file at most
pub same_file : (there : Option (List ℕ)) (a b : List ℕ) → there ≡ Some a → there ≡ Some b → a ≡ b
same_file there a b is_a is_b = cc

module _ (file old new : List ℕ) (most count : ℕ) (front : old ≡ take (length old) file) (piece : Piece file old new most count) where
  count_added : length new ≡ length old + count
  count_added =
      ap length piece.longer ∙ length-append old _ ∙ ap (λ n. length old + n) (length-take-le count (drop (length old) file) piece.within)

  -- a front that a piece makes longer is a front
  pub front_longer : new ≡ take (length new) file
  front_longer =
      piece.longer ∙ ap (λ xs. xs ++ take count (drop (length old) file)) front ∙ sym (take-add (length old) count file) ∙ ap (λ n. take n file) (sym count_added)

  -- a front that isn't longer than the file or than what is wanted is what is wanted
  whole_front : length new ≤ most → (length new ≡ most) ⊎ (length file ≤ length new) → new ≡ take most file
  whole_front fits (inl full) = front_longer ∙ ap (λ n. take n file) full
  whole_front fits (inr ends) =
      front_longer ∙ take_all (length new) file ends ∙ sym (take_all most file (omega arith))

  -- a piece with no byte leaves what is wanted
  at_end : count ≡ 0 → length new ≤ most → (length new ≡ most) ⊎ (length file ≤ length new)
  at_end none fits =
      ⊎_elim (λ full. inl (omega (arith, count_added))) (λ ends. inr (omega (arith, count_added))) (piece.none none)

  pub front_whole : length new ≤ most → (count ≡ 0) ⊎ (length new ≡ most) → new ≡ take most file
  front_whole fits (inl none) = whole_front fits (at_end none fits)
  front_whole fits (inr full) = whole_front fits (inl full)
