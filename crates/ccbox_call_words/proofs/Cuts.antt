-- Where a text is cut.
use Rattle.std.proofs.Common.{◌≡◌, ℕ, suc, ◌+◌, ◌<◌, ◌==◌, Bool, true, false, List, [], ◌∷◌, length, Option, Some, None, option_map, refl, ap, ◌∙◌, Bor, arith}
use Rattle.std.specs.Option.{MatchOption}
use Rattle.std.specs.List.{position_or_len, before_first, after_first}
use Rattle.std.proofs.lemmas.Str.Pattern.{split_once_first, IsSplitOnceResult}
use Rattle.std.specs.Prelude.{if◌then◌else◌}
use Rattle.ccbox_call_words.specs.Requests.{pieces_of, with_byte}

-- what stands before the first such byte of a text, and what stands behind it
abbrev cut_at : ℕ → List ℕ → Option (List ℕ × List ℕ)
cut_at c [] = None
cut_at c (b ∷ bs) = if b == c then Some ([], bs) else option_map (λ cut. (b ∷ cut.0, cut.1)) (cut_at c bs)

abbrev more : ℕ → List ℕ × List ℕ → List ℕ × List ℕ
more b cut = (b ∷ cut.0, cut.1)

module _ (c : ℕ) where
  abbrev found : List ℕ → ℕ
  found bs = position_or_len (λ b. b == c) bs

  uncut : (bs : List ℕ) → found bs ≡ length bs → cut_at c bs ≡ None
  uncut [] h = refl
  uncut (b ∷ bs) h = by (b == c) refl (uncut bs)
    where
      by : (t : Bool) → (b == c) ≡ t → (found bs ≡ length bs → cut_at c bs ≡ None) → cut_at c (b ∷ bs) ≡ None
      by true is rest = let absurdity : 0 ≡ suc (length bs) = rw is at h in absurd (omega arith)
      by false is rest =
          let longer : 1 + found bs ≡ suc (length bs) = rw is at h in
          rw (is, rest (omega arith)) refl

  cut : (bs : List ℕ) → found bs < length bs → cut_at c bs ≡ Some (before_first (λ b. b == c) bs, after_first (λ b. b == c) bs)
  cut [] h = absurd (omega arith)
  cut (b ∷ bs) h = by (b == c) refl (cut bs)
    where
      by : (t : Bool) → (b == c) ≡ t → (found bs < length bs → cut_at c bs ≡ Some (before_first (λ b. b == c) bs, after_first (λ b. b == c) bs)) → cut_at c (b ∷ bs) ≡ Some (before_first (λ b. b == c) (b ∷ bs), after_first (λ b. b == c) (b ∷ bs))
      by true is rest = rw is refl
      by false is rest =
          let longer : 1 + found bs < suc (length bs) = rw is at h in
          let here : 1 + found bs ≡ suc (found bs) = omega arith in
          let behind : suc (found bs) + 1 ≡ suc (found bs + 1) = omega arith in
          rw (is, rest (omega arith), here, behind) refl

-- the texts of what `split_once` gives
abbrev pub parts : Bor (List ℕ) × Bor (List ℕ) → List ℕ × List ℕ
parts found = (found.0.now, found.1.now)

cut_is : (c : ℕ) (bs : List ℕ) (r : Option (Bor (List ℕ) × Bor (List ℕ))) → MatchOption r (position_or_len (λ b. b == c) bs ≡ length bs) (λ x. (position_or_len (λ b. b == c) bs < length bs) × (x.0.now ≡ before_first (λ b. b == c) bs) × (x.1.now ≡ after_first (λ b. b == c) bs)) → cut_at c bs ≡ option_map parts r
cut_is c bs None h = uncut c bs h
cut_is c bs (Some x) h = rw (h.1, h.2) (cut c bs h.0)

-- what `split_once` gives
pub split_is : (c : ℕ) (bs : List ℕ) (r : Option (Bor (List ℕ) × Bor (List ℕ))) → IsSplitOnceResult c bs r → c < 128 → cut_at c bs ≡ option_map parts r
split_is c bs r h ascii = cut_is c bs r (split_once_first c bs r h ascii)

-- the pieces of a text that is cut at its first comma, or isn't
abbrev pub pieces_by : List ℕ → Option (List ℕ × List ℕ) → List (List ℕ)
pieces_by bs None = bs ∷ []
pieces_by bs (Some cut) = cut.0 ∷ pieces_of cut.1

one_more : (b : ℕ) (bs : List ℕ) (r : Option (List ℕ × List ℕ)) → with_byte b (pieces_by bs r) ≡ pieces_by (b ∷ bs) (option_map (λ cut. (b ∷ cut.0, cut.1)) r)
one_more b bs None = refl
one_more b bs (Some cut) = refl

pieces_are : (bs : List ℕ) → pieces_of bs ≡ pieces_by bs (cut_at 44 bs)
pieces_are [] = refl
pieces_are (b ∷ bs) = by (b == 44) refl (pieces_are bs)
  where
    by : (t : Bool) → (b == 44) ≡ t → pieces_of bs ≡ pieces_by bs (cut_at 44 bs) → pieces_of (b ∷ bs) ≡ pieces_by (b ∷ bs) (cut_at 44 (b ∷ bs))
    by true is rest = rw is refl
    by false is rest = rw is (ap (with_byte b) rest ∙ one_more b bs (cut_at 44 bs))

-- the pieces of a text, by what `split_once` gives at its first comma
pub pieces_split : (bs : List ℕ) (r : Option (Bor (List ℕ) × Bor (List ℕ))) → IsSplitOnceResult 44 bs r → pieces_of bs ≡ pieces_by bs (option_map parts r)
pieces_split bs r h = pieces_are bs ∙ ap (pieces_by bs) (split_is 44 bs r h (omega arith))
