-- The words of a line, one after another.
use Rattle.std.proofs.Common.{◌≡◌, ℕ, ◌+◌, ◌-◌, ◌<◌, ◌≤◌, ◌==◌, Bool, true, false, List, [], ◌∷◌, length, take, drop, Some, None, refl, arith, take_all, length-drop}
use Rattle.std.specs.Prelude.{not, nat_lt, cond, position, get_or}
use Rattle.std.specs.List.{slice_split, onto_first, position_or_len}
use Rattle.std.proofs.lemmas.List.Splits.{slice_split_first, slice_split_none}
use Rattle.std.proofs.lemmas.List.Sums.{prefix_len_passes}
use Rattle.std.proofs.lemmas.List.Elements.{All-from_get_or}
use Rattle.std.proofs.lemmas.Bool.Decides.{nat_tests, Decides-ltb}
use Rattle.code_words_listing.specs.Reading.{done}

-- where the first space stands
record IsAt (xs : List ℕ) (at : ℕ) : Type 0 where
  pub is : position_or_len (λ b. b == 32) xs ≡ at
  pub low : position_or_len (λ b. b == 32) xs < length xs

at-first : (xs : List ℕ) (at : ℕ) (t : Bool) → nat_lt (position_or_len (λ b. b == 32) xs) (length xs) ≡ t → cond t (Some (position_or_len (λ b. b == 32) xs)) None ≡ Some at → IsAt xs at
at-first xs at true t h = record { is = cc; low = (Decides-ltb (position_or_len (λ b. b == 32) xs) (length xs)).0 t }
at-first xs at false t h = cc

pub first-word : (left : List ℕ) (at : ℕ) → position (λ b. b == 32) left ≡ Some at
    → slice_split (λ b. b == 32) left ≡ take at left ∷ slice_split (λ b. b == 32) (take (length left - (at + 1)) (drop (at + 1) left))
first-word left at h =
    let here = at-first left at (nat_lt (position_or_len (λ b. b == 32) left) (length left)) refl h in
    let whole : take (length left - (at + 1)) (drop (at + 1) left) ≡ drop (at + 1) left = take_all (length left - (at + 1)) (drop (at + 1) left) (omega (arith, length-drop (at + 1) left)) in
    rw (whole, ← here.is) (slice_split_first (λ b. b == 32) left 0 here.low)

never-passes : (xs : List ℕ) (t : Bool) → nat_lt (position_or_len (λ b. b == 32) xs) (length xs) ≡ t → cond t (Some (position_or_len (λ b. b == 32) xs)) None ≡ None → length xs ≤ position_or_len (λ b. b == 32) xs
never-passes xs true t h = cc
never-passes xs false t h = grind (arith, nat_tests, t)

negated : (b : Bool) → not b ≡ true → b ≡ false
negated true h = cc
negated false h = refl

pub last-word : (left : List ℕ) → position (λ b. b == 32) left ≡ None → slice_split (λ b. b == 32) left ≡ left ∷ []
last-word left h =
    let all = never-passes left (nat_lt (position_or_len (λ b. b == 32) left) (length left)) refl h in
    slice_split_none (λ b. b == 32) left (All-from_get_or (λ b. (b == 32) ≡ false) left 0
    (λ i low. negated (get_or left i 0 == 32) (prefix_len_passes (λ b. not (b == 32)) left i 0 (omega (arith, low, all)))))

-- there is always a word
pub some_word : {R : Type 0} (result : R) (bytes : List ℕ) → done result (slice_split (λ b. b == 32) bytes) ≡ None
some_word result [] = refl
some_word result (b ∷ bytes) = by (b == 32) (slice_split (λ b. b == 32) bytes)
  where
    by : (t : Bool) (parts : List (List ℕ)) → done result (cond t ([] ∷ parts) (onto_first b parts)) ≡ None
    by true parts = refl
    by false [] = refl
    by false (part ∷ parts) = refl
