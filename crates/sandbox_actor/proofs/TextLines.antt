-- A text, line by line.
use Rattle.std.proofs.Common.{◌≡◌, ℕ, suc, zero, ◌+◌, ◌-◌, ◌<◌, ◌≤◌, Bool, true, false, if◌then◌else◌, List, [], ◌∷◌, length, get_or, take, drop, Some, None, position, refl, sym, ap, ◌∙◌, arith, subst, add-one, cond, not, le-ltb, lt-ltb}
use Rattle.std.proofs.lemmas.List.{drop-drop, drop_all, length-take-le, take_all, take_rest}
use Rattle.std.proofs.lemmas.List.Quantifiers.{position-Some}
use Rattle.std.proofs.lemmas.List.Sums.{prefix_len_passes}
use Rattle.std.proofs.lemmas.Bool.{ltb-false}
use Rattle.std.proofs.Math.Dec.{ltb}
use Rattle.std.specs.List.{position_or_len}
use Rattle.sandbox_actor.specs.ActLists.{is_feed, is_skipped, before_first, lines_of, without_feed, no_acts, acts_from, line_then, reading_to, reading_then}
use Rattle.sandbox_actor.specs.Lines.{IsFirst, acts_at}

-- no line feed stands at the first places
abbrev pub FreeTo : List ℕ → ℕ → Type 0
FreeTo text n = (k : ℕ) → k < n → is_feed (get_or text k 0) ≡ false

FreeTo-tail : (b : ℕ) (bytes : List ℕ) (n : ℕ) → FreeTo (b ∷ bytes) (suc n) → FreeTo bytes n
FreeTo-tail b bytes n free k h = free (suc k) (omega arith)

-- ---- a line that ends with a line feed

pub lines-fed : (text : List ℕ) (n : ℕ) → n < length text → is_feed (get_or text n 0) ≡ true → FreeTo text n → lines_of text ≡ take (suc n) text ∷ lines_of (drop (suc n) text)
lines-fed [] n h fed free = absurd (omega arith)
lines-fed (b ∷ bytes) zero h fed free = ap (λ c. if c then (b ∷ []) ∷ lines_of bytes else before_first b (lines_of bytes)) fed
lines-fed (b ∷ bytes) (suc n) h fed free =
    ap (λ c. if c then (b ∷ []) ∷ lines_of bytes else before_first b (lines_of bytes)) (free 0 (omega arith))
    ∙ ap (before_first b) (lines-fed bytes n (omega arith) fed (FreeTo-tail b bytes n free))

pub without-fed : (text : List ℕ) (n : ℕ) → n < length text → is_feed (get_or text n 0) ≡ true → FreeTo text n → without_feed (take (suc n) text) ≡ take n text
without-fed [] n h fed free = absurd (omega arith)
without-fed (b ∷ bytes) zero h fed free = ap (λ c. if c then [] else b ∷ without_feed []) fed
without-fed (b ∷ bytes) (suc n) h fed free =
    ap (λ c. if c then [] else b ∷ without_feed (take (suc n) bytes)) (free 0 (omega arith))
    ∙ ap (λ xs. b ∷ xs) (without-fed bytes n (omega arith) fed (FreeTo-tail b bytes n free))

-- ---- a last line without one

pub lines-unfed : (text : List ℕ) → 0 < length text → FreeTo text (length text) → lines_of text ≡ text ∷ []
lines-unfed [] h free = absurd (omega arith)
lines-unfed (b ∷ []) h free = ap (λ c. if c then (b ∷ []) ∷ [] else before_first b []) (free 0 (omega arith))
lines-unfed (b ∷ d ∷ bytes) h free =
    ap (λ c. if c then (b ∷ []) ∷ lines_of (d ∷ bytes) else before_first b (lines_of (d ∷ bytes))) (free 0 (omega arith))
    ∙ ap (before_first b) (lines-unfed (d ∷ bytes) (omega arith) (FreeTo-tail b (d ∷ bytes) _ free))

pub without-unfed : (text : List ℕ) → FreeTo text (length text) → without_feed text ≡ text
without-unfed [] free = refl
without-unfed (b ∷ bytes) free =
    ap (λ c. if c then [] else b ∷ without_feed bytes) (free 0 (omega arith))
    ∙ ap (λ xs. b ∷ xs) (without-unfed bytes (FreeTo-tail b bytes _ free))

-- ---- the first line

pub first-fed : (text : List ℕ) (n : ℕ) → position is_feed text ≡ Some n → IsFirst text n (n + 1)
first-fed text n e =
    let found = position-Some is_feed text n 0 e in
    rw add-one record {
      lines = lines-fed text n found.0 found.1 found.2;
      bytes = without-fed text n found.0 found.1 found.2;
      shorter = omega arith;
      some = omega arith;
      within = omega (arith, found.0);
    }

-- where none is found, none stands there
unfound : (test : Bool) (n m : ℕ) → ltb n m ≡ test → cond test (Some n) None ≡ None → m ≤ n
unfound true n m e none = absurd (cc)
unfound false n m e none = ltb-false n m e

opposite : (b : Bool) → not b ≡ true → b ≡ false
opposite true e = absurd (cc)
opposite false e = refl

free-unfound : (text : List ℕ) → position is_feed text ≡ None → FreeTo text (length text)
free-unfound text e k h =
    let past : length text ≤ position_or_len is_feed text = unfound _ (position_or_len is_feed text) (length text) refl e in
    opposite _ (prefix_len_passes (λ b. not (is_feed b)) text k 0 (omega arith))

pub first-unfed : (text : List ℕ) → 0 < length text → position is_feed text ≡ None → IsFirst text (length text) (length text)
first-unfed text h e =
    let free : FreeTo text (length text) = free-unfound text e in
    record {
      lines = lines-unfed text h free ∙ sym (ap (λ xs. xs ∷ lines_of (drop (length text) text)) (take_all (length text) text (omega arith)) ∙ ap (λ xs. text ∷ lines_of xs) (drop_all (length text) text (omega arith)));
      bytes = ap without_feed (take_all (length text) text (omega arith)) ∙ without-unfed text free ∙ sym (take_all (length text) text (omega arith));
      shorter = omega arith;
      some = h;
      within = omega arith;
    }

-- ---- the acts from a place on

module _ (text : List ℕ) (number from count size : ℕ) (first : IsFirst (take (length text - from) (drop from text)) count size) (counted : number ≤ 16777216) where
  -- what is left behind a place is the rest of the text
  pub first_of_rest : IsFirst (drop from text) count size
  first_of_rest = subst (λ xs. IsFirst xs count size) (take_rest text from) first

  -- the first line, and then the rest
  acts-line : acts_at text number from ≡ line_then number (from + size) (take (from + count - from) (drop from text)) (acts_at text (number + 1) (from + size))
  acts-line =
      let rest = drop from text in
      let same : from + count - from ≡ count = omega arith in
      ap (acts_from number from) first_of_rest.lines
      ∙ ap (λ b. if b then no_acts else line_then number (from + length (take size rest)) (without_feed (take size rest)) (acts_from (number + 1) (from + length (take size rest)) (lines_of (drop size rest)))) (le-ltb 16777216 number counted)
      ∙ ap (λ n. line_then number (from + n) (without_feed (take size rest)) (acts_from (number + 1) (from + n) (lines_of (drop size rest)))) (length-take-le size rest first_of_rest.within)
      ∙ ap (λ xs. line_then number (from + size) xs (acts_from (number + 1) (from + size) (lines_of (drop size rest)))) (first_of_rest.bytes ∙ sym (ap (λ n. take n rest) same))
      ∙ ap (λ xs. line_then number (from + size) (take (from + count - from) rest) (acts_from (number + 1) (from + size) (lines_of xs))) (drop-drop size from text)

  acts-tested : (test : Bool) → test ≡ is_skipped (from + size) (take (from + count - from) (drop from text)) → acts_at text number from ≡ if test then acts_at text (number + 1) (from + size) else reading_then number (reading_to (from + size) (take (from + count - from) (drop from text))) (acts_at text (number + 1) (from + size))
  acts-tested test is =
      acts-line ∙ ap (λ b. if b then acts_at text (number + 1) (from + size) else reading_then number (reading_to (from + size) (take (from + count - from) (drop from text))) (acts_at text (number + 1) (from + size))) (sym is)

  pub acts-skipped : true ≡ is_skipped (from + size) (take (from + count - from) (drop from text)) → acts_at text number from ≡ acts_at text (number + 1) (from + size)
  acts-skipped = acts-tested true

  pub acts-read : false ≡ is_skipped (from + size) (take (from + count - from) (drop from text)) → acts_at text number from ≡ reading_then number (reading_to (from + size) (take (from + count - from) (drop from text))) (acts_at text (number + 1) (from + size))
  acts-read = acts-tested false

-- no byte is left
pub acts-end : (text : List ℕ) (number at : ℕ) → length text ≤ at → acts_at text number at ≡ no_acts
acts-end text number at h = ap (λ xs. acts_from number at (lines_of xs)) (drop_all at text h)

-- the last line is behind
pub acts-late : (lines : List (List ℕ)) (number offset : ℕ) → 16777216 < number → acts_from number offset lines ≡ no_acts
acts-late [] number offset h = refl
acts-late (line ∷ lines) number offset h =
    ap (λ b. if b then no_acts else line_then number (offset + length line) (without_feed line) (acts_from (number + 1) (offset + length line) lines)) (lt-ltb 16777216 number h)
