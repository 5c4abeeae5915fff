-- What a file says is said by its first 1,048,577 bytes.
use Rattle.std.proofs.Common.{◌≡◌, ℕ, suc, zero, ◌+◌, ◌-◌, ◌<◌, ◌≤◌, ◌⊎◌, inl, inr, ⊎_elim, Bool, true, false, if◌then◌else◌, List, [], ◌∷◌, length, take, drop, refl, sym, ap, ◌∙◌, arith, lt-ltb}
use Rattle.std.specs.Prelude.{nat_lt}
use Rattle.std.proofs.lemmas.Bool.{cases_lt, lt-leb}
use Rattle.std.proofs.lemmas.List.{length-drop, length-take-le, take_all}
use Rattle.ckc_text.specs.declared.code.Code.TheVariants.{A4}
use Rattle.sandbox_actor.specs.ActLists.{is_feed, before_first, lines_of, without_feed, no_acts, refused_at, acts_from, acts_of_file, line_then}

-- the first line of a text ends before a cut, and so it is the first line of what stands before the cut
pub record EndsBefore (text : List ℕ) (cut : ℕ) : Type 0 where
  pub size : ℕ
  pub some : 0 < size
  pub before : size < cut
  pub whole : lines_of text ≡ take size text ∷ lines_of (drop size text)
  pub front : lines_of (take cut text) ≡ take size text ∷ lines_of (take (cut - size) (drop size text))

-- it holds the byte before a cut, and what stands before the cut is one line
pub record Reaches (text : List ℕ) (cut : ℕ) : Type 0 where
  pub line : List ℕ
  pub lines : List (List ℕ)
  pub whole : lines_of text ≡ line ∷ lines
  pub reaches : cut ≤ length line
  pub front : lines_of (take cut text) ≡ take cut text ∷ []

-- the first of the lines to which a byte is added
begun : (b : ℕ) (lines : List (List ℕ)) → (line : List ℕ) × (rest : List (List ℕ)) × (before_first b lines ≡ line ∷ rest) × (1 ≤ length line)
begun b [] = (b ∷ [], [], refl, omega arith)
begun b (line ∷ lines) = (b ∷ line, lines, refl, omega arith)

module _ (b : ℕ) (bytes : List ℕ) where
  by_feed : {test : Bool} → is_feed b ≡ test → (more : List ℕ) → lines_of (b ∷ more) ≡ if test then (b ∷ []) ∷ lines_of more else before_first b (lines_of more)
  by_feed is more = ap (λ c. if c then (b ∷ []) ∷ lines_of more else before_first b (lines_of more)) is

  fed : is_feed b ≡ true → (m : ℕ) → EndsBefore (b ∷ bytes) (suc m) ⊎ Reaches (b ∷ bytes) (suc m)
  fed is zero =
      inr (record {
        line = b ∷ [];
        lines = lines_of bytes;
        whole = by_feed is bytes;
        reaches = omega arith;
        front = by_feed is [];
      })
  fed is (suc k) =
      let left : suc (suc k) - 1 ≡ suc k = omega arith in
      inl (record {
        size = 1;
        some = omega arith;
        before = omega arith;
        whole = by_feed is bytes;
        front = by_feed is (take (suc k) bytes) ∙ ap (λ n. (b ∷ []) ∷ lines_of (take n bytes)) (sym left);
      })

  unfed_one : is_feed b ≡ false → Reaches (b ∷ bytes) 1
  unfed_one is =
      let first = begun b (lines_of bytes) in
      record {
        line = first.0;
        lines = first.1;
        whole = by_feed is bytes ∙ first.2;
        reaches = first.3;
        front = by_feed is [];
      }

  unfed_more : is_feed b ≡ false → (k : ℕ) → EndsBefore bytes (suc k) ⊎ Reaches bytes (suc k) → EndsBefore (b ∷ bytes) (suc (suc k)) ⊎ Reaches (b ∷ bytes) (suc (suc k))
  unfed_more is k (inl e) =
      let left : suc (suc k) - suc e.size ≡ suc k - e.size = omega arith in
      inl (record {
        size = suc e.size;
        some = omega arith;
        before = omega (arith, e.before);
        whole = by_feed is bytes ∙ ap (before_first b) e.whole;
        front = by_feed is (take (suc k) bytes) ∙ ap (before_first b) e.front ∙ ap (λ n. (b ∷ take e.size bytes) ∷ lines_of (take n (drop e.size bytes))) (sym left);
      })
  unfed_more is k (inr r) =
      inr (record {
        line = b ∷ r.line;
        lines = r.lines;
        whole = by_feed is bytes ∙ ap (before_first b) r.whole;
        reaches = omega (arith, r.reaches);
        front = by_feed is (take (suc k) bytes) ∙ ap (before_first b) r.front;
      })

  cut_first : (test : Bool) → is_feed b ≡ test → (m : ℕ) → m < length (b ∷ bytes) → ((k : ℕ) → k < length bytes → EndsBefore bytes (suc k) ⊎ Reaches bytes (suc k)) → EndsBefore (b ∷ bytes) (suc m) ⊎ Reaches (b ∷ bytes) (suc m)
  cut_first true is m h on = fed is m
  cut_first false is zero h on = inr (unfed_one is)
  cut_first false is (suc k) h on = unfed_more is k (on k (omega arith))

cut_line : (text : List ℕ) (m : ℕ) → m < length text → EndsBefore text (suc m) ⊎ Reaches text (suc m)
cut_line [] m h = absurd (omega arith)
cut_line (b ∷ bytes) m h = cut_first b bytes (is_feed b) refl m h (λ k i. cut_line bytes k i)

cut_before : (text : List ℕ) (cut : ℕ) → 0 < cut → cut ≤ length text → EndsBefore text cut ⊎ Reaches text cut
cut_before text zero some h = absurd (omega arith)
cut_before text (suc m) some h = cut_line text m (omega arith)

-- a line that holds byte 1,048,577 is refused
past_limit : (number offset : ℕ) (line : List ℕ) (lines : List (List ℕ)) → 1048576 < offset + length line → acts_from number offset (line ∷ lines) ≡ if nat_lt 16777216 number then no_acts else refused_at number A4
past_limit number offset line lines h = rw (lt-leb (offset + length line) 1048576 h, lt-ltb 1048576 (offset + length line) h)

SameActs : List ℕ → (number offset cut : ℕ) → Type 0
SameActs text number offset cut = acts_from number offset (lines_of (take cut text)) ≡ acts_from number offset (lines_of text)

uncut : (text : List ℕ) (number offset cut : ℕ) → length text ≤ cut → SameActs text number offset cut
unfolding SameActs
uncut text number offset cut h = ap (λ xs. acts_from number offset (lines_of xs)) (take_all cut text h)

-- by what is said behind the first line
by_line : (text : List ℕ) (number offset cut : ℕ) → cut ≤ length text → offset + cut ≡ 1048577
    → ((size : ℕ) → 0 < size → size < cut → SameActs (drop size text) (number + 1) (offset + length (take size text)) (cut - size))
    → EndsBefore text cut ⊎ Reaches text cut → SameActs text number offset cut
unfolding SameActs
by_line text number offset cut fits is on (inl e) =
    ap (acts_from number offset) e.front
    ∙ ap (λ rest. if nat_lt 16777216 number then no_acts else line_then number (offset + length (take e.size text)) (without_feed (take e.size text)) rest) (on e.size e.some e.before)
    ∙ sym (ap (acts_from number offset) e.whole)
by_line text number offset cut fits is on (inr r) =
    ap (acts_from number offset) r.front
    ∙ past_limit number offset (take cut text) [] (omega (arith, length-take-le cut text fits))
    ∙ sym (past_limit number offset r.line r.lines (omega (arith, r.reaches)))
    ∙ sym (ap (acts_from number offset) r.whole)

acts-front : (fuel : ℕ) (text : List ℕ) (number offset cut : ℕ) → length text ≤ fuel → 0 < cut → offset + cut ≡ 1048577 → SameActs text number offset cut
acts-front zero text number offset cut fits some is = uncut text number offset cut (omega arith)
acts-front (suc fuel) text number offset cut fits some is =
    ⊎_elim
    (λ long.
    by_line text number offset cut (omega (arith, long)) is
    (λ size more before.
    acts-front fuel (drop size text) (number + 1) (offset + length (take size text)) (cut - size) (omega (arith, length-drop size text)) (omega arith) (omega (arith, length-take-le size text (omega arith))))
    (cut_before text cut some (omega (arith, long))))
    (λ short. uncut text number offset cut short)
    (cases_lt cut (length text))

-- the acts of a file are those of its first bytes
pub acts-first_bytes : (file : List ℕ) → acts_of_file (take 1048577 file) ≡ acts_of_file file
unfolding SameActs
acts-first_bytes file = acts-front (length file) file 1 0 1048577 (omega arith) (omega arith) refl
