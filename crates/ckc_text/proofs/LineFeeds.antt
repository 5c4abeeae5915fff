-- The line feeds of a source, counted by offset.
use Rattle.std.proofs.Common.{◌≡◌, ◌≢◌, ℕ, zero, suc, ◌+◌, ◌-◌, ◌<◌, ◌≤◌, Bool, true, false, cond, not, List, [], ◌∷◌, ◌++◌, length, get_or, take, drop, map, refl, sym, ap, ◌∙◌, subst, arith, add-zero, zero-add, add-one, inl, inr, length-append, length-take-le, take-append-drop}
use Rattle.std.specs.List.{filter, count_by, prefix_len, suffix_len, enumerate_from}
use Rattle.std.specs.List.Sorted.{IsNonDecreasing, IsPartitionPoint}
use Rattle.std.proofs.lemmas.Bool.{cond_both, cases_order, ne_eqb}
use Rattle.std.proofs.lemmas.List.{get_or_default, get_or_read, get_or_append_left, get_or-append-add, nil_from_length, take_more, reverse-append, append-nil}
use Rattle.std.proofs.lemmas.List.Sums.{sum_by-cons, count_by-le-length}
use Rattle.ckc_text.specs.declared.place.Place.{Place}
use Rattle.ckc_text.specs.Places.{is_line_feed, place_at, line_behind, column_behind, line_feeds_of}
use Rattle.ckc_text.specs.Offsets.{AreOffsets}

-- the offsets of the line feeds of a text that stands from n on
abbrev pub feeds : ℕ → List ℕ → List ℕ
feeds n xs = map (λ p. p.0) (filter (λ p. is_line_feed p.1) (enumerate_from n xs))

map-cond : (c : Bool) (p : ℕ × ℕ) (ps : List (ℕ × ℕ)) → map (λ q. q.0) (cond c (p ∷ ps) ps) ≡ cond c (p.0 ∷ map (λ q. q.0) ps) (map (λ q. q.0) ps)
map-cond true p ps = refl
map-cond false p ps = refl

feeds-cons : (n b : ℕ) (bs : List ℕ) → feeds n (b ∷ bs) ≡ cond (is_line_feed b) (n ∷ feeds (n + 1) bs) (feeds (n + 1) bs)
feeds-cons n b bs = map-cond (is_line_feed b) (n, b) _

cond-append : (c : Bool) (n : ℕ) (xs ys : List ℕ) → cond c (n ∷ (xs ++ ys)) (xs ++ ys) ≡ cond c (n ∷ xs) xs ++ ys
cond-append true n xs ys = refl
cond-append false n xs ys = refl

-- a text in two parts
feeds-append : (n : ℕ) (xs ys : List ℕ) → feeds n (xs ++ ys) ≡ feeds n xs ++ feeds (n + length xs) ys
feeds-append n [] ys = rw add-zero refl
feeds-append n (x ∷ xs) ys =
    let at : n + 1 + length xs ≡ n + suc (length xs) = omega arith in
    let tail : feeds (n + 1) (xs ++ ys) ≡ feeds (n + 1) xs ++ feeds (n + suc (length xs)) ys = subst (λ k. feeds (n + 1) (xs ++ ys) ≡ feeds (n + 1) xs ++ feeds k ys) at (feeds-append (n + 1) xs ys) in
    feeds-cons n x (xs ++ ys)
    ∙ ap (λ fs. cond (is_line_feed x) (n ∷ fs) fs) tail
    ∙ cond-append (is_line_feed x) n (feeds (n + 1) xs) _
    ∙ ap (λ fs. fs ++ feeds (n + suc (length xs)) ys) (sym (feeds-cons n x xs))

length-cond : (c : Bool) (n : ℕ) (fs : List ℕ) → length (cond c (n ∷ fs) fs) ≡ cond c 1 0 + length fs
length-cond true n fs = omega arith
length-cond false n fs = omega arith

-- as many as the text has
length-feeds : (n : ℕ) (xs : List ℕ) → length (feeds n xs) ≡ count_by is_line_feed xs
length-feeds n [] = refl
length-feeds n (x ∷ xs) =
    ap length (feeds-cons n x xs)
    ∙ length-cond (is_line_feed x) n (feeds (n + 1) xs)
    ∙ ap (λ m. cond (is_line_feed x) 1 0 + m) (length-feeds (n + 1) xs)
    ∙ sym (sum_by-cons (λ b. cond (is_line_feed b) 1 0) x xs)

-- each offset is within the text
record Within (low high : ℕ) (offsets : List ℕ) : Type 0 where
  above : (k : ℕ) → k < length offsets → low ≤ get_or offsets k 0
  below : (k : ℕ) → k < length offsets → get_or offsets k 0 < high

within-cons : (low high : ℕ) (fs : List ℕ) → low < high → Within (low + 1) high fs → Within low high (low ∷ fs)
within-cons low high fs lt w = record { above = above; below = below } where
  above : (k : ℕ) → k < length (low ∷ fs) → low ≤ get_or (low ∷ fs) k 0
  above zero h = omega arith
  above (suc k) h = omega (arith, w.above k (omega arith))

  below : (k : ℕ) → k < length (low ∷ fs) → get_or (low ∷ fs) k 0 < high
  below zero h = lt
  below (suc k) h = w.below k (omega arith)

within-feeds : (n : ℕ) (xs : List ℕ) → Within n (n + length xs) (feeds n xs)
within-feeds n [] = record { above = λ k h. absurd (omega arith); below = λ k h. absurd (omega arith) }
within-feeds n (x ∷ xs) =
    let tail : Within (n + 1) (n + suc (length xs)) (feeds (n + 1) xs) = record {
      above = (within-feeds (n + 1) xs).above;
      below = λ k h. omega (arith, (within-feeds (n + 1) xs).below k h);
    } in
    subst
    (λ fs. Within n (n + suc (length xs)) fs)
    (sym (feeds-cons n x xs))
    (cond_both
    (is_line_feed x)
    (n ∷ feeds (n + 1) xs)
    (feeds (n + 1) xs)
    (λ fs. Within n (n + suc (length xs)) fs)
    (λ yes. within-cons n _ _ (omega arith) tail)
    (λ no. record { above = λ k h. omega (arith, tail.above k h); below = tail.below }))

-- the offsets ascend
ascend-cons : (n : ℕ) (fs : List ℕ) → ((k : ℕ) → k < length fs → n ≤ get_or fs k 0) → IsNonDecreasing fs → IsNonDecreasing (n ∷ fs)
ascend-cons n fs least up zero zero d le lt = omega arith
ascend-cons n fs least up zero (suc j) d le lt = rw (get_or_default fs j d 0 (omega arith)) (least j (omega arith))
ascend-cons n fs least up (suc i) zero d le lt = absurd (omega arith)
ascend-cons n fs least up (suc i) (suc j) d le lt = up i j d (omega arith) (omega arith)

feeds_ascend : (n : ℕ) (xs : List ℕ) → IsNonDecreasing (feeds n xs)
feeds_ascend n [] = λ i j d le lt. absurd (omega arith)
feeds_ascend n (x ∷ xs) =
    subst
    IsNonDecreasing
    (sym (feeds-cons n x xs))
    (cond_both
    (is_line_feed x)
    (n ∷ feeds (n + 1) xs)
    (feeds (n + 1) xs)
    IsNonDecreasing
    (λ yes. ascend-cons n _ (λ k h. omega (arith, (within-feeds (n + 1) xs).above k h)) (feeds_ascend (n + 1) xs))
    (λ no. feeds_ascend (n + 1) xs))

-- the offsets of a source's line feeds are what an index holds
pub line_feeds_are_offsets : (src offsets : List ℕ) → offsets ≡ line_feeds_of src → length src ≤ 1048577 → AreOffsets offsets
line_feeds_are_offsets src offsets same small =
    subst AreOffsets (sym same) (record { ascending = feeds_ascend 0 src; few = omega (arith, length-feeds 0 src, count_by-le-length is_line_feed src) })

feeds-one : (n b : ℕ) → feeds n (b ∷ []) ≡ cond (is_line_feed b) (n ∷ []) []
feeds-one n b = feeds-cons n b []

-- one byte more
feeds_push : (xs : List ℕ) (b : ℕ) → line_feeds_of (xs ++ b ∷ []) ≡ line_feeds_of xs ++ cond (is_line_feed b) (length xs ∷ []) []
feeds_push xs b = feeds-append 0 xs (b ∷ []) ∙ ap (λ fs. line_feeds_of xs ++ fs) (feeds-one (0 + length xs) b ∙ ap (λ n. cond (is_line_feed b) (n ∷ []) []) (zero-add (length xs)))

line_feeds_more : (src : List ℕ) (i : ℕ) → i < length src → line_feeds_of (take (i + 1) src) ≡ line_feeds_of (take i src) ++ cond (is_line_feed (get_or src i 0)) (i ∷ []) []
line_feeds_more src i lt =
    let len : length (take i src) ≡ i = length-take-le i src (omega arith) in
    ap line_feeds_of (take_more src i 0 lt)
    ∙ feeds_push (take i src) (get_or src i 0)
    ∙ ap (λ n. line_feeds_of (take i src) ++ cond (is_line_feed (get_or src i 0)) (n ∷ []) []) len

pub line_feeds_at_feed : (src : List ℕ) (i : ℕ) → i < length src → get_or src i 0 ≡ 10 → line_feeds_of (take (i + 1) src) ≡ line_feeds_of (take i src) ++ i ∷ []
line_feeds_at_feed src i lt e = line_feeds_more src i lt ∙ ap (λ b. line_feeds_of (take i src) ++ cond (is_line_feed b) (i ∷ []) []) e

pub line_feeds_at_other : (src : List ℕ) (i : ℕ) → i < length src → get_or src i 0 ≢ 10 → line_feeds_of (take (i + 1) src) ≡ line_feeds_of (take i src)
line_feeds_at_other src i lt ne =
    line_feeds_more src i lt
    ∙ ap (λ c. line_feeds_of (take i src) ++ cond c (i ∷ []) []) (ne_eqb (get_or src i 0) 10 ne)
    ∙ append-nil (line_feeds_of (take i src))

-- where the line behind a text begins: after the last line feed
abbrev start_after : List ℕ → ℕ
start_after [] = 0
start_after (n ∷ []) = n + 1
start_after (n ∷ m ∷ ns) = start_after (m ∷ ns)

start_after-push : (ns : List ℕ) (n : ℕ) → start_after (ns ++ n ∷ []) ≡ n + 1
start_after-push [] n = refl
start_after-push (m ∷ []) n = refl
start_after-push (m ∷ k ∷ ns) n = start_after-push (k ∷ ns) n

start_after-last : (ns : List ℕ) (k : ℕ) → length ns ≡ k + 1 → start_after ns ≡ get_or ns k 0 + 1
start_after-last [] k e = absurd (omega arith)
start_after-last (n ∷ []) zero e = refl
start_after-last (n ∷ []) (suc k) e = absurd (omega arith)
start_after-last (n ∷ m ∷ ns) zero e = absurd (omega arith)
start_after-last (n ∷ m ∷ ns) (suc k) e = start_after-last (m ∷ ns) k (omega arith)

abbrev no_feed : ℕ → Bool
no_feed b = not (is_line_feed b)

suffix_len-push : (xs : List ℕ) (b : ℕ) → suffix_len no_feed (xs ++ b ∷ []) ≡ cond (no_feed b) (1 + suffix_len no_feed xs) 0
suffix_len-push xs b = ap (prefix_len no_feed) (reverse-append xs (b ∷ []))

column_step : (c : Bool) (s n : ℕ) (ns : List ℕ) → s + start_after ns ≡ n → cond (not c) (1 + s) 0 + start_after (ns ++ cond c (n ∷ []) []) ≡ n + 1
column_step true s n ns e = omega (arith, start_after-push ns n)
column_step false s n ns e = rw append-nil (omega arith)

-- the bytes since the last line feed, and where it stands
column_from : (i : ℕ) (src : List ℕ) → i ≤ length src → suffix_len no_feed (take i src) + start_after (line_feeds_of (take i src)) ≡ i
column_from zero src h = refl
column_from (suc i) src h =
    let lt : i < length src = omega arith in
    let b = get_or src i 0 in
    let bytes : suffix_len no_feed (take (i + 1) src) ≡ cond (no_feed b) (1 + suffix_len no_feed (take i src)) 0 = ap (suffix_len no_feed) (take_more src i 0 lt) ∙ suffix_len-push (take i src) b in
    let all : suffix_len no_feed (take (i + 1) src) + start_after (line_feeds_of (take (i + 1) src)) ≡ i + 1 =
    ap (λ s. s + start_after (line_feeds_of (take (i + 1) src))) bytes
    ∙ ap (λ fs. cond (no_feed b) (1 + suffix_len no_feed (take i src)) 0 + start_after fs) (line_feeds_more src i lt)
    ∙ column_step (is_line_feed b) _ i (line_feeds_of (take i src)) (column_from i src (omega arith)) in
    rw add-one at all

-- the line feeds before a place are those below it
feeds_at : (src : List ℕ) (at : ℕ) → at ≤ length src → line_feeds_of src ≡ line_feeds_of (take at src) ++ feeds at (drop at src)
feeds_at src at h =
    let len : 0 + length (take at src) ≡ at = omega (arith, length-take-le at src h) in
    ap line_feeds_of (sym (take-append-drop at src))
    ∙ feeds-append 0 (take at src) (drop at src)
    ∙ ap (λ n. line_feeds_of (take at src) ++ feeds n (drop at src)) len

split_here : (front rest : List ℕ) (at n : ℕ) → ((k : ℕ) → k < length front → get_or front k 0 < at) → ((k : ℕ) → k < length rest → at ≤ get_or rest k 0) → n ≤ length (front ++ rest) → IsPartitionPoint (λ a. a < at) (λ a. at ≤ a) (front ++ rest) n → n ≡ length front
split_here front rest at n below above fits split =
    let len = length-append front rest in
    elim (cases_order n (length front)) [
      | inl same ↦ same
      | inr (inl less) ↦
          absurd
          (omega (arith, len, below n less, get_or_append_left front rest 0 n less, split.1 n 0 (omega arith) (omega (arith, len))))
      | inr (inr more) ↦
          let here : get_or (front ++ rest) (length front) 0 ≡ get_or rest 0 0 = rw add-zero at (get_or-append-add front rest 0 0) in
          absurd (omega (arith, here, above 0 (omega (arith, len)), split.0 (length front) 0 (omega arith) more))
    ]

feeds_below : (src : List ℕ) (at n : ℕ) → at ≤ length src → n ≤ length (line_feeds_of src) → IsPartitionPoint (λ a. a < at) (λ a. at ≤ a) (line_feeds_of src) n → n ≡ length (line_feeds_of (take at src))
feeds_below src at n h fits split =
    let whole = feeds_at src at h in
    let front = within-feeds 0 (take at src) in
    let len : 0 + length (take at src) ≡ at = omega (arith, length-take-le at src h) in
    split_here
    (line_feeds_of (take at src))
    (feeds at (drop at src))
    at
    n
    (λ k lt. omega (arith, len, front.below k lt))
    (within-feeds at (drop at src)).above
    (subst (λ fs. n ≤ length fs) whole fits)
    (subst (λ fs. IsPartitionPoint (λ a. a < at) (λ a. at ≤ a) fs n) whole split)

-- the line and the column of a place, by the line feeds below it
line_by_feeds : (src : List ℕ) (at n : ℕ) → n ≡ length (line_feeds_of (take at src)) → line_behind (take at src) ≡ n + 1
line_by_feeds src at n e = omega (arith, e, length-feeds 0 (take at src))

column_by_none : (src : List ℕ) (at : ℕ) → at ≤ length src → 0 ≡ length (line_feeds_of (take at src)) → column_behind (take at src) ≡ at + 1
column_by_none src at h e =
    let none : line_feeds_of (take at src) ≡ [] = nil_from_length (line_feeds_of (take at src)) (sym e) in
    omega (arith, column_from at src h, ap start_after none)

column_by_last : (src : List ℕ) (at k : ℕ) → at ≤ length src → k + 1 ≡ length (line_feeds_of (take at src)) → column_behind (take at src) + get_or (line_feeds_of src) k 0 ≡ at
column_by_last src at k h e =
    let front : List ℕ = line_feeds_of (take at src) in
    let same : get_or (line_feeds_of src) k 0 ≡ get_or front k 0 =
    ap (λ fs. get_or fs k 0) (feeds_at src at h) ∙ get_or_append_left front (feeds at (drop at src)) 0 k (omega (arith, e)) in
    omega (arith, column_from at src h, start_after-last front k (sym e), same)

abbrev pub place_of_fields : ℕ → ℕ → Place
place_of_fields line col = record { line = line; col = col }

place_from : (line col line' col' : ℕ) → line ≡ line' → col ≡ col' → place_of_fields line col ≡ place_of_fields line' col'
place_from line col line' col' l c = cc

pub place_on_first_line : (src offsets : List ℕ) (at n col : ℕ) → offsets ≡ line_feeds_of src → at ≤ length src → n ≤ length offsets → IsPartitionPoint (λ a. a < at) (λ a. at ≤ a) offsets n → n ≡ 0 → col ≡ at + 1 → place_of_fields (n + 1) col ≡ place_at src at
place_on_first_line src offsets at n col same h fits split none col_is =
    let count = feeds_below src at n h (subst (λ fs. n ≤ length fs) same fits) (subst (λ fs. IsPartitionPoint (λ a. a < at) (λ a. at ≤ a) fs n) same split) in
    place_from _ _ _ _ (sym (line_by_feeds src at n count)) (col_is ∙ sym (column_by_none src at h (sym none ∙ count)))

pub place_on_later_line : (src offsets : List ℕ) (at n last col : ℕ) → offsets ≡ line_feeds_of src → at ≤ length src → n ≤ length offsets → IsPartitionPoint (λ a. a < at) (λ a. at ≤ a) offsets n → 0 < n → last ≡ get_or offsets (n - 1) last → col ≡ at - last → place_of_fields (n + 1) col ≡ place_at src at
place_on_later_line src offsets at n last col same h fits split some last_is col_is =
    let count = feeds_below src at n h (subst (λ fs. n ≤ length fs) same fits) (subst (λ fs. IsPartitionPoint (λ a. a < at) (λ a. at ≤ a) fs n) same split) in
    let last_at : last ≡ get_or (line_feeds_of src) (n - 1) 0 = get_or_read offsets (n - 1) last (omega arith) last_is 0 ∙ ap (λ fs. get_or fs (n - 1) 0) same in
    place_from _ _ _ _ (sym (line_by_feeds src at n count)) (omega (arith, col_is, last_at, column_by_last src at (n - 1) h (omega (arith, count))))
