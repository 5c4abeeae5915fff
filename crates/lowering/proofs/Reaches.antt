-- Elements and the ends of bounds as addresses: what checks compare of addresses is the same of bytes.
use Rattle.std.proofs.Common.{◌≡◌, ℕ, zero, suc, ◌+◌, ◌*◌, ◌%◌, ◌^◌, ◌<◌, Bool, true, false, ℤ, pos, negsuc, neg_ℤ, ◌+ℤ◌, ◌*ℤ◌, refl, ap, ◌∙◌, arith}
use Rattle.std.specs.Prelude.{◌&&◌, ◌||◌, int_le, int_lt}
use Rattle.std.proofs.lemmas.Int.{ints}
use Rattle.std.proofs.lemmas.Bool.Decides.{nat_tests}
use Rattle.act_words.specs.Numbers.{word, signed}
use Rattle.act_words.specs.Arithmetic.{complement, wrapping_negation}
use Rattle.ckc_core.specs.declared.program.Direction.{Direction}
use Rattle.ckc_core.specs.declared.program.Direction.TheVariants as directions
use Rattle.bounds_exprs.specs.declared.term.Term.{Term}
use Rattle.ckc_core.specs.Pointers.{distance}
use Rattle.check_insertion.specs.ErasedMeaning.{Step, far}
use Rattle.code_words.specs.Table.{element, place_at, end_of, is_in, is_up_to}
use Rattle.lowering.specs.Code.{Reach, Still, Onward, Back, reach_to, counted_size, end_constant}
use Rattle.ckc_core.proofs.Numbers.{IsNumber, signed-word}

-- ---- a check's step

abbrev pub direction_of : Reach → Direction
direction_of (Still size) = directions.Forward
direction_of (Onward size) = directions.Forward
direction_of (Back size) = directions.Backward

abbrev pub number_of : Reach → ℤ → ℤ
number_of (Still size) n = pos 0
number_of (Onward size) n = n
number_of (Back size) n = n

-- the step of a check whose number is kept aside
abbrev pub step_of : Reach → ℤ → Step
step_of r n = record { direction = direction_of r; size = counted_size r; number = number_of r n }

pub step_to_is : (direction : Direction) (size : ℕ) (n : ℤ) → step_of (reach_to direction size) n ≡ record { direction = direction; size = size; number = n }
step_to_is directions.Forward size n = refl
step_to_is directions.Backward size n = refl

-- ---- comparisons of what is moved by the same number

pub le_moved : (d x y : ℤ) → int_le (d +ℤ x) (d +ℤ y) ≡ int_le x y
le_moved d x y = by (int_le (d +ℤ x) (d +ℤ y)) (int_le x y) refl refl
  where
    by : (a b : Bool) → int_le (d +ℤ x) (d +ℤ y) ≡ a → int_le x y ≡ b → a ≡ b
    by true true p q = refl
    by true false p q = absurd (omega (arith, ints))
    by false true p q = absurd (omega (arith, ints))
    by false false p q = refl

pub lt_moved : (d x y : ℤ) → int_lt (d +ℤ x) (d +ℤ y) ≡ int_lt x y
lt_moved d x y = by (int_lt (d +ℤ x) (d +ℤ y)) (int_lt x y) refl refl
  where
    by : (a b : Bool) → int_lt (d +ℤ x) (d +ℤ y) ≡ a → int_lt x y ≡ b → a ≡ b
    by true true p q = refl
    by true false p q = absurd (omega (arith, ints))
    by false true p q = absurd (omega (arith, ints))
    by false false p q = refl

in_same : (d low x high : ℤ) → is_in (d +ℤ low) (d +ℤ x) (d +ℤ high) ≡ (int_le low x && int_lt x high)
in_same d low x high = ap (λ b. b && int_lt (d +ℤ x) (d +ℤ high)) (le_moved d low x) ∙ ap (λ b. int_le low x && b) (lt_moved d x high)

up_to_same : (d low x high : ℤ) → is_up_to (d +ℤ low) (d +ℤ x) (d +ℤ high) ≡ (int_le low x && int_le x high)
up_to_same d low x high = ap (λ b. b && int_le (d +ℤ x) (d +ℤ high)) (le_moved d low x) ∙ ap (λ b. int_le low x && b) (le_moved d x high)

pub in_moved : (d low x high a b c : ℤ) → a ≡ d +ℤ low → b ≡ d +ℤ x → c ≡ d +ℤ high → is_in a b c ≡ (int_le low x && int_lt x high)
in_moved d low x high a b c p q r = ap (λ z. is_in z b c) p ∙ ap (λ z. is_in (d +ℤ low) z c) q ∙ ap (is_in (d +ℤ low) (d +ℤ x)) r ∙ in_same d low x high

pub up_to_moved : (d low x high a b c : ℤ) → a ≡ d +ℤ low → b ≡ d +ℤ x → c ≡ d +ℤ high → is_up_to a b c ≡ (int_le low x && int_le x high)
up_to_moved d low x high a b c p q r = ap (λ z. is_up_to z b c) p ∙ ap (λ z. is_up_to (d +ℤ low) z c) q ∙ ap (is_up_to (d +ℤ low) (d +ℤ x)) r ∙ up_to_same d low x high

-- new ends within old ones, or turned
abbrev pub lie_in : ℤ → ℤ → ℤ → ℤ → Bool
lie_in low high new_low new_high = int_lt new_high new_low || (int_le low new_low && int_le new_high high)

within_same : (d low high new_low new_high : ℤ) → lie_in (d +ℤ low) (d +ℤ high) (d +ℤ new_low) (d +ℤ new_high) ≡ lie_in low high new_low new_high
within_same d low high new_low new_high =
    ap (λ b. b || (int_le (d +ℤ low) (d +ℤ new_low) && int_le (d +ℤ new_high) (d +ℤ high))) (lt_moved d new_high new_low)
    ∙ ap (λ b. int_lt new_high new_low || (b && int_le (d +ℤ new_high) (d +ℤ high))) (le_moved d low new_low)
    ∙ ap (λ b. int_lt new_high new_low || (int_le low new_low && b)) (le_moved d new_high high)

pub within_moved : (d low high new_low new_high a b c e : ℤ) → a ≡ d +ℤ low → b ≡ d +ℤ high → c ≡ d +ℤ new_low → e ≡ d +ℤ new_high → lie_in a b c e ≡ lie_in low high new_low new_high
within_moved d low high new_low new_high a b c e p q r t =
    ap (λ z. lie_in z b c e) p ∙ ap (λ z. lie_in (d +ℤ low) z c e) q ∙ ap (λ z. lie_in (d +ℤ low) (d +ℤ high) z e) r ∙ ap (lie_in (d +ℤ low) (d +ℤ high) (d +ℤ new_low)) t
    ∙ within_same d low high new_low new_high

-- ---- the number back

-- the number of which each bit is turned
abbrev turned : ℤ → ℤ
turned (pos n) = negsuc n
turned (negsuc n) = pos n

turned_is : (z : ℤ) → turned z ≡ neg_ℤ z +ℤ negsuc 0
turned_is (pos n) = omega (arith, ints)
turned_is (negsuc n) = omega (arith, ints)

turned_word : (z : ℤ) → IsNumber z → complement (word z) ≡ word (turned z)
turned_word (pos n) h = grind (arith, nat_tests)
turned_word (negsuc n) h = grind (arith, nat_tests)

turned_fits : (z : ℤ) → IsNumber z → IsNumber (turned z)
turned_fits (pos n) h = grind (arith, nat_tests)
turned_fits (negsuc n) h = grind (arith, nat_tests)

-- it is one too small
pub complement_is : (z : ℤ) → IsNumber z → signed (complement (word z)) ≡ neg_ℤ z +ℤ negsuc 0
complement_is z h = ap signed (turned_word z h) ∙ signed-word (turned z) (turned_fits z h) ∙ turned_is z

-- the word that the code has for it, where this word is kept aside
abbrev pub number_word : Reach → ℕ → ℕ
number_word (Still size) w = 0
number_word (Onward size) w = w
number_word (Back size) w = complement w

-- the word that is kept aside is that of the number, where there is a step
abbrev pub IsAside : Reach → ℕ → ℤ → Type 0
IsAside (Still size) w n = Unit {0}
IsAside (Onward size) w n = (w ≡ word n) × IsNumber n
IsAside (Back size) w n = (w ≡ word n) × IsNumber n

-- ---- addresses

-- what addresses in a block have in common
abbrev pub common : Reach → ℕ → ℤ
common (Still size) a = pos a
common (Onward size) a = pos a
common (Back size) a = pos a +ℤ neg_ℤ (pos size)

less_times : (z : ℤ) (size : ℕ) → (z +ℤ negsuc 0) *ℤ pos size ≡ z *ℤ pos size +ℤ neg_ℤ (pos size)
less_times (pos zero) size = omega (arith, ints)
less_times (pos (suc n)) size =
    let e : pos (suc n) +ℤ negsuc 0 ≡ pos n = omega (arith, ints) in
    ap (λ z. z *ℤ pos size) e ∙ omega (arith, ints)
less_times (negsuc n) size = omega (arith, ints)

neg_times : (z : ℤ) (size : ℕ) → neg_ℤ z *ℤ pos size ≡ neg_ℤ (z *ℤ pos size)
neg_times (pos zero) size = omega (arith, ints)
neg_times (pos (suc n)) size = omega (arith, ints)
neg_times (negsuc n) size = omega (arith, ints)

pub place_is : (r : Reach) (a byte w : ℕ) (n : ℤ) → IsAside r w n → place_at (a + byte) (number_word r w) (counted_size r) ≡ common r a +ℤ (pos byte +ℤ far (step_of r n))
place_is (Still size) a byte w n h = omega (arith, ints)
place_is (Onward size) a byte w n h = ap (λ z. pos (a + byte) +ℤ (z *ℤ pos size)) (ap signed h.0 ∙ signed-word n h.1) ∙ omega (arith, ints)
place_is (Back size) a byte w n h = ap (λ z. pos (a + byte) +ℤ (z *ℤ pos size)) (ap (λ w. signed (complement w)) h.0 ∙ complement_is n h.1) ∙ omega (arith, ints, less_times (neg_ℤ n) size, neg_times n size)

pub end_is : (r : Reach) (a byte count : ℕ) (t : Term) (z : ℤ) → signed count +ℤ t.plus ≡ z → end_of (a + byte) count (end_constant r t) (counted_size r) ≡ common r a +ℤ (pos byte +ℤ (z *ℤ pos (counted_size r)))
end_is (Still size) a byte count t z h = ap (λ x. pos (a + byte) +ℤ (x *ℤ pos size)) h ∙ omega (arith, ints)
end_is (Onward size) a byte count t z h = ap (λ x. pos (a + byte) +ℤ (x *ℤ pos size)) h ∙ omega (arith, ints)
end_is (Back size) a byte count t z h =
    let less : signed count +ℤ (t.plus +ℤ negsuc 0) ≡ z +ℤ negsuc 0 = omega (arith, ints, h) in
    ap (λ x. pos (a + byte) +ℤ (x *ℤ pos size)) less ∙ omega (arith, ints, less_times z size)

-- an end that no step moves
pub end_plain : (a byte count size : ℕ) (plus z : ℤ) → signed count +ℤ plus ≡ z → end_of (a + byte) count plus size ≡ pos a +ℤ (pos byte +ℤ (z *ℤ pos size))
end_plain a byte count size plus z h = ap (λ x. pos (a + byte) +ℤ (x *ℤ pos size)) h ∙ omega (arith, ints)

-- ---- addresses of elements

-- the word by which an address is moved
abbrev pub moved_word : Direction → ℕ → ℕ
moved_word directions.Forward w = w
moved_word directions.Backward w = wrapping_negation w

wrapped_is : (n t k : ℕ) → n ≡ t + k * 2 ^ 32 → t < 2 ^ 32 → n % 2 ^ 32 ≡ t
wrapped_is n t k e low = omega arith

pub word_pos : (n : ℕ) → IsNumber (pos n) → word (pos n) ≡ n
word_pos n h = grind (arith, nat_tests)

word_neg : (n : ℕ) → IsNumber (negsuc n) → word (negsuc n) + suc n ≡ 2 ^ 32
word_neg n h = grind (arith, nat_tests)

-- so many elements further on
onward : (p w n size t : ℕ) → w ≡ n → p + n * size ≡ t → t < 2 ^ 32 → element p w size ≡ t
onward p w n size t same e low = wrapped_is (p + w * size) t 0 (ap (λ k. p + k * size) same ∙ omega (arith, e)) low

-- and back, by a word that is less than none by so many
backward : (p w n size t : ℕ) → w + n ≡ 2 ^ 32 → p ≡ t + n * size → t < 2 ^ 32 → element p w size ≡ t
backward p w n size t less e low =
    let whole : (w + n) * size ≡ 2 ^ 32 * size = ap (λ k. k * size) less in
    wrapped_is (p + w * size) t size (omega (arith, e, whole)) low

negated_word : (w n : ℕ) → w ≡ n → 0 < n → n < 2 ^ 32 → wrapping_negation w + n ≡ 2 ^ 32
negated_word w n same some low = omega arith

pub address_moved : (direction : Direction) (a byte size target : ℕ) (n : ℤ) → IsNumber n → pos byte +ℤ distance direction size n ≡ pos target → a + target < 2 ^ 32 → element (a + byte) (moved_word direction (word n)) size ≡ a + target
address_moved directions.Forward a byte size target (pos n) number leads low =
    let e : byte + n * size ≡ target = omega (arith, ints, leads) in
    onward (a + byte) (word (pos n)) n size (a + target) (word_pos n number) (omega (arith, e)) low
address_moved directions.Forward a byte size target (negsuc n) number leads low =
    let e : byte ≡ target + suc n * size = omega (arith, ints, leads) in
    backward (a + byte) (word (negsuc n)) (suc n) size (a + target) (word_neg n number) (omega (arith, e)) low
address_moved directions.Backward a byte size target (pos zero) number leads low =
    let e : byte + 0 * size ≡ target = omega (arith, ints, leads) in
    onward (a + byte) (wrapping_negation (word (pos 0))) 0 size (a + target) refl (omega (arith, e)) low
address_moved directions.Backward a byte size target (pos (suc n)) number leads low =
    let e : byte ≡ target + suc n * size = omega (arith, ints, leads) in
    let small : suc n < 2 ^ 32 = grind (arith, nat_tests) in
    backward (a + byte) (wrapping_negation (word (pos (suc n)))) (suc n) size (a + target) (negated_word (word (pos (suc n))) (suc n) (word_pos (suc n) number) (omega arith) small) (omega (arith, e)) low
address_moved directions.Backward a byte size target (negsuc n) number leads low =
    let e : byte + suc n * size ≡ target = omega (arith, ints, leads) in
    let whole = word_neg n number in
    let small : suc n < 2 ^ 32 = grind (arith, nat_tests) in
    onward (a + byte) (wrapping_negation (word (negsuc n))) (suc n) size (a + target) (omega (arith, whole)) (omega (arith, e)) low
