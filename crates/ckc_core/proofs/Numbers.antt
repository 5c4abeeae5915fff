-- Numbers of 32 bits and their words; the numbers that operators give have 32 bits.
use Rattle.std.proofs.Common.{◌≡◌, ℕ, suc, ◌-◌, ◌%◌, ◌/◌, ◌^◌, ◌<◌, ◌≤◌, Bool, true, false, ℤ, ◌+ℤ◌, ◌-ℤ◌, ◌*ℤ◌, pos, negsuc, refl, ap, ◌∙◌, ⊎_elim, arith, div-le_self}
use Rattle.std.specs.Prelude.{nat_lt, not, ◌&&◌, int_div, int_rem, unsigned_abs, FitsSigned, ◌==◌, int_le}
use Rattle.std.specs.Int.{w32}
use Rattle.std.specs.Int.Bits.{and_lt}
use Rattle.std.proofs.Math.Facts.{to_z-neg}
use Rattle.std.proofs.lemmas.Nat.{or_lt, xor_lt}
use Rattle.std.proofs.lemmas.Int.{to_z-of_z, of_z-to_z, to_z_pos, rem_below}
use Rattle.std.proofs.lemmas.Bool.{cases_lt}
use Rattle.std.proofs.lemmas.Bool.Decides.{nat_tests}
use Rattle.ckc_text.specs.declared.place.Place.{Place}
use Rattle.ckc_text.specs.declared.code.Code.TheVariants.{C6, C7, C8}
use Rattle.act_words.specs.declared.ending.Ending.{Ending}
use Rattle.act_words.specs.declared.ending.Ending.TheVariants.{Check}
use Rattle.act_words.specs.Checks.{Checked, Holds, Fails, held_if, is_word_number, without_overflow}
use Rattle.act_words.specs.Numbers.{word, signed}
use Rattle.act_words.specs.Arithmetic.{checked_then, is_zero, is_count, is_not_negative, complement, halved, count_of}
use Rattle.act_words.specs.Operators.{bitwise_result}
use Rattle.ckc_core.specs.declared.program.Site.{Site}
use Rattle.act_words.specs.declared.operator.Operator.{Operator}
use Rattle.act_words.specs.declared.operator.ArithmeticOperator.TheVariants as arithmetics
use Rattle.act_words.specs.declared.operator.BitwiseOperator.{BitwiseOperator}
use Rattle.act_words.specs.declared.operator.BitwiseOperator.TheVariants as bits
use Rattle.act_words.specs.declared.operator.Operator.TheVariants as operators
use Rattle.ckc_core.specs.Steps.{result_of}

abbrev pub IsNumber : ℤ → Type 0
IsNumber z = is_word_number z ≡ true

pub number_fits : (z : ℤ) → is_word_number z ≡ true → FitsSigned w32 z
number_fits (pos n) h = record { sfits = grind (arith, nat_tests) }
number_fits (negsuc n) h = record { sfits = grind (arith, nat_tests) }

pub signed-word : (z : ℤ) → is_word_number z ≡ true → signed (word z) ≡ z
signed-word z h = to_z-of_z w32 z (number_fits z h)

pub word_small : (z : ℤ) → is_word_number z ≡ true → word z < 2 ^ 32
word_small (pos n) h = grind (arith, nat_tests)
word_small (negsuc n) h = omega arith

-- a word of 32 bits is that of its number, which has 32 bits
pub word-signed : (w : ℕ) → w < 2 ^ 32 → word (signed w) ≡ w
word-signed w h = of_z-to_z w32 w h

pub signed_fits : (w : ℕ) → w < 2 ^ 32 → is_word_number (signed w) ≡ true
signed_fits w h = ⊎_elim (λ low. below low) (λ high. above high) (cases_lt w (2 ^ 31))
  where
    below : w < 2 ^ 31 → is_word_number (signed w) ≡ true
    below low = let test : nat_lt w (2 ^ 31) ≡ true = grind (arith, nat_tests) in ap is_word_number (to_z_pos w32 w low) ∙ test

    above : 2 ^ 31 ≤ w → is_word_number (signed w) ≡ true
    above high =
        let k = 2 ^ 32 - 1 - w in
        let low : k < 2 ^ 31 = omega arith in
        let test : nat_lt k (2 ^ 31) ≡ true = grind (arith, nat_tests) in
        let same : w ≡ 2 ^ 32 - suc k = omega arith in
        ap (λ n. is_word_number (signed n)) same ∙ ap is_word_number (to_z-neg w32 k low) ∙ test

-- a number is 0 where its word is
pub zero_word : (z : ℤ) → is_word_number z ≡ true → (word z == 0) ≡ is_zero z
zero_word (pos n) h = refl
zero_word (negsuc n) h = grind (arith, nat_tests)

-- two numbers are equal where their words are
pub equal_words : (a b : ℤ) → is_word_number a ≡ true → is_word_number b ≡ true → (word a == word b) ≡ (int_le a b && int_le b a)
equal_words (pos m) (pos n) ha hb = grind (arith, nat_tests)
equal_words (pos m) (negsuc n) ha hb = grind (arith, nat_tests)
equal_words (negsuc m) (pos n) ha hb = grind (arith, nat_tests)
equal_words (negsuc m) (negsuc n) ha hb = grind (arith, nat_tests)

-- numbers that shifts, remainders and complements give have 32 bits
pub halved_fits : (z : ℤ) (count : ℕ) → is_word_number z ≡ true → is_word_number (halved z count) ≡ true
halved_fits (pos n) count h = let low : n / 2 ^ count ≤ n = div-le_self n (2 ^ count) in grind (arith, nat_tests)
halved_fits (negsuc n) count h = let low : n / 2 ^ count ≤ n = div-le_self n (2 ^ count) in grind (arith, nat_tests)

fits_from_abs : (z : ℤ) → unsigned_abs z < 2 ^ 31 → is_word_number z ≡ true
fits_from_abs (pos n) h = grind (arith, nat_tests)
fits_from_abs (negsuc n) h = grind (arith, nat_tests)

abs_small : (z : ℤ) → is_word_number z ≡ true → unsigned_abs z ≤ 2 ^ 31
abs_small (pos n) h = grind (arith, nat_tests)
abs_small (negsuc n) h = grind (arith, nat_tests)

abs_above : (z : ℤ) → is_zero z ≡ false → 0 < unsigned_abs z
abs_above (pos n) h = grind (arith, nat_tests)
abs_above (negsuc n) h = omega arith

pub remainder_fits : (a b : ℤ) → is_word_number b ≡ true → is_zero b ≡ false → is_word_number (int_rem a b) ≡ true
remainder_fits a b hb apart = fits_from_abs (int_rem a b) (omega (arith, rem_below a b (abs_above b apart), abs_small b hb))

pub complement_fits : (w : ℕ) → complement w < 2 ^ 32
complement_fits w = omega arith

-- what is so of a check's number
abbrev pub IfHolds : (ℤ → Type 0) → Checked ℤ → Type 0
IfHolds P (Holds z) = P z
IfHolds P (Fails ending) = Unit {0}

held_fits : (test : Bool) (z : ℤ) (ending : Ending) → (test ≡ true → IsNumber z) → IfHolds IsNumber (held_if test z ending)
held_fits true z ending h = h refl
held_fits false z ending h = tt

pub overflow_fits : (place : Place) (z : ℤ) → IfHolds IsNumber (without_overflow place z)
overflow_fits place z = held_fits (is_word_number z) z (Check C6 place) (λ h. h)

divided_fits : (test : Bool) (ending : Ending) (next : Checked ℤ) → (test ≡ true → IfHolds IsNumber next) → IfHolds IsNumber (checked_then test ending next)
divided_fits true ending next h = h refl
divided_fits false ending next h = tt

last_true : (a b c : Bool) → (a && (b && c)) ≡ true → c ≡ true
last_true true true c h = h
last_true true false c h = absurd (cc)
last_true false b c h = absurd (cc)

not_true : (b : Bool) → not b ≡ true → b ≡ false
not_true true h = absurd (cc)
not_true false h = refl

-- a bitwise operator on words gives a word
pub bits_small : (operator : BitwiseOperator) (a b : ℕ) → a < 2 ^ 32 → b < 2 ^ 32 → bitwise_result operator a b < 2 ^ 32
bits_small bits.And a b ha hb = and_lt 32 a b ha hb
bits_small bits.Or a b ha hb = or_lt 32 a b ha hb
bits_small bits.Xor a b ha hb = xor_lt 32 a b ha hb

-- an operator's number has 32 bits
pub result_fits : (operator : Operator) (site : Site) (a b : ℤ) → IsNumber a → IsNumber b → IfHolds IsNumber (result_of operator site a b)
result_fits (operators.Arithmetic arithmetics.Add) site a b ha hb = overflow_fits site.place (a +ℤ b)
result_fits (operators.Arithmetic arithmetics.Subtract) site a b ha hb = overflow_fits site.place (a -ℤ b)
result_fits (operators.Arithmetic arithmetics.Multiply) site a b ha hb = overflow_fits site.place (a *ℤ b)
result_fits (operators.Arithmetic arithmetics.Divide) site a b ha hb = divided_fits (not (is_zero b)) (Check C7 site.place) (without_overflow site.place (int_div a b)) (λ h. overflow_fits site.place (int_div a b))
result_fits (operators.Arithmetic arithmetics.Remainder) site a b ha hb =
    divided_fits (not (is_zero b)) (Check C7 site.place) (held_if (is_word_number (int_div a b)) (int_rem a b) (Check C6 site.place))
    (λ h. held_fits (is_word_number (int_div a b)) (int_rem a b) (Check C6 site.place) (λ k. remainder_fits a b hb (not_true (is_zero b) h)))
result_fits (operators.Arithmetic arithmetics.ShiftLeft) site a b ha hb =
    let z = a *ℤ pos (2 ^ count_of b) in
    held_fits (is_count b && (is_not_negative a && is_word_number z)) z (Check C8 site.place) (last_true (is_count b) (is_not_negative a) (is_word_number z))
result_fits (operators.Arithmetic arithmetics.ShiftRight) site a b ha hb = held_fits (is_count b) (halved a (count_of b)) (Check C8 site.place) (λ h. halved_fits a (count_of b) ha)
result_fits (operators.Bitwise operator) site a b ha hb =
    signed_fits (bitwise_result operator (word a) (word b)) (bits_small operator (word a) (word b) (word_small a ha) (word_small b hb))

-- a number modulo 256 is a byte
pub low_byte_small : (z : ℤ) → word z % 256 < 256
low_byte_small z = omega arith
