-- Arithmetic on numbers of 32 bits, with its checks, and on words.
use Rattle.std.specs.Prelude.{ℕ, ◌+◌, ◌-◌, ◌*◌, ◌/◌, ◌%◌, ◌^◌, Bool, true, false, ◌&&◌, not, ◌==◌, nat_lt}
use Rattle.std.specs.Prelude.{int_div, int_rem, pos, negsuc}
use Rattle.std.proofs.Common.{ℤ, ◌+ℤ◌, ◌-ℤ◌, ◌*ℤ◌, neg_ℤ}
use Rattle.ckc_text.specs.declared.place.Place.{Place}
use Rattle.ckc_text.specs.declared.code.Code.TheVariants.{C6, C7, C8}
use Rattle.act_words.specs.declared.ending.Ending.{Ending}
use Rattle.act_words.specs.declared.ending.Ending.TheVariants.{Check}
use Rattle.act_words.specs.Checks.{Checked, Fails, held_if, is_word_number, without_overflow}
use Rattle.act_words.specs.Numbers.{signed, word}

abbrev pub is_zero : ℤ → Bool
is_zero (pos n) = n == 0
is_zero (negsuc n) = false

abbrev pub checked_then : Bool → Ending → Checked ℤ → Checked ℤ
checked_then true ending next = next
checked_then false ending next = Fails ending

-- ---- operations of the trusted side

abbrev pub sum : Place → ℤ → ℤ → Checked ℤ
sum place a b = without_overflow place (a +ℤ b)

abbrev pub difference : Place → ℤ → ℤ → Checked ℤ
difference place a b = without_overflow place (a -ℤ b)

abbrev pub product : Place → ℤ → ℤ → Checked ℤ
product place a b = without_overflow place (a *ℤ b)

-- C7: the divisor isn't 0. C6: the quotient has 32 bits; it is rounded toward zero
abbrev pub quotient : Place → ℤ → ℤ → Checked ℤ
quotient place a b = checked_then (not (is_zero b)) (Check C7 place) (without_overflow place (int_div a b))

-- the same checks; the remainder has the sign of the left number
abbrev pub remainder : Place → ℤ → ℤ → Checked ℤ
remainder place a b = checked_then (not (is_zero b)) (Check C7 place) (held_if (is_word_number (int_div a b)) (int_rem a b) (Check C6 place))

abbrev pub negation : Place → ℤ → Checked ℤ
negation place b = without_overflow place (neg_ℤ b)

-- a count from 0 to 31
abbrev pub is_count : ℤ → Bool
is_count (pos n) = nat_lt n 32
is_count (negsuc n) = false

abbrev pub count_of : ℤ → ℕ
count_of (pos n) = n
count_of (negsuc n) = 0

abbrev pub is_not_negative : ℤ → Bool
is_not_negative (pos n) = true
is_not_negative (negsuc n) = false

-- C8: the count is one of 0 to 31, the left number isn't negative, and the result has 31 bits
abbrev pub shifted_left : Place → ℤ → ℤ → Checked ℤ
shifted_left place a b =
    held_if (is_count b && (is_not_negative a && is_word_number (a *ℤ pos (2 ^ count_of b)))) (a *ℤ pos (2 ^ count_of b)) (Check C8 place)

-- a number divided by 2 as often, rounded down
abbrev pub halved : ℤ → ℕ → ℤ
halved (pos n) count = pos (n / 2 ^ count)
halved (negsuc n) count = negsuc (n / 2 ^ count)

-- C8: the count is one of 0 to 31
abbrev pub shifted_right : Place → ℤ → ℤ → Checked ℤ
shifted_right place a b = held_if (is_count b) (halved a (count_of b)) (Check C8 place)

-- ---- operations on words, modulo 2 ^ 32

abbrev pub wrapped : ℕ → ℕ
wrapped n = n % 2 ^ 32

abbrev pub wrapping_sum : ℕ → ℕ → ℕ
wrapping_sum a b = wrapped (a + b)

abbrev pub wrapping_difference : ℕ → ℕ → ℕ
wrapping_difference a b = wrapped (a + (2 ^ 32 - b))

abbrev pub wrapping_product : ℕ → ℕ → ℕ
wrapping_product a b = wrapped (a * b)

abbrev pub wrapping_negation : ℕ → ℕ
wrapping_negation b = wrapped (2 ^ 32 - b)

abbrev pub wrapping_shift_left : ℕ → ℕ → ℕ
wrapping_shift_left a b = wrapped (a * 2 ^ (b % 32))

abbrev pub wrapping_shift_right : ℕ → ℕ → ℕ
wrapping_shift_right a b = word (halved (signed a) (b % 32))

-- of words whose second one isn't 0; the least number divided by -1 is itself, and its remainder is 0
abbrev pub wrapping_quotient : ℕ → ℕ → ℕ
wrapping_quotient a b = word (int_div (signed a) (signed b))

abbrev pub wrapping_remainder : ℕ → ℕ → ℕ
wrapping_remainder a b = word (int_rem (signed a) (signed b))

abbrev pub complement : ℕ → ℕ
complement b = 2 ^ 32 - 1 - b

abbrev pub bit : Bool → ℕ
bit true = 1
bit false = 0
