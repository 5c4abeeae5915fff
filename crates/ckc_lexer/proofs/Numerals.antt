-- Numerals by their digits.
use Rattle.std.proofs.Common.{◌≡◌, ◌≢◌, ℕ, ◌+◌, ◌*◌, ◌<◌, List, [], ◌∷◌, length, get_or, take, Err, ap, ◌∙◌, arith}
use Rattle.std.specs.List.{list_all}
use Rattle.std.specs.Char.{digit_value}
use Rattle.std.specs.Str.Parse.{digits_value}
use Rattle.std.proofs.Math.Nat.{mul_comm}
use Rattle.std.proofs.lemmas.Bool.Decides.{nat_tests}
use Rattle.std.proofs.lemmas.Int.Digits.{digits_value_more}
use Rattle.ckc_text.specs.declared.code.Code.TheVariants.{E04}
use Rattle.ckc_text.specs.Names.{is_digit}
use Rattle.ckc_lexer.specs.Words.{is_decimal, limited}

-- digits are a numeral unless they are several and the first is 0
pub is_decimal_digits : (word : List ℕ) → 0 < length word → (1 < length word → get_or word 0 0 ≢ 48) → list_all is_digit word ≡ is_decimal word
is_decimal_digits [] some first = absurd (omega arith)
is_decimal_digits (b ∷ []) some first = grind (arith, nat_tests)
is_decimal_digits (b ∷ c ∷ bs) some first = let ne : b ≢ 48 = first (omega arith) in grind (arith, nat_tests)

-- one digit more
pub digits_value_step : (radix : ℕ) (bs : List ℕ) (i : ℕ) → i < length bs → digits_value radix (take (i + 1) bs) ≡ radix * digits_value radix (take i bs) + digit_value (get_or bs i 0)
digits_value_step radix bs i lt =
    digits_value_more radix bs i lt ∙ ap (λ n. n + digit_value (get_or bs i 0)) (mul_comm (digits_value radix (take i bs)) radix)

pub limited_great : (n : ℕ) → 2147483647 < n → Err E04 ≡ limited n
limited_great n h = grind (arith, nat_tests)
