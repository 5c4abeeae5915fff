-- What operators and comparisons come to, on numbers of 32 bits and on words.
use Rattle.std.specs.Prelude.{ℕ, Bool, ◌&&◌, ◌==◌, not, int_lt, int_le, bit_and, bit_or, bit_xor}
use Rattle.std.proofs.Common.{ℤ}
use Rattle.ckc_text.specs.declared.place.Place.{Place}
use Rattle.act_words.specs.declared.operator.ArithmeticOperator.{ArithmeticOperator}
use Rattle.act_words.specs.declared.operator.ArithmeticOperator.TheVariants as arithmetics
use Rattle.act_words.specs.declared.operator.BitwiseOperator.{BitwiseOperator}
use Rattle.act_words.specs.declared.operator.BitwiseOperator.TheVariants as bits
use Rattle.act_words.specs.declared.operator.Comparison.{Comparison}
use Rattle.act_words.specs.declared.operator.Comparison.TheVariants as comparisons
use Rattle.act_words.specs.Checks.{Checked}
use Rattle.act_words.specs.Numbers.{signed}
use Rattle.act_words.specs.Arithmetic.{sum, difference, product, quotient, remainder, shifted_left, shifted_right}

-- the number of an arithmetic operator, with its checks, which name the place
abbrev pub arithmetic_result : ArithmeticOperator → Place → ℤ → ℤ → Checked ℤ
arithmetic_result arithmetics.Add place a b = sum place a b
arithmetic_result arithmetics.Subtract place a b = difference place a b
arithmetic_result arithmetics.Multiply place a b = product place a b
arithmetic_result arithmetics.Divide place a b = quotient place a b
arithmetic_result arithmetics.Remainder place a b = remainder place a b
arithmetic_result arithmetics.ShiftLeft place a b = shifted_left place a b
arithmetic_result arithmetics.ShiftRight place a b = shifted_right place a b

-- the word of a bitwise operator
abbrev pub bitwise_result : BitwiseOperator → ℕ → ℕ → ℕ
bitwise_result bits.And a b = bit_and a b
bitwise_result bits.Or a b = bit_or a b
bitwise_result bits.Xor a b = bit_xor a b

-- a comparison holds of two numbers
abbrev pub holds : Comparison → ℤ → ℤ → Bool
holds comparisons.Equal a b = int_le a b && int_le b a
holds comparisons.NotEqual a b = not (int_le a b && int_le b a)
holds comparisons.Less a b = int_lt a b
holds comparisons.LessEqual a b = int_le a b
holds comparisons.Greater a b = int_lt b a
holds comparisons.GreaterEqual a b = int_le b a

-- a comparison holds of two words, which are equal where their numbers are
abbrev pub holds_of_words : Comparison → ℕ → ℕ → Bool
holds_of_words comparisons.Equal a b = a == b
holds_of_words comparisons.NotEqual a b = not (a == b)
holds_of_words comparisons.Less a b = int_lt (signed a) (signed b)
holds_of_words comparisons.LessEqual a b = int_le (signed a) (signed b)
holds_of_words comparisons.Greater a b = int_lt (signed b) (signed a)
holds_of_words comparisons.GreaterEqual a b = int_le (signed b) (signed a)
