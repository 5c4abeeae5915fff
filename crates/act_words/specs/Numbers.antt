-- Words of 32 bits, and the numbers that they stand for.
use Rattle.std.specs.Prelude.{ℕ, suc, List, [], ◌∷◌, ◌++◌, decimal, pos, negsuc}
use Rattle.std.proofs.Common.{ℤ}
use Rattle.std.specs.Int.{cast_signed, cast_unsigned, w32}

-- the number that a word stands for, read with a sign
abbrev pub signed : ℕ → ℤ
signed word = cast_signed w32 word

-- the word of a number
abbrev pub word : ℤ → ℕ
word number = cast_unsigned w32 number

-- a number in decimal, and a line feed
abbrev pub number_line : ℤ → List ℕ
number_line (pos n) = decimal n ++ 10 ∷ []
number_line (negsuc n) = 45 ∷ (decimal (suc n) ++ 10 ∷ [])
