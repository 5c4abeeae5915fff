-- Checks that fail alike on both sides.
use Rattle.std.specs.Prelude.{◌^◌, Bool, true, false, nat_lt, pos, negsuc}
use Rattle.std.proofs.Common.{ℤ}
use Rattle.ckc_text.specs.declared.place.Place.{Place}
use Rattle.ckc_text.specs.declared.code.Code.TheVariants.{C6}
use Rattle.act_words.specs.declared.ending.Ending.{Ending}
use Rattle.act_words.specs.declared.ending.Ending.TheVariants.{Check}

-- a value where the check holds, and the run's end where it fails
pub data Checked (A : Type 0) : Type 0 where
  Holds : (value : A) → Checked A
  Fails : (ending : Ending) → Checked A

-- the number has 32 bits
abbrev pub is_word_number : ℤ → Bool
is_word_number (pos n) = nat_lt n (2 ^ 31)
is_word_number (negsuc n) = nat_lt n (2 ^ 31)

abbrev pub held_if : {A : Type 0} → Bool → A → Ending → Checked A
held_if true value ending = Holds value
held_if false value ending = Fails ending

-- C6: the result of a sum, a difference or the like has 32 bits
abbrev pub without_overflow : Place → ℤ → Checked ℤ
without_overflow place number = held_if (is_word_number number) number (Check C6 place)
