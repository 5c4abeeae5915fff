-- Numbers that are checked.
use Rattle.std.specs.Prelude.{Result, Ok, Err}
use Rattle.std.proofs.Common.{ℤ}
use Rattle.act_words.specs.declared.ending.Ending.{Ending}
use Rattle.act_words.specs.Checks.{Checked, Holds, Fails}

-- the number, or how the check of it fails
abbrev pub checked_of : Result ℤ Ending → Checked ℤ
checked_of (Ok number) = Holds number
checked_of (Err ending) = Fails ending
