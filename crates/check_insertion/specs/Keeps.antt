-- What it means that inserted checks keep what a program means.
use Rattle.std.specs.Prelude.{◌≡◌, Bool, List}
use Rattle.std.proofs.Common.{ℤ}
use Rattle.act_words.specs.declared.settings.Settings.{Settings}
use Rattle.act_words.specs.Acts.{Act}
use Rattle.ckc_core.specs.Outcome.{Gives, Ends, Stuck, Unsound, Short}
use Rattle.ckc_core.specs.Steps.{Result}
use Rattle.ckc_core.specs.Core.{Core}
use Rattle.ckc_core.specs.Meaning.{run_of}
use Rattle.check_insertion.specs.ErasedMeaning as erased
use Rattle.check_insertion.specs.Insert.{inserted}

-- the other outcome is equal to this one, unless this one is stuck or unsound
abbrev pub Follows : {A : Type 0} → Result A → Result A → Type 0
Follows (Gives value state) other = other ≡ Gives value state
Follows (Ends ending state) other = other ≡ Ends ending state
Follows (Stuck site state) other = Unit {0}
Follows (Unsound site state) other = Unit {0}
Follows Short other = other ≡ Short

-- at every setting and over any acts, wherever the bounded meaning is neither stuck nor unsound, audited or not, the program with
-- its checks inserted does the same
abbrev pub KeepsMeaning : Core → Type 0
KeepsMeaning program =
    (audited : Bool) (settings : Settings) (inputs : List ℤ) (acts : List Act)
    → Follows (run_of audited program settings inputs acts) (erased.meaning (inserted program) settings inputs acts)
