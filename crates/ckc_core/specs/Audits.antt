-- What it means that an audit changes nothing.
use Rattle.std.specs.Prelude.{◌≡◌, List}
use Rattle.std.proofs.Common.{ℤ}
use Rattle.act_words.specs.declared.settings.Settings.{Settings}
use Rattle.act_words.specs.Acts.{Act}
use Rattle.ckc_core.specs.Outcome.{Gives, Ends, Stuck, Unsound, Short}
use Rattle.ckc_core.specs.Steps.{Result}
use Rattle.ckc_core.specs.Core.{Core}
use Rattle.ckc_core.specs.Meaning.{meaning, audited_meaning}

-- the other outcome is equal to this one, unless this one is unsound
abbrev pub Agrees : {A : Type 0} → Result A → Result A → Type 0
Agrees (Gives value state) other = other ≡ Gives value state
Agrees (Ends ending state) other = other ≡ Ends ending state
Agrees (Stuck site state) other = other ≡ Stuck site state
Agrees (Unsound site state) other = Unit {0}
Agrees Short other = other ≡ Short

-- wherever the audited meaning isn't unsound, the meaning without the audit is equal to it
abbrev pub AuditChangesNothing : Core → Type 0
AuditChangesNothing program =
    (settings : Settings) (inputs : List ℤ) (acts : List Act) → Agrees (audited_meaning program settings inputs acts) (meaning program settings inputs acts)
