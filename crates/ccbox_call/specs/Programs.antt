-- What can be run, and how its runs end: a core by its meaning, an image by its code.
use Rattle.std.specs.Prelude.{◌≡◌, List}
use Rattle.std.proofs.Common.{ℤ}
use Rattle.act_words.specs.declared.ending.Ending.{Ending}
use Rattle.act_words.specs.declared.settings.Settings.{Settings}
use Rattle.act_words.specs.Acts.{Act}
use Rattle.act_words.specs.Shown.{Shown}
use Rattle.act_words.specs.World.{Event}
use Rattle.ckc_core.specs.Core.{Core}
use Rattle.ckc_core.specs.Meaning.{meaning}
use Rattle.ckc_core.specs.Outcome.{Ends}
use Rattle.ckc_core.specs.States as meant
use Rattle.code_words.specs.Dumps.{blocks_held}
use Rattle.code_words.specs.Images.{Image}
use Rattle.code_words.specs.Runs.{CodeRun}
use Rattle.code_words.specs.Table as machine
use Rattle.lowering.specs.Correct.{blocks_meant}

-- what can be run
pub data Program : Type 0 where
  -- a core, as it is meant
  Meant : (c : Core) → Program
  -- an image, as its code goes
  Coded : (image : Image) → Program

-- the run of a core with input numbers over acts ends so, in this state
abbrev pub RunsTo : Core → Settings → List ℤ → List Act → Ending → meant.State → Type 0
RunsTo c settings inputs acts ending s = meaning c settings inputs acts ≡ Ends ending s

-- it ends so, behind these events and with these last blocks
pub record MeantRun (c : Core) (settings : Settings) (inputs : List ℤ) (acts : List Act) (ending : Ending) (events : List Event)
    (blocks : List Shown) : Type 0 where
  pub last : meant.State
  pub runs : RunsTo c settings inputs acts ending last
  pub events_are : last.world.events ≡ events
  pub blocks_are : blocks_meant settings.base last ≡ blocks

-- the same of the run of an image
pub record ImageRun (image : Image) (settings : Settings) (inputs : List ℤ) (acts : List Act) (ending : Ending) (events : List Event)
    (blocks : List Shown) : Type 0 where
  pub last : machine.State
  pub runs : CodeRun image settings inputs acts ending last
  pub events_are : last.world.events ≡ events
  pub blocks_are : blocks_held last ≡ blocks

-- how a program's run with input numbers over acts ends, behind which events, and with which last blocks
abbrev pub Runs : Program → Settings → List ℤ → List Act → Ending → List Event → List Shown → Type 0
Runs (Meant c) settings inputs acts ending events blocks = MeantRun c settings inputs acts ending events blocks
Runs (Coded image) settings inputs acts ending events blocks = ImageRun image settings inputs acts ending events blocks
