-- When a run needs an act that its list hasn't got.
use Rattle.std.specs.Prelude.{◌≡◌, ℕ, List, [], ◌∷◌, Option, Some, None}
use Rattle.std.proofs.Common.{ℤ}
use Rattle.act_words.specs.declared.settings.Settings.{Settings}
use Rattle.act_words.specs.Acts.{Act, Seen}
use Rattle.act_words.specs.World.{Event, Took, Output, Released, Showed, NoAct}
use Rattle.sandbox_actor.specs.Answers.{Moment}
use Rattle.code_words.specs.declared.image.Image.{Image}
use Rattle.code_words.specs.Runs.{exec, started, events_of}

-- the first moment at which an act was due and none was left, where this was shown last before the events
abbrev pub due_from : Option Seen → List Event → Option Moment
due_from last [] = None
due_from last (Took turn act ∷ events) = due_from last events
due_from last (Output bytes ∷ events) = due_from last events
due_from last (Released release ∷ events) = due_from last events
due_from last (Showed seen ∷ events) = due_from (Some seen) events
due_from last (NoAct turn ∷ events) = Some (record { turn = turn; last = last })

abbrev pub due_in : List Event → Option Moment
due_in events = due_from None events

-- the events before that moment, or all
abbrev pub before_due : List Event → List Event
before_due [] = []
before_due (Took turn act ∷ events) = Took turn act ∷ before_due events
before_due (Output bytes ∷ events) = Output bytes ∷ before_due events
before_due (Released release ∷ events) = Released release ∷ before_due events
before_due (Showed seen ∷ events) = Showed seen ∷ before_due events
before_due (NoAct turn ∷ events) = []

-- a run of the image over these inputs and acts takes all the acts, and then an act is due, at this moment, behind these events
pub record IsDue (image : Image) (settings : Settings) (inputs : List ℤ) (acts : List Act) (moment : Moment) (events : List Event) : Type 0 where
  pub steps : ℕ
  pub due : due_in (events_of (exec image settings steps (started image settings inputs acts))) ≡ Some moment
  pub before : events ≡ before_due (events_of (exec image settings steps (started image settings inputs acts)))
