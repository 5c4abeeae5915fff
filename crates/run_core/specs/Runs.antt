-- What running an image with an actor comes to, and what it writes.
use Rattle.std.specs.Prelude.{◌≡◌, ℕ, ◌≤◌, List, ◌++◌, length, take, Option, None, Result, Ok, Err}
use Rattle.std.proofs.Common.{ℤ}
use Rattle.ckc_text.specs.declared.code.Code.{Code}
use Rattle.ckc_io.specs.Counts.{Rises}
use Rattle.ckc_io.specs.Files.{Files}
use Rattle.ckc_io.specs.Written.{grown}
use Rattle.act_words.specs.declared.ending.Ending.{Ending}
use Rattle.act_words.specs.declared.settings.Settings.{Settings}
use Rattle.act_words.specs.Acts.{Act}
use Rattle.act_words.specs.World.{Event}
use Rattle.act_words.specs.Shown.{Shown}
use Rattle.sandbox_actor.specs.Answers.{Moment, Answer, Ended, Refused, Missing}
use Rattle.code_words.specs.declared.image.Image.{Image}
use Rattle.code_words.specs.Table.{State}
use Rattle.code_words.specs.Runs.{CodeRun}
use Rattle.code_words.specs.Dumps.{blocks_held}
use Rattle.run_core.specs.declared.fault.RunFault.{RunFault}
use Rattle.run_core.specs.declared.fault.RunFault.TheVariants as faults
use Rattle.run_core.specs.Texts.{run_text, front_text}
use Rattle.run_core.specs.Moments.{due_in, IsDue}
use Rattle.run_core.specs.Asked.{Answering}
use Rattle.run_core.specs.Chains.{Chain}
use Rattle.run_core.specs.Gave.{Gave}

-- what a run comes to where no device fails: an ending, or an act that can't be given
pub data Outcome : Type 0 where
  Ends : (ending : Ending) → Outcome
  -- the line of this number is refused
  LineRefused : (line : ℕ) (code : Code) → Outcome
  FileMissing : Outcome

-- over these acts, whichever follow them, the run ends so, behind these events and with these blocks; none of those that
-- follow is taken
pub record EndsBefore (image : Image) (settings : Settings) (inputs : List ℤ) (acts : List Act) (ending : Ending) (events : List Event)
    (blocks : List Shown) : Type 0 where
  pub runs : (rest : List Act) → (t : State) × CodeRun image settings inputs (acts ++ rest) ending t × (t.world.acts ≡ rest) × (t.world.events ≡ events)
      × (blocks_held t ≡ blocks)
  pub undue : due_in events ≡ None

-- the image's run with an actor, from one state of it to another, comes to this, with this text
pub data Comes {S : Type 0} (answers : Answering S) (files : Option Files) (image : Image) (settings : Settings) (inputs : List ℤ) (first : S)
    : S → Outcome → List ℕ → Type 0 where
  -- the run ended by itself, or by its last act, and the acts of its events are the actor's
  ended : {last : S} {ending : Ending} (acts : List Act) (events : List Event) (blocks : List Shown)
      → Chain answers files image settings inputs first acts last → Gave answers files first None events last
      → EndsBefore image settings inputs acts ending events blocks
      → Comes answers files image settings inputs first last (Ends ending) (run_text settings events ending blocks)
  -- the run needed an act where the actor had none left
  ran_out : {mid last : S} {ending : Ending} {moment : Moment} {events : List Event} (acts : List Act) (t : State)
      → Chain answers files image settings inputs first acts mid → IsDue image settings inputs acts moment events → answers mid files moment Ended last
      → CodeRun image settings inputs acts ending t
      → Comes answers files image settings inputs first last (Ends ending) (run_text settings t.world.events ending (blocks_held t))
  -- the run needed an act that stands in a line that is refused
  refused : {mid last : S} {line : ℕ} {code : Code} {moment : Moment} (acts : List Act) (events : List Event)
      → Chain answers files image settings inputs first acts mid → IsDue image settings inputs acts moment events
      → answers mid files moment (Refused line code) last
      → Comes answers files image settings inputs first last (LineRefused line code) (front_text settings events)
  -- the run needed an act from a file that isn't there
  missing : {mid last : S} {moment : Moment} (acts : List Act) (events : List Event) → Chain answers files image settings inputs first acts mid
      → IsDue image settings inputs acts moment events → answers mid files moment Missing last
      → Comes answers files image settings inputs first last FileMissing (front_text settings events)

-- the actor's shelf failed: the acts that it had given, and the moment at which it was asked for one more; its state stays
pub record ShelfFault {S : Type 0} (answers : Answering S) (files : Option Files) (image : Image) (settings : Settings) (inputs : List ℤ)
    (first last : S) : Type 0 where
  pub acts : List Act
  pub moment : Moment
  pub events : List Event
  pub chain : Chain answers files image settings inputs first acts last
  pub due : IsDue image settings inputs acts moment events

-- how far an actor had come where the run broke off: it had given its last act, or answered that it had none to give; or it
-- was asked for one more, and hadn't the memory to answer
pub data CameTo {S : Type 0} (answers : Answering S) (files : Option Files) (image : Image) (settings : Settings) (inputs : List ℤ) (first : S)
    : S → Type 0 where
  given : {last : S} (acts : List Act) → Chain answers files image settings inputs first acts last → CameTo answers files image settings inputs first last
  answered : {mid last : S} {moment : Moment} {events : List Event} {answer : Answer} (acts : List Act)
      → Chain answers files image settings inputs first acts mid → IsDue image settings inputs acts moment events → answers mid files moment answer last
      → CameTo answers files image settings inputs first last
  unanswered : {mid last : S} {moment : Moment} {events : List Event} (acts : List Act) → Chain answers files image settings inputs first acts mid
      → IsDue image settings inputs acts moment events → CameTo answers files image settings inputs first last

-- the actor's shelf failed where an act was due behind those that it had given, and nothing was written
pub record WritesToShelfFault {S : Type 0} (answers : Answering S) (files : Option Files) (image : Image) (settings : Settings) (inputs : List ℤ)
    (first last : S) (old new : Option (List ℕ)) : Type 0 where
  pub due : ShelfFault answers files image settings inputs first last
  pub nothing : new ≡ old

-- memory ran out, behind the acts that the actor had given, and nothing was written
pub record WritesToWant {S : Type 0} (answers : Answering S) (files : Option Files) (image : Image) (settings : Settings) (inputs : List ℤ)
    (first last : S) (old new : Option (List ℕ)) : Type 0 where
  pub came : CameTo answers files image settings inputs first last
  pub nothing : new ≡ old

-- the whole text of what the run comes to was written
abbrev pub WritesAll : {S : Type 0} → Answering S → Option Files → Image → Settings → List ℤ → S → S → Outcome → (old new : Option (List ℕ)) → Type 0
WritesAll answers files image settings inputs first last outcome old new =
    (text : List ℕ) × Comes answers files image settings inputs first last outcome text × (new ≡ grown old text)

-- a front of it was written
pub record WritesFront {S : Type 0} (answers : Answering S) (files : Option Files) (image : Image) (settings : Settings) (inputs : List ℤ)
    (first last : S) (old new : Option (List ℕ)) : Type 0 where
  pub outcome : Outcome
  pub text : List ℕ
  pub comes : Comes answers files image settings inputs first last outcome text
  pub size : ℕ
  pub fits : size ≤ length text
  pub front : new ≡ grown old (take size text)

-- what was written, by the answer
abbrev pub RunWrites : {S : Type 0} → Answering S → Option Files → Image → Settings → List ℤ → S → S → (old new : Option (List ℕ)) → Result Ending RunFault
    → Type 0
RunWrites answers files image settings inputs first last old new (Ok ending) = WritesAll answers files image settings inputs first last (Ends ending) old new
RunWrites answers files image settings inputs first last old new (Err (faults.Line line code)) =
    WritesAll answers files image settings inputs first last (LineRefused line code) old new
RunWrites answers files image settings inputs first last old new (Err faults.Missing) =
    WritesAll answers files image settings inputs first last FileMissing old new
RunWrites answers files image settings inputs first last old new (Err faults.ShelfFailed) =
    WritesToShelfFault answers files image settings inputs first last old new
RunWrites answers files image settings inputs first last old new (Err faults.SinkFailed) = WritesFront answers files image settings inputs first last old new
RunWrites answers files image settings inputs first last old new (Err faults.NoMemory) = WritesToWant answers files image settings inputs first last old new

-- ---- counts of failures

-- a run's counts: the shelf's misses and faults, and the sink's faults
pub record Counts : Type 0 where
  pub misses : ℕ
  pub faults : ℕ
  pub sink : ℕ

-- what the answer says of the counts: each fault raises its own. Before the output failed, a file may have been missed
abbrev pub RunCounts : Result Ending RunFault → Counts → Counts → Type 0
RunCounts (Ok ending) before after = after ≡ before
RunCounts (Err (faults.Line line code)) before after = after ≡ before
RunCounts (Err faults.Missing) before after = Rises before.misses after.misses × (after.faults ≡ before.faults) × (after.sink ≡ before.sink)
RunCounts (Err faults.ShelfFailed) before after = (after.misses ≡ before.misses) × Rises before.faults after.faults × (after.sink ≡ before.sink)
RunCounts (Err faults.SinkFailed) before after = (before.misses ≤ after.misses) × (after.faults ≡ before.faults) × Rises before.sink after.sink
RunCounts (Err faults.NoMemory) before after = (before.misses ≤ after.misses) × (after.faults ≡ before.faults) × (after.sink ≡ before.sink)
