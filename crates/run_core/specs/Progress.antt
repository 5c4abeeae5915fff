-- How far a run with an actor has come, and what is left to say where it stops.
use Rattle.std.specs.Prelude.{◌≡◌, ℕ, ◌≤◌, ◌<◌, ◌++◌, List, [], ◌∷◌, Option, Some, None, option_map, Bool, true, false, Result, Ok, Err}
use Rattle.std.proofs.Common.{ℤ}
use Rattle.ckc_io.specs.Files.{Files}
use Rattle.act_words.specs.declared.ending.Ending.{Ending}
use Rattle.act_words.specs.declared.settings.Settings.{Settings}
use Rattle.act_words.specs.Acts.{Act, Seen, seen_view}
use Rattle.act_words.specs.World.{Event, Output, Showed}
use Rattle.act_words.specs.Shown.{Shown}
use Rattle.sandbox_actor.specs.Answers.{Moment, Ended}
use Rattle.code_words.specs.declared.image.Image.{Image}
use Rattle.code_words.specs.Table.{State}
use Rattle.code_words.specs.Left.{LeavesTurn}
use Rattle.code_words.specs.Dumps.{blocks_held}
use Rattle.code_words.specs.Runs.{Run, Unfinished, Finished, exec, started}
use Rattle.two_memory_machine.specs.declared.event.Event.{Event as MachineEvent}
use Rattle.two_memory_machine.specs.declared.event.Event.TheVariants as told_by
use Rattle.two_memory_machine.specs.declared.event.Waiting.TheVariants as waiting
use Rattle.two_memory_machine.specs.Machines.{Machine, IsOfSame, state_of, world_of, turn_of, waiting_of, told_behind, TakesAct, TakesEnd, moves_left}
use Rattle.run_core.specs.declared.play.Progressed.{Progressed}
use Rattle.run_core.specs.declared.play.Progressed.TheVariants as progressed
use Rattle.run_core.specs.declared.fault.RunFault.{RunFault}
use Rattle.run_core.specs.declared.fault.RunFault.TheVariants as faults
use Rattle.run_core.specs.declared.play.Play.{Play}
use Rattle.act_recorder.specs.Endings.{ending_text}
use Rattle.run_core.specs.Texts.{events_text, dump_text, with_last_line}
use Rattle.run_core.specs.Moments.{due_in, IsDue}
use Rattle.run_core.specs.Asked.{Answering}
use Rattle.run_core.specs.Touched.{last_of, touched}
use Rattle.run_core.specs.Chains.{Chain}
use Rattle.run_core.specs.Gave.{Gave}
use Rattle.run_core.specs.Runs.{Ends, LineRefused, FileMissing, Comes, ShelfFault, CameTo}

-- ---- where a machine stands

-- a run stands where a machine does, with these acts and input numbers left, behind these events
abbrev pub IsAt : Run → Machine → List Act → List ℤ → List Event → Type 0
IsAt (Unfinished s) m acts inputs events = (m.over ≡ None) × (s ≡ state_of m acts inputs events)
IsAt (Finished ending s) m acts inputs events =
    (m.over ≡ Some ending) × (s.memory ≡ m.memory) × (s.blocks ≡ m.blocks) × (s.world ≡ world_of m acts inputs events)

-- from this state the run comes to where the machine stands
pub record Reaches (image : Image) (settings : Settings) (s : State) (m : Machine) (acts : List Act) (inputs : List ℤ) (events : List Event) : Type 0 where
  pub moves : ℕ
  pub there : IsAt (exec image settings moves s) m acts inputs events

-- over these acts, whichever follow them, the image's run comes to where the machine stands, behind these events
pub record Going (image : Image) (settings : Settings) (inputs : List ℤ) (acts : List Act) (events : List Event) (last : Option Seen)
    (left : List ℤ) (m : Machine) : Type 0 where
  pub image_is : m.image ≡ image
  pub settings_is : m.settings ≡ settings
  pub reaches : (rest : List Act) → Reaches image settings (started image settings inputs (acts ++ rest)) m rest left events
  pub undue : due_in events ≡ None
  pub last_is : last ≡ last_of None events

-- over these acts alone it does so
pub record RunsOut (image : Image) (settings : Settings) (inputs : List ℤ) (acts : List Act) (events : List Event) (left : List ℤ) (m : Machine) : Type 0 where
  pub image_is : m.image ≡ image
  pub settings_is : m.settings ≡ settings
  pub reaches : Reaches image settings (started image settings inputs acts) m [] left events

-- the machine's blocks, as they are now
abbrev pub blocks_of : Machine → List Shown
blocks_of m = blocks_held (state_of m [] [] [])

-- ---- where a run stands

-- the run has come so far: to the actor's state now, to a machine, the input numbers that are left, a text, what was shown
-- last, and whether the actor has ended
pub data Progress {S : Type 0} (answers : Answering S) (files : Option Files) (image : Image) (settings : Settings) (inputs : List ℤ)
    (first now : S) (m : Machine) (left : List ℤ) (text : List ℕ) : Option Seen → Bool → Type 0 where
  going : {last : Option Seen} (acts : List Act) (events : List Event) → Chain answers files image settings inputs first acts now
      → Gave answers files first None events now → Going image settings inputs acts events last left m → text ≡ events_text settings events
      → Progress answers files image settings inputs first now m left text last false
  out_of_acts : {last : Option Seen} {mid : S} {moment : Moment} {before : List Event} (acts : List Act) (events : List Event)
      → Chain answers files image settings inputs first acts mid → IsDue image settings inputs acts moment before → answers mid files moment Ended now
      → RunsOut image settings inputs acts events left m → text ≡ events_text settings events
      → Progress answers files image settings inputs first now m left text last true

-- the same of what is played
abbrev pub Played : {S : Type 0} → Answering S → Option Files → Image → Settings → List ℤ → S → S → Play → Type 0
Played answers files image settings inputs first now p =
    (p.settings ≡ settings) × Progress answers files image settings inputs first now p.machine p.inputs.now p.text.items (option_map seen_view p.last) p.ended

-- when an actor is asked
abbrev pub moment_in : Play → Moment
moment_in p = record { turn = turn_of p.machine.doing; last = option_map seen_view p.last }

-- ---- what happens

-- what an event tells
abbrev pub told : MachineEvent → List Event
told told_by.Ran = []
told told_by.Asks = []
told told_by.Input = []
told (told_by.Out bytes) = Output bytes ∷ []
told (told_by.Showed seen) = Showed (seen_view seen) ∷ []
told (told_by.Touched release seen) = touched release seen
told (told_by.Ended ending) = []

-- what an event tells is in the text, and what it shows was shown last
pub record Tells (event : MachineEvent) (old new : Play) : Type 0 where
  pub settings : new.settings ≡ old.settings
  pub text : new.text.items ≡ old.text.items ++ events_text old.settings (told event)
  pub last : option_map seen_view new.last ≡ last_of (option_map seen_view old.last) (told event)

-- wherever a run comes to the one machine, it comes to the other, behind what the event tells
pub record Leads (old : Machine) (before : List ℤ) (event : MachineEvent) (new : Machine) (after : List ℤ) : Type 0 where
  pub same : IsOfSame old new
  pub goes : (s : State) (acts : List Act) (events : List Event) → Reaches old.image old.settings s old acts before events
      → Reaches old.image old.settings s new acts after (told_behind event events)

-- instructions were done, and what came of the last one was told
pub record Steps (old new : Play) : Type 0 where
  pub event : MachineEvent
  pub leads : Leads old.machine old.inputs.now event new.machine new.inputs.now
  pub tells : Tells event old new
  pub ended : new.ended ≡ old.ended

-- an act was taken, and what came of it was told
pub record Takes (act : Act) (old new : Play) : Type 0 where
  pub event : MachineEvent
  pub takes : TakesAct old.machine act event new.machine
  pub tells : Tells event old new
  pub inputs : new.inputs.now ≡ old.inputs.now
  pub ended : new.ended ≡ old.ended

-- no act was left
pub record TakesNone (old new : Play) : Type 0 where
  pub event : MachineEvent
  pub takes : TakesEnd old.machine event new.machine
  pub tells : Tells event old new
  pub inputs : new.inputs.now ≡ old.inputs.now
  pub ended : new.ended ≡ true

-- ---- what a part of a run answers

-- what the run comes to where it stops without an ending, and its whole text
abbrev pub Stops : {S : Type 0} → Answering S → Option Files → Image → Settings → List ℤ → S → S → List ℕ → RunFault → Type 0
Stops answers files image settings inputs first now text (faults.Line line code) =
    Comes answers files image settings inputs first now (LineRefused line code) (with_last_line text [])
Stops answers files image settings inputs first now text faults.Missing =
    Comes answers files image settings inputs first now FileMissing (with_last_line text [])
Stops answers files image settings inputs first now text faults.ShelfFailed = ShelfFault answers files image settings inputs first now
Stops answers files image settings inputs first now text faults.SinkFailed = ⊥
Stops answers files image settings inputs first now text faults.NoMemory = CameTo answers files image settings inputs first now

-- the run goes on, or stops
abbrev pub PlayGoes : {S A : Type 0} → Answering S → Option Files → Image → Settings → List ℤ → S → S → Play → Result A RunFault → Type 0
PlayGoes answers files image settings inputs first now p (Ok x) = Played answers files image settings inputs first now p
PlayGoes answers files image settings inputs first now p (Err fault) = Stops answers files image settings inputs first now p.text.items fault

-- the run ends, with these blocks, or stops
abbrev pub PlayEnds : {S : Type 0} → Answering S → Option Files → Image → Settings → List ℤ → S → S → List ℕ → List Shown → Result Ending RunFault → Type 0
PlayEnds answers files image settings inputs first now text blocks (Ok ending) =
    Comes answers files image settings inputs first now (Ends ending) (with_last_line text (ending_text ending) ++ dump_text settings blocks)
PlayEnds answers files image settings inputs first now text blocks (Err fault) = Stops answers files image settings inputs first now text fault

-- ---- that a run ends

-- the machine waits for an act
pub record IsAsked (m : Machine) : Type 0 where
  pub waits : waiting_of m ≡ waiting.Act

-- how far an act led
abbrev pub ending_in : Progressed → Option Ending
ending_in progressed.Stays = None
ending_in progressed.Moves = None
ending_in (progressed.Ends ending) = Some ending

-- the turn doesn't go on
abbrev pub IsOnward : Progressed → Type 0
IsOnward progressed.Stays = ⊥
IsOnward progressed.Moves = Unit {0}
IsOnward (progressed.Ends ending) = Unit {0}

-- fewer moves are left, unless the run is over
abbrev pub FallsUnless : Option Ending → (old new : Machine) → Type 0
FallsUnless None old new = moves_left new < moves_left old
FallsUnless (Some ending) old new = Unit {0}

-- an act that was taken: as many moves may be left where it left the turn, and the next one is waited for
abbrev pub NearsBy : Act → Progressed → (old new : Machine) → Type 0
NearsBy act progressed.Stays old new = IsAsked new × (moves_left new ≤ moves_left old) × LeavesTurn act (turn_of old.doing)
NearsBy act progressed.Moves old new = moves_left new < moves_left old
NearsBy act (progressed.Ends ending) old new = Unit {0}

-- while the turn goes on the actor's measure falls, and at its end fewer moves are left, unless the run is over
abbrev pub Nears : Progressed → (old new : Machine) → (before after : ℕ) → Type 0
Nears progressed.Stays old new before after = IsAsked new × (moves_left new ≤ moves_left old) × (after < before)
Nears progressed.Moves old new before after = moves_left new < moves_left old
Nears (progressed.Ends ending) old new before after = Unit {0}
