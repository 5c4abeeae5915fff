-- A machine, as its callers see it, and what its calls do by the instruction table.
use Rattle.std.specs.Prelude.{◌≡◌, ℕ, ◌+◌, ◌*◌, ◌<◌, ◌⊎◌, Bool, true, false, List, [], ◌∷◌, ◌++◌, Option, Some, None, slice_get}
use Rattle.std.proofs.Common.{ℤ, pos}
use Rattle.ckc_text.specs.declared.place.Place.{Place}
use Rattle.act_words.specs.declared.act.Turn.{Turn}
use Rattle.act_words.specs.declared.act.Turn.TheVariants as turns
use Rattle.act_words.specs.declared.ending.Ending.{Ending}
use Rattle.act_words.specs.declared.settings.Settings.{Settings}
use Rattle.act_words.specs.Acts.{Act, seen_view, release_view}
use Rattle.act_words.specs.World
use Rattle.act_words.specs.World.{World, Took, NoAct, counted}
use Rattle.flat_bytes.specs.Blocks.{Block}
use Rattle.trusted_memory.specs.Memories.{Memory}
use Rattle.code_words.specs.declared.op.Op.{Op}
use Rattle.code_words.specs.declared.op.Op.TheVariants as ops
use Rattle.code_words.specs.Functions.{Func}
use Rattle.code_words.specs.declared.image.Image.{Image}
use Rattle.code_words.specs.Table.{Frame, Caller, Waits, Touch, Control, Runs, Touches, Away, State, Step, Goes, Over}
use Rattle.code_words.specs.Moves.{move}
use Rattle.code_words.specs.Left as left
use Rattle.code_words.specs.Left.{LeavesTurn}
use Rattle.code_words.specs.Runs.{started}
use Rattle.two_memory_machine_states.specs.declared.event.Event.{Event}
use Rattle.two_memory_machine_states.specs.declared.event.Event.TheVariants.{Ran, Asks, Input, Out, Showed, Touched, Ended}
use Rattle.two_memory_machine_states.specs.declared.event.Waiting.{Waiting}
use Rattle.two_memory_machine_states.specs.declared.event.Waiting.TheVariants as waiting

-- what the innermost open call of the trusted side does
pub data Doing : Type 0 where
  -- an instruction is next
  Running : Doing
  -- the instruction that is next waits for an input number
  NeedsNumber : Doing
  -- it has the number, and takes it in the next step
  HasNumber : (number : ℤ) → Doing
  -- a touch waits for its acts
  Touching : (touch : Touch) → Doing
  -- it called a tainted function at a place, and the sandbox has the turn
  Suspended : (import : ℕ) (place : Place) → Doing

-- the image and its settings, the trusted memory with its blocks, the innermost open call of the trusted side with what it
-- does and the calls behind it, the sandbox's bytes and the offset of its next block, how many acts were taken and ticks
-- spent, and the ending once the run is over
pub record Machine : Type 0 where
  pub image : Image
  pub settings : Settings
  pub memory : Memory
  pub blocks : List Block
  pub frame : Frame
  pub doing : Doing
  pub callers : List Caller
  pub sandbox : List ℕ
  pub room : ℕ
  pub taken : ℕ
  pub ticks : ℕ
  pub over : Option Ending

-- ---- the state of the instruction table

abbrev pub turn_of : Doing → Turn
turn_of Running = turns.Trusted
turn_of NeedsNumber = turns.Trusted
turn_of (HasNumber number) = turns.Trusted
turn_of (Touching touch) = turns.Trusted
turn_of (Suspended import place) = turns.Sandbox

abbrev pub control_of : Doing → Frame → Control
control_of Running frame = Runs frame
control_of NeedsNumber frame = Runs frame
control_of (HasNumber number) frame = Runs frame
control_of (Touching touch) frame = Touches frame touch
control_of (Suspended import place) frame = Away

-- a call of a tainted function is an open call until its reply
abbrev pub callers_in : Doing → Frame → List Caller → List Caller
callers_in Running frame callers = callers
callers_in NeedsNumber frame callers = callers
callers_in (HasNumber number) frame callers = callers
callers_in (Touching touch) frame callers = callers
callers_in (Suspended import place) frame callers = Waits frame import place ∷ callers

-- a number that was given stands before the input numbers that are left
abbrev pub inputs_in : Doing → List ℤ → List ℤ
inputs_in Running inputs = inputs
inputs_in NeedsNumber inputs = inputs
inputs_in (HasNumber number) inputs = number ∷ inputs
inputs_in (Touching touch) inputs = inputs
inputs_in (Suspended import place) inputs = inputs

-- the machine's world where these acts and these input numbers are left, and these events happened, none of which it keeps
abbrev pub world_of : Machine → List Act → List ℤ → List World.Event → World
world_of m acts inputs events =
    record {
      sandbox = m.sandbox;
      room = m.room;
      turn = turn_of m.doing;
      acts = acts;
      taken = m.taken;
      inputs = inputs_in m.doing inputs;
      ticks = m.ticks;
      events = events;
    }

abbrev pub state_of : Machine → List Act → List ℤ → List World.Event → State
state_of m acts inputs events =
    record {
      memory = m.memory;
      blocks = m.blocks;
      control = control_of m.doing m.frame;
      callers = callers_in m.doing m.frame m.callers;
      world = world_of m acts inputs events;
    }

-- a machine that has made no move
pub record IsStart (image : Image) (settings : Settings) (m : Machine) : Type 0 where
  pub image_is : m.image ≡ image
  pub settings_are : m.settings ≡ settings
  pub state : (acts : List Act) (inputs : List ℤ) → state_of m acts inputs [] ≡ started image settings inputs acts
  pub runs : m.doing ≡ Running
  pub over : m.over ≡ None

-- ---- what a machine waits for

abbrev pub waiting_for : Option Ending → Doing → Waiting
waiting_for (Some ending) doing = waiting.Over
waiting_for None Running = waiting.Runs
waiting_for None NeedsNumber = waiting.Number
waiting_for None (HasNumber number) = waiting.Runs
waiting_for None (Touching touch) = waiting.Act
waiting_for None (Suspended import place) = waiting.Act

abbrev pub waiting_of : Machine → Waiting
waiting_of m = waiting_for m.over m.doing

-- the instruction that stands next, if one does
abbrev pub next_op_of : Machine → Option Op
next_op_of m = op_in (slice_get m.image.trusted.funs m.frame.function)
  where
    op_in : Option Func → Option Op
    op_in None = None
    op_in (Some f) = slice_get f.ops m.frame.next

abbrev pub is_input : Option Op → Bool
is_input (Some ops.NextInput) = true
is_input _ = false

-- ---- events

-- these events, and behind them what an event tells
abbrev pub told_behind : Event → List World.Event → List World.Event
told_behind Ran events = events
told_behind Asks events = events
told_behind Input events = events
told_behind (Out bytes) events = events ++ World.Output bytes ∷ []
told_behind (Showed seen) events = events ++ World.Showed (seen_view seen) ∷ []
told_behind (Touched release None) events = events ++ World.Released (release_view release) ∷ []
told_behind (Touched release (Some seen)) events = events ++ World.Released (release_view release) ∷ World.Showed (seen_view seen) ∷ []
told_behind (Ended ending) events = events

-- the ending that an event gave the run, if it gave one
abbrev pub ending_given : Event → Option Ending
ending_given Ran = None
ending_given Asks = None
ending_given Input = None
ending_given (Out bytes) = None
ending_given (Showed seen) = None
ending_given (Touched release seen) = None
ending_given (Ended ending) = Some ending

-- the event tells something
abbrev pub TellsSomething : Event → Type 0
TellsSomething Ran = ⊥
TellsSomething _ = Unit {0}

-- an instruction that doesn't end the run goes on to the next one, with what it wrote, or its touch waits from now on
abbrev pub TellsStep : Event → Doing → Type 0
TellsStep Ran doing = doing ≡ Running
TellsStep Asks doing = (touch : Touch) × (doing ≡ Touching touch)
TellsStep Input doing = ⊥
TellsStep (Out bytes) doing = doing ≡ Running
TellsStep (Showed seen) doing = ⊥
TellsStep (Touched release seen) doing = ⊥
TellsStep (Ended ending) doing = ⊥

-- an act that doesn't end the run shows the sandbox something, or lets a touch be made, or does neither
abbrev pub TellsAct : Event → Doing → Type 0
TellsAct Ran doing = Unit {0}
TellsAct Asks doing = ⊥
TellsAct Input doing = ⊥
TellsAct (Out bytes) doing = ⊥
TellsAct (Showed seen) doing = Unit {0}
TellsAct (Touched release seen) doing = Unit {0}
TellsAct (Ended ending) doing = ⊥

-- ---- moves

-- a move stays with the image and its settings
abbrev pub IsOfSame : Machine → Machine → Type 0
IsOfSame old new = (new.image ≡ old.image) × (new.settings ≡ old.settings)

-- with these acts, inputs and events, a move of the table leads to the machine's new state, or ends the run as the machine
-- does, with the same memories; the event tells what the move added to the events
abbrev pub Gives : (Event → Doing → Type 0) → List Act → List ℤ → List World.Event → Step → Machine → Event → Machine → Type 0
Gives Tells acts inputs events (Goes s) old event new =
    (s ≡ state_of new acts inputs (told_behind event events)) × Tells event new.doing × (new.over ≡ None) × IsOfSame old new
Gives Tells acts inputs events (Over ending s) old event new =
    (event ≡ Ended ending) × (new.over ≡ Some ending) × (s.memory ≡ new.memory) × (s.blocks ≡ new.blocks) × (s.world ≡ world_of new acts inputs events)
    × IsOfSame old new

-- the instruction that is next takes an input number, and none was given yet
abbrev pub waits_for_number : Doing → Option Op → Bool
waits_for_number Running op = is_input op
waits_for_number NeedsNumber op = is_input op
waits_for_number (HasNumber number) op = false
waits_for_number (Touching touch) op = is_input op
waits_for_number (Suspended import place) op = is_input op

-- the machine's step is the table's move, whichever acts and inputs are left and whatever came before: a number that was
-- given is the first of the inputs. An instruction that takes an input number waits for it
abbrev pub StepsIf : Bool → Machine → Event → Machine → Type 0
StepsIf true old event new = (event ≡ Input) × (new ≡ record old { doing = NeedsNumber })
StepsIf false old event new =
    (acts : List Act) (inputs : List ℤ) (events : List World.Event) →
    Gives TellsStep acts inputs events (move old.image old.settings (state_of old acts inputs events)) old event new

-- the move of a machine that has a number, where none is left
abbrev pub TakesNoNumber : Machine → Event → Machine → Type 0
TakesNoNumber old event new =
    (acts : List Act) (events : List World.Event) →
    Gives TellsStep acts [] events (move old.image old.settings (state_of (record old { doing = NeedsNumber }) acts [] events)) old event new

pub record Steps (old : Machine) (event : Event) (new : Machine) : Type 0 where
  pub makes : StepsIf (waits_for_number old.doing (next_op_of old)) old event new
  -- with 0, it is also the move where no number is left
  pub none_left : old.doing ≡ HasNumber (pos 0) → TakesNoNumber old event new

-- one more act is taken
abbrev pub with_one : Machine → Machine
with_one m = record m { taken = counted m.taken }

-- with an act, the machine makes the move that takes it; that it was taken, it doesn't tell
abbrev pub TakesAct : Machine → Act → Event → Machine → Type 0
TakesAct old act event new =
    (acts : List Act) (inputs : List ℤ) (events : List World.Event) →
    Gives TellsAct acts inputs (events ++ Took (turn_of old.doing) act ∷ [])
    (move old.image old.settings (state_of old (act ∷ acts) inputs events)) old event new

-- where no act is left, it makes the move that is left; that none was there, it doesn't tell
abbrev pub TakesEnd : Machine → Event → Machine → Type 0
TakesEnd old event new =
    (inputs : List ℤ) (events : List World.Event) →
    Gives TellsAct [] inputs (events ++ NoAct (turn_of old.doing) ∷ []) (move old.image old.settings (state_of old [] inputs events)) old event new

-- ---- the end of a run

-- an instruction may be begun before its number is given, and waits once more behind that
abbrev pub left_for : Option Ending → Doing → ℕ → ℕ
left_for (Some ending) doing moves = 0
left_for None Running moves = 3 * moves + 2
left_for None NeedsNumber moves = 3 * moves + 1
left_for None (HasNumber number) moves = 3 * moves
left_for None (Touching touch) moves = 3 * moves
left_for None (Suspended import place) moves = 3 * moves

-- how many calls of the machine can still change it at most, until its run is over
unfoldable pub moves_left : Machine → ℕ
moves_left m = left_for m.over m.doing (left.moves_left m.image m.settings (state_of m [] [] []))

-- fewer moves are left behind an act, or as many, where the act leaves the turn; then the machine waits for the next one
abbrev pub Sooner : Act → Machine → Machine → Type 0
Sooner act old new =
    (moves_left new < moves_left old) ⊎ ((moves_left new ≡ moves_left old) × (waiting_of new ≡ waiting.Act) × LeavesTurn act (turn_of old.doing))

-- ---- what can be looked at

-- the address and the length of a block of trusted memory
abbrev pub block_of : Machine → ℕ → Option (ℕ × ℕ)
block_of m k = at_base (slice_get m.blocks k)
  where
    at_base : Option Block → Option (ℕ × ℕ)
    at_base None = None
    at_base (Some block) = Some (m.memory.base + block.offset, block.bytes)
