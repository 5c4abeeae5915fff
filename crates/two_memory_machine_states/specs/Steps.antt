-- What a step does, part by part.
use Rattle.std.specs.Prelude.{◌≡◌, ℕ, ◌+◌, ◌^◌, ◌<◌, nat_le, if◌then◌else◌, Bool, true, false, List, [], ◌∷◌, length, take, reverse, Option, Some}
use Rattle.std.specs.Prelude.{None, slice_get}
use Rattle.std.proofs.Common.{ℤ}
use Rattle.act_words.specs.Acts.{Act}
use Rattle.act_words.specs.World
use Rattle.act_words.specs.declared.ending.Ending.{Ending}
use Rattle.ckc_text.specs.declared.code.Code.TheVariants.{S4}
use Rattle.act_words.specs.Acting.{bytes_at, stopped_by_act}
use Rattle.code_words.specs.declared.op.Op.{Op}
use Rattle.code_words.specs.declared.op.Op.TheVariants as ops
use Rattle.code_words.specs.Functions.{Func}
use Rattle.code_words.specs.Table.{Touch, State, Step, Goes, Over, act}
use Rattle.code_words.specs.Moves.{in_world}
use Rattle.two_memory_machine_states.specs.declared.event.Event.{Event}
use Rattle.two_memory_machine_states.specs.declared.outcome.Outcome.{Outcome}
use Rattle.two_memory_machine_states.specs.declared.outcome.Outcome.TheVariants as outcomes
use Rattle.two_memory_machine_states.specs.declared.event.Event.TheVariants.{Ran, Asks, Ended}
use Rattle.two_memory_machine_states.specs.Machines.{Machine, Doing, Running, NeedsNumber, HasNumber, Touching, Suspended, Gives, TellsStep}
use Rattle.two_memory_machine_states.specs.Machines.{TellsAct, IsOfSame, state_of, world_of}

-- the step goes as a line of the table, and an event tells it
abbrev pub EventBy : (State → Step) → Machine → Event → Machine → Type 0
EventBy line old event new =
    (acts : List Act) (inputs : List ℤ) (events : List World.Event) → Gives TellsStep acts inputs events (line (state_of old acts inputs events)) old event new

-- an instruction that doesn't end the run goes on to the next one, or its touch waits from now on
abbrev pub IsLeft : Outcome → Doing → Type 0
IsLeft outcomes.Ran doing = doing ≡ Running
IsLeft outcomes.Asks doing = (touch : Touch) × (doing ≡ Touching touch)
IsLeft outcomes.Ended doing = ⊥

-- with these acts, inputs and events, a move of the table leads to the machine's new state, or ends the run as the machine
-- does, with the same memories, and adds no event
abbrev pub Brings : List Act → List ℤ → List World.Event → Step → Machine → Outcome → Machine → Type 0
Brings acts inputs events (Goes s) old outcome new =
    (s ≡ state_of new acts inputs events) × IsLeft outcome new.doing × (new.over ≡ None) × IsOfSame old new
Brings acts inputs events (Over ending s) old outcome new =
    (outcome ≡ outcomes.Ended) × (new.over ≡ Some ending) × (s.memory ≡ new.memory) × (s.blocks ≡ new.blocks) × (s.world ≡ world_of new acts inputs events)
    × IsOfSame old new

-- the step goes as a line of the table, whichever acts and inputs are left and whatever came before
abbrev pub GoesBy : (State → Step) → Machine → Outcome → Machine → Type 0
GoesBy line old outcome new =
    (acts : List Act) (inputs : List ℤ) (events : List World.Event) → Brings acts inputs events (line (state_of old acts inputs events)) old outcome new

-- what an outcome tells: where it ended the run, the machine has the ending
abbrev pub event_of : Outcome → Option Ending → Event
event_of outcomes.Ran over = Ran
event_of outcomes.Asks over = Asks
event_of outcomes.Ended None = Ran
event_of outcomes.Ended (Some ending) = Ended ending

-- the innermost call is one of this function
abbrev pub IsIn : Machine → Func → Type 0
IsIn m f = slice_get m.image.trusted.funs m.frame.function ≡ Some f

-- the step is the line of an instruction
abbrev pub Tells : Op → Machine → Event → Machine → Type 0
Tells op old event new = (f : Func) → IsIn old f → EventBy (act old.image old.settings f op old.frame) old event new

abbrev pub Acts : Op → Machine → Outcome → Machine → Type 0
Acts op old outcome new = (f : Func) → IsIn old f → GoesBy (act old.image old.settings f op old.frame) old outcome new

-- a number was given only to an instruction that takes one
abbrev pub IsGivenTo : Doing → Option Op → Type 0
IsGivenTo Running op = Unit {0}
IsGivenTo NeedsNumber op = Unit {0}
IsGivenTo (HasNumber number) op = op ≡ Some ops.NextInput
IsGivenTo (Touching touch) op = Unit {0}
IsGivenTo (Suspended import place) op = Unit {0}

-- the run isn't over, an instruction is next, and the one behind it can be numbered
pub record IsReady (m : Machine) : Type 0 where
  pub going : m.over ≡ None
  pub runs : m.doing ≡ Running
  pub next_fits : m.frame.next + 1 < 2 ^ 64

-- the two topmost words of a stack, the lower one first
abbrev pub two_topmost : List ℕ → Option (ℕ × ℕ)
two_topmost [] = None
two_topmost (right ∷ []) = None
two_topmost (right ∷ left ∷ below) = Some (left, right)

-- the run ends so, and nothing else changes
abbrev pub EndsBy : Machine → Ending → Event → Machine → Type 0
EndsBy old ending event new = (event ≡ Ended ending) × (new ≡ record old { over = Some ending })

abbrev pub StopsBy : Machine → Ending → Outcome → Machine → Type 0
StopsBy old ending outcome new = (outcome ≡ outcomes.Ended) × (new ≡ record old { over = Some ending })

-- four words of a stack and more, the lowest first
abbrev pub four_topmost : List ℕ → Option (ℕ × ℕ × ℕ × ℕ)
four_topmost (d ∷ c ∷ b ∷ a ∷ below) = Some (a, b, c, d)
four_topmost _ = None

abbrev pub five_topmost : List ℕ → Option (ℕ × ℕ × ℕ × ℕ × ℕ)
five_topmost (e ∷ d ∷ c ∷ b ∷ a ∷ below) = Some (a, b, c, d, e)
five_topmost _ = None

abbrev pub seven_topmost : List ℕ → Option (ℕ × ℕ × ℕ × ℕ × ℕ × ℕ × ℕ)
seven_topmost (g ∷ f ∷ e ∷ d ∷ c ∷ b ∷ a ∷ below) = Some (a, b, c, d, e, f, g)
seven_topmost _ = None

-- so many words of a stack, of which the last is on top, if there are so many
abbrev pub top_words_of : ℕ → List ℕ → Option (List ℕ)
top_words_of count stack = if nat_le count (length stack) then Some (reverse (take count stack)) else None

-- a move that takes an act, or that is made where none is left, goes as a line of the table
abbrev pub MovesBy : (State → Step) → Machine → Event → Machine → Type 0
MovesBy line old event new =
    (acts : List Act) (inputs : List ℤ) (events : List World.Event) → Gives TellsAct acts inputs events (line (state_of old acts inputs events)) old event new

-- the world goes on as it may, or the act that was taken last ends the run
abbrev pub moved_if : Option World.World → State → Step
moved_if (Some w) s = Goes (in_world w s)
moved_if None s = Over (stopped_by_act S4 s.world) s

-- bytes of a memory, where they lie in it
abbrev pub bytes_if : Bool → (at len : ℕ) → List ℕ → Option (List ℕ)
bytes_if true at len memory = Some (bytes_at at len memory)
bytes_if false at len memory = None

-- the sandbox has the turn
abbrev pub IsSuspended : Doing → Type 0
IsSuspended Running = ⊥
IsSuspended NeedsNumber = ⊥
IsSuspended (HasNumber number) = ⊥
IsSuspended (Touching touch) = ⊥
IsSuspended (Suspended import place) = Unit {0}
