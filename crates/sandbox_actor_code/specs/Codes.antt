-- An actor of the sandbox's code as its parts see it, and what a step of it does.
use Rattle.std.specs.Prelude.{◌≡◌, ℕ, ◌+◌, ◌^◌, ◌<◌, ◌≤◌, nat_le, nat_lt, if◌then◌else◌, Bool, true, false}
use Rattle.std.specs.Prelude.{List, [], ◌∷◌, length, take, reverse, Option, Some, None, option_map}
use Rattle.act_words.specs.declared.act as code
use Rattle.act_words.specs.Acts.{Seen, SeenBytes, SeenCall, SeenReply, Stop, act_view}
use Rattle.flat_bytes.specs.Words.{word_at}
use Rattle.marshalling.specs.declared.kind.WordKind.{WordKind}
use Rattle.marshalling.specs.declared.kind.WordKind.TheVariants as kinds
use Rattle.code_words.specs.declared.image.Callback.{Callback}
use Rattle.act_words.specs.declared.act.Turn.TheVariants as turns
use Rattle.sandbox_actor.specs.Answers.{Lowers}
use Rattle.code_words.specs.declared.op.Op.{Op}
use Rattle.code_words.specs.declared.op.Op.TheVariants as ops
use Rattle.code_words.specs.Functions.{Func}
use Rattle.code_words.specs.Images.{Image}
use Rattle.code_words.specs.SandboxCode.{Frame, Held, Calls, Entered, CallsBack, Runs, Looks, Rests, State, Step, Goes, Acts}
use Rattle.code_words.specs.SandboxCode.{stop, function_of, act, answered, runs_for}
use Rattle.sandbox_actor_code.specs.CallFrames.{Call}
use Rattle.sandbox_actor_code.specs.declared.waiting_calls.Awaited.{Awaited}
use Rattle.sandbox_actor_code.specs.declared.waiting_calls.Awaited.TheVariants as awaited
use Rattle.sandbox_actor_code.specs.declared.waiting_calls.WaitingCall.{WaitingCall}
use Rattle.sandbox_actor_code.specs.declared.code_actor.Phase.{Phase}
use Rattle.sandbox_actor_code.specs.declared.code_actor.Phase.TheVariants as phases
use Rattle.sandbox_actor_code.specs.Answering.{CodeState, behind_act}
use Rattle.sandbox_actor_code.specs.StepsLeft.{steps_left, left_to}

-- the image, the budget, the ticks that were spent, what the code does, the call that runs if one does, and those that wait
pub record Code : Type 0 where
  pub image : Image
  pub budget : ℕ
  pub ticks : ℕ
  pub phase : Phase
  pub call : Call
  pub waiting : List WaitingCall

-- ---- what is behind a call

abbrev pub held_by : Awaited → Frame → List Held → List Held
held_by awaited.Function frame held = Calls frame ∷ held
held_by (awaited.Callback k) frame held = Entered ∷ CallsBack frame k ∷ held

-- behind a call that runs: the trusted side entered behind a callback, and behind them all
abbrev pub held_behind : List WaitingCall → List Held
held_behind [] = Entered ∷ []
held_behind (w ∷ waiting) = held_by w.awaited w.call.frame (held_behind waiting)

abbrev pub held_first : Awaited → Frame → List Held → List Held
held_first awaited.Function frame held = Calls frame ∷ held
held_first (awaited.Callback k) frame held = CallsBack frame k ∷ held

-- where none runs
abbrev pub held_at_rest : List WaitingCall → List Held
held_at_rest [] = []
held_at_rest (w ∷ waiting) = held_first w.awaited w.call.frame (held_behind waiting)

-- ---- states

abbrev pub running : Code → State
running c = record { doing = Runs c.call.frame; held = held_behind c.waiting; ticks = c.ticks }

abbrev pub looking : Code → State
looking c = record { doing = Looks c.call.frame; held = held_behind c.waiting; ticks = c.ticks }

abbrev pub at_rest : Code → State
at_rest c = record { doing = Rests; held = held_at_rest c.waiting; ticks = c.ticks }

abbrev pub state_in : Phase → Code → Option State
state_in phases.Runs c = Some (running c)
state_in phases.Looks c = Some (looking c)
state_in phases.Rests c = Some (at_rest c)
state_in phases.Stopped c = None

abbrev pub code_state : Code → CodeState
code_state c = record { image = c.image; budget = c.budget; state = state_in c.phase c }

-- ---- steps

-- it is the same code under the same budget
abbrev pub IsSame : Code → Code → Type 0
IsSame old new = (new.image ≡ old.image) × (new.budget ≡ old.budget)

-- a step goes on with the code running, or makes its act
abbrev pub Leads : Step → Code → Option code.Act.Act → Code → Type 0
Leads (Goes s) old result new = (result ≡ None) × (new.phase ≡ phases.Runs) × (running new ≡ s) × IsSame old new
Leads (Acts a s) old result new = (option_map act_view result ≡ Some a) × (state_in new.phase new ≡ behind_act a s) × IsSame old new

-- the code stops
abbrev pub Stops : Code → Option code.Act.Act → Code → Type 0
Stops old result new = (option_map act_view result ≡ Some Stop) × (state_in new.phase new ≡ None) × IsSame old new

-- the call that runs is one of this function
abbrev pub IsIn : Code → Func → Type 0
IsIn c f = function_of c.image c.call.frame.function ≡ Some f

-- the step is that of an instruction
abbrev pub Does : Op → Code → Option code.Act.Act → Code → Type 0
Does op old result new = (f : Func) → IsIn old f → Leads (act old.image old.budget f op old.call.frame (running old)) old result new

-- a call runs, and the instruction behind its next one can be numbered
pub record IsReady (c : Code) : Type 0 where
  pub runs : c.phase ≡ phases.Runs
  pub next_fits : c.call.frame.next + 1 < 2 ^ 64

-- the two topmost words of a stack, the lower one first
abbrev pub two_topmost : List ℕ → Option (ℕ × ℕ)
two_topmost [] = None
two_topmost (right ∷ []) = None
two_topmost (right ∷ left ∷ below) = Some (left, right)

-- so many words of a stack, of which the last is on top, if there are so many
abbrev pub top_words_of : ℕ → List ℕ → Option (List ℕ)
top_words_of count stack = if nat_le count (length stack) then Some (reverse (take count stack)) else None

-- behind the next instruction, with this stack
abbrev pub behind : Frame → List ℕ → Frame
behind f stack = record f { next = f.next + 1; stack = stack }

-- a return with a word, or with none
abbrev pub return_step : Image → ℕ → Func → Frame → Option ℕ → State → Step
return_step image budget fun f None s = act image budget fun ops.ReturnNothing f s
return_step image budget fun f (Some w) s = act image budget fun ops.Return (record f { stack = w ∷ [] }) s

abbrev pub resumed_if : Bool → ℕ → Frame → State → Step
resumed_if true w f s = Goes (record s { doing = Runs (record f { stack = w ∷ f.stack }) })
resumed_if false w f s = stop s

-- an open call goes on with what came back to it, if something did
abbrev pub resume_step : Func → Option ℕ → Frame → State → Step
resume_step fun None f s = Goes (record s { doing = Runs f })
resume_step fun (Some w) f s = resumed_if (nat_lt (length f.stack) fun.stack) w f s

-- how many steps are left
abbrev pub code_left : Code → ℕ
code_left c = left_to (code_state c)

-- what was shown leads the code on, with no more steps left, or it stops
abbrev pub Shows : Option Seen → State → Code → Option code.Act.Act → Code → Type 0
Shows seen s old None new =
    (new.phase ≡ phases.Runs) × ((n : ℕ) → answered old.image old.budget n s seen ≡ runs_for old.image old.budget n (running new))
    × (steps_left old.image old.budget (running new) ≤ steps_left old.image old.budget s) × IsSame old new
Shows seen s old (Some a) new = (t : State) × ((n : ℕ) → answered old.image old.budget n s seen ≡ Some (Stop, t)) × Stops old (Some a) new

-- the same from what the code did before; what has stopped stays so
abbrev pub ShowsFrom : Option State → Option Seen → Code → Option code.Act.Act → Code → Type 0
ShowsFrom None seen old result new = Stops old result new
ShowsFrom (Some s) seen old result new = Shows seen s old result new

-- fewer steps are left, as an actor's answers have to leave them
abbrev pub LeavesFewer : Option code.Act.Act → Code → Code → Type 0
LeavesFewer None old new = code_left new < code_left old
LeavesFewer (Some a) old new = Lowers turns.Sandbox (act_view a) (code_left old) (code_left new)

-- so many steps lead to the act
pub record RunsOn (old : Code) (act : code.Act.Act) (new : Code) : Type 0 where
  pub count : ℕ
  pub behind : State
  pub acts : runs_for old.image old.budget count (running old) ≡ Some (act_view act, behind)
  pub state : state_in new.phase new ≡ behind_act (act_view act) behind
  pub same : IsSame old new
  pub fewer : Lowers turns.Sandbox (act_view act) (code_left old) (code_left new)

-- the word of bytes that a load looked at
abbrev pub word_if : Bool → List ℕ → Option ℕ
word_if true bytes = Some (word_at (length bytes) bytes 0)
word_if false bytes = None

abbrev pub word_of : Option Seen → Option ℕ
word_of None = None
word_of (Some (SeenBytes at bytes)) = Some (word_at (length bytes) bytes 0)
word_of (Some (SeenCall number words)) = None
word_of (Some (SeenReply value)) = None

abbrev pub reply_by : WordKind → ℕ → Option ℕ
reply_by kinds.Int value = Some value
reply_by kinds.Char value = Some value
reply_by kinds.Pointer value = Some value
reply_by kinds.Void value = None

-- the word that a callback replied with, unless it returns nothing
abbrev pub reply_of : Option Callback → ℕ → Option ℕ
reply_of None value = Some value
reply_of (Some callback) value = reply_by callback.result value
