-- The sandbox's code as an actor: its state, and what it answers.
use Rattle.std.specs.Prelude.{◌≡◌, ℕ, Bool, true, false, ◌==◌, ◌||◌, List, length, Option, Some, None}
use Rattle.act_words.specs.declared.act.Turn.{Turn}
use Rattle.act_words.specs.declared.act.Turn.TheVariants as turns
use Rattle.act_words.specs.Acts.{Act, Go, Read, Write, Call, Return, Stop, Seen, SeenBytes, SeenCall, SeenReply}
use Rattle.code_words.specs.Images.{Image}
use Rattle.code_words.specs.SandboxCode.{State, Answers, resting}
use Rattle.sandbox_actor.specs.Answers.{Answer, Gives, Ended, Refused, Missing, Moment}

-- the sandbox's code of an image under a budget of ticks: what it does, until it has stopped
pub record CodeState : Type 0 where
  pub image : Image
  pub budget : ℕ
  pub state : Option State

-- before it is called
abbrev pub code_at_start : Image → ℕ → CodeState
code_at_start image budget = record { image = image; budget = budget; state = Some resting }

-- behind an act: what stopped does nothing any more
abbrev pub behind_act : Act → State → Option State
behind_act Go s = Some s
behind_act (Read at len) s = Some s
behind_act (Write at bytes) s = Some s
behind_act (Call fun args) s = Some s
behind_act (Return value) s = Some s
behind_act Stop s = None

-- a load looks at 1 or at 4 bytes
abbrev pub is_load_size : ℕ → Bool
is_load_size n = (n == 1) || (n == 4)

abbrev pub bytes_if : Bool → ℕ → List ℕ → Option Seen
bytes_if true at bytes = Some (SeenBytes at bytes)
bytes_if false at bytes = None

-- what code can take of what was shown: of bytes those of a load
abbrev pub taken_of : Option Seen → Option Seen
taken_of None = None
taken_of (Some (SeenBytes at bytes)) = bytes_if (is_load_size (length bytes)) at bytes
taken_of (Some (SeenCall fun args)) = Some (SeenCall fun args)
taken_of (Some (SeenReply value)) = Some (SeenReply value)

-- the act of code that has stopped
abbrev pub stopped_act : Turn → Act
stopped_act turns.Trusted = Go
stopped_act turns.Sandbox = Stop

-- the act that the code answers at a moment, and what it does behind it
abbrev pub AnswersFrom : Image → ℕ → Option State → Moment → Act → Option State → Type 0
AnswersFrom image budget None now act after = (act ≡ stopped_act now.turn) × (after ≡ None)
AnswersFrom image budget (Some s) now act after = (t : State) × Answers image budget s now.turn (taken_of now.last) act t × (after ≡ behind_act act t)

-- the answer is always an act, and the image and the budget stay
abbrev pub CodeAnswers : CodeState → Moment → Answer → CodeState → Type 0
CodeAnswers before now (Gives act) after =
    AnswersFrom before.image before.budget before.state now act after.state × (after.image ≡ before.image) × (after.budget ≡ before.budget)
CodeAnswers before now Ended after = ⊥
CodeAnswers before now (Refused line code) after = ⊥
CodeAnswers before now Missing after = ⊥
