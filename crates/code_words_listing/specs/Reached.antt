-- For laws and private clauses: the states that lines lead to, and what is refused of what is left of a text.
use Rattle.std.specs.Prelude.{◌≡◌, ℕ, suc, Bool, true, false, List, [], ◌∷◌, ◌++◌, length, Option, Some, None, All}
use Rattle.code_words.specs.declared.op.Op.{Op}
use Rattle.code_words_listing.specs.Lines.{Line, Heading, TrustedSide, StaticBlock, TaintedFunction, Entry, Parameter, Begin, Instruction, End, Main}
use Rattle.code_words_listing.specs.Lines.{SandboxSide, Close, IsAllowed}
use Rattle.code_words_listing.specs.ReadLines.{line_of}
use Rattle.code_words_listing.specs.Steps.{State, Start, Headed, InTrusted, InCallback, InFunction, InSandbox, InBody, Closed, step, steps, lines_to}
use Rattle.code_words_listing.specs.Refused.{parts_of, Front, front_of}
use Rattle.code_words_listing.specs.Verdicts.{first_of, unless, off_pace}

abbrev pub is_instruction : Line → Bool
is_instruction Heading = false
is_instruction TrustedSide = false
is_instruction (StaticBlock number bytes) = false
is_instruction (TaintedFunction i) = false
is_instruction (Entry number fun args result) = false
is_instruction (Parameter p) = false
is_instruction (Begin number name args slots stack result) = false
is_instruction (Instruction op) = true
is_instruction End = false
is_instruction (Main number) = false
is_instruction SandboxSide = false
is_instruction Close = false

-- ---- states

-- the instructions so far of the function that has begun
abbrev pub begun_ops : State → List Op
begun_ops Start = []
begun_ops Headed = []
begun_ops (InTrusted image) = []
begun_ops (InCallback image c left) = []
begun_ops (InFunction image f) = f.ops
begun_ops (InSandbox image) = []
begun_ops (InBody image f) = f.ops
begun_ops (Closed image) = []

-- the state before the function that has begun
abbrev pub outside : State → State
outside Start = Start
outside Headed = Headed
outside (InTrusted image) = InTrusted image
outside (InCallback image c left) = InCallback image c left
outside (InFunction image f) = InTrusted image
outside (InSandbox image) = InSandbox image
outside (InBody image f) = InSandbox image
outside (Closed image) = Closed image

-- a state that lines lead to which may stand in a listing, and whose whole functions keep the pace
pub record IsReached (state : State) : Type 0 where
  pub steps : steps Start (lines_to state) ≡ Some state
  pub allowed : All IsAllowed (lines_to state)
  pub paced : off_pace 1 (lines_to (outside state)) ≡ None

-- the function that has begun keeps the pace where its instructions end
abbrev pub EndsOnPace : State → Line → Type 0
EndsOnPace state line = is_instruction line ≡ false → off_pace 1 (lines_to state) ≡ None

-- one more line of a text leads from a state to the next
pub record Follows (state next : State) (text : List ℕ) : Type 0 where
  pub line : Line
  pub read : line_of text ≡ Some line
  pub step : step state line ≡ Some next
  pub paced : EndsOnPace state line

-- ---- the text

-- the first line of a text, and what stands behind its line feed
pub record IsFirstLine (text line behind : List ℕ) : Type 0 where
  pub cut : text ≡ line ++ 10 ∷ behind
  pub parts : parts_of text ≡ record { lines = line ∷ (parts_of behind).lines; rest = (parts_of behind).rest }

-- ---- what is refused

-- the line that is refused of a text that begins with these lines and goes on so
abbrev pub refused_with : List Line → Front → Option ℕ
refused_with front later = first_of (off_pace 1 (front ++ later.lines)) (unless later.whole (suc (length (front ++ later.lines))))

-- the line that is refused of a text that goes on from a state with these lines, and such bytes behind the last line feed
abbrev pub refused_from : State → List (List ℕ) → List ℕ → Option ℕ
refused_from state texts rest = refused_with (lines_to state) (front_of state texts rest)

-- this line is refused of each text that goes on from a state with such a line
abbrev pub RefusedBehind : State → List ℕ → ℕ → Type 0
RefusedBehind state text number = (later : List (List ℕ)) (rest : List ℕ) → refused_from state (text ∷ later) rest ≡ Some number
