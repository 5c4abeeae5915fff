-- For laws and private clauses: the line of a text that is refused, as reading it line by line finds it.
use Rattle.std.specs.Prelude.{ℕ, suc, Bool, true, false, cond, ◌&&◌, ◌==◌, List, [], ◌∷◌, length, Option, Some, None}
use Rattle.code_words_listing.specs.Lines.{Line}
use Rattle.code_words_listing.specs.ReadLines.{line_of}
use Rattle.code_words_listing.specs.Steps.{State, Start, Headed, InTrusted, InCallback, InFunction, InSandbox, InBody, Closed, is_empty, step}
use Rattle.code_words_listing.specs.Verdicts.{first_of, unless, off_pace}

-- ---- the lines of a text

-- a text as lines, and what stands behind the last line feed
pub record Parts : Type 0 where
  pub lines : List (List ℕ)
  pub rest : List ℕ

abbrev pub onto_line : ℕ → List (List ℕ) → List ℕ → Parts
onto_line b [] rest = record { lines = []; rest = b ∷ rest }
onto_line b (line ∷ lines) rest = record { lines = (b ∷ line) ∷ lines; rest = rest }

-- with one more byte before them
abbrev pub with_byte : ℕ → Parts → Parts
with_byte b parts = cond (b == 10) (record { lines = [] ∷ parts.lines; rest = parts.rest }) (onto_line b parts.lines parts.rest)

abbrev pub parts_of : List ℕ → Parts
parts_of [] = record { lines = []; rest = [] }
parts_of (b ∷ text) = with_byte b (parts_of text)

-- ---- the lines that follow one another

-- the first lines of a text, as far as each may follow those before it, and whether they are a whole listing
pub record Front : Type 0 where
  pub lines : List Line
  pub whole : Bool

abbrev pub is_closed : State → Bool
is_closed Start = false
is_closed Headed = false
is_closed (InTrusted image) = false
is_closed (InCallback image c left) = false
is_closed (InFunction image f) = false
is_closed (InSandbox image) = false
is_closed (InBody image f) = false
is_closed (Closed image) = true

abbrev pub onto_front : Line → Front → Front
onto_front line front = record { lines = line ∷ front.lines; whole = front.whole }

abbrev pub no_front : Front
no_front = record { lines = []; whole = false }

abbrev pub front_behind : Line → Option State → (State → Front) → Front
front_behind line None later = no_front
front_behind line (Some next) later = onto_front line (later next)

abbrev pub front_by : State → Option Line → (State → Front) → Front
front_by state None later = no_front
front_by state (Some line) later = front_behind line (step state line) later

-- from a state on
abbrev pub front_of : State → List (List ℕ) → List ℕ → Front
front_of state [] rest = record { lines = []; whole = is_closed state && is_empty rest }
front_of state (text ∷ texts) rest = front_by state (line_of text) (λ next. front_of next texts rest)

-- ---- the answer

abbrev pub refused_behind : Front → Option ℕ
refused_behind front = first_of (off_pace 1 front.lines) (unless front.whole (suc (length front.lines)))

abbrev pub refused_parts : Parts → Option ℕ
refused_parts parts = refused_behind (front_of Start parts.lines parts.rest)

-- the number of the line of a text that is refused, if one is
abbrev pub refused_in : List ℕ → Option ℕ
refused_in text = refused_parts (parts_of text)
