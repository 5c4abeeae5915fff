-- The acts of a file: its text as lines, what each line says, and the list of acts that follows.
use Rattle.std.specs.Prelude.{◌≡◌, ℕ, ◌+◌, ◌==◌, ◌||◌, ◌&&◌, nat_lt, nat_le, List, [], ◌∷◌, ◌++◌, length, if◌then◌else◌, Bool, Option, Some, None}
use Rattle.std.specs.List.{list_all}
use Rattle.ckc_text.specs.declared.code.Code.{Code}
use Rattle.ckc_text.specs.declared.code.Code.TheVariants.{A4}
use Rattle.act_words.specs.Acts.{Act}
use Rattle.act_words.specs.Readings.{Reading, Says, Refuses, line_reading}
use Rattle.sandbox_actor.specs.Answers.{Answer, Gives, Ended, Refused, Missing}

-- ---- lists of acts

-- a line that is refused, by its number
pub record RefusedLine : Type 0 where
  pub line : ℕ
  pub code : Code

-- acts in order, and the line that is refused behind them, if there is one
pub record ActList : Type 0 where
  pub acts : List Act
  pub refused : Option RefusedLine

abbrev pub no_acts : ActList
no_acts = record { acts = []; refused = None }

abbrev pub refused_at : ℕ → Code → ActList
refused_at line code = record { acts = []; refused = Some (record { line = line; code = code }) }

abbrev pub act_then : Act → ActList → ActList
act_then act list = record { acts = act ∷ list.acts; refused = list.refused }

-- ---- lines

abbrev pub is_feed : ℕ → Bool
is_feed b = b == 10

-- the byte stands before the first of these lines
abbrev pub before_first : ℕ → List (List ℕ) → List (List ℕ)
before_first b [] = (b ∷ []) ∷ []
before_first b (line ∷ lines) = (b ∷ line) ∷ lines

-- the lines of a text, each with the line feed that ends it. The last one may lack it
abbrev pub lines_of : List ℕ → List (List ℕ)
lines_of [] = []
lines_of (b ∷ bytes) = if is_feed b then (b ∷ []) ∷ lines_of bytes else before_first b (lines_of bytes)

-- a line without its line feed
abbrev pub without_feed : List ℕ → List ℕ
without_feed [] = []
without_feed (b ∷ bytes) = if is_feed b then [] else b ∷ without_feed bytes

-- ---- what lines say

-- a space, a tab or a carriage return
abbrev pub is_space : ℕ → Bool
is_space b = b == 32 || b == 9 || b == 13

-- at most 4,096 of these alone
abbrev pub is_blank : List ℕ → Bool
is_blank line = nat_le (length line) 4096 && list_all is_space line

-- a line that ends with the file's byte of this number, counted from 1, is skipped: it is blank and doesn't hold byte 1,048,577
abbrev pub is_skipped : ℕ → List ℕ → Bool
is_skipped end line = nat_le end 1048576 && is_blank line

-- what a line says that isn't skipped. One that holds byte 1,048,577 is refused, whatever stands in it
abbrev pub reading_to : ℕ → List ℕ → Reading
reading_to end line = if nat_lt 1048576 end then Refuses A4 else line_reading line

-- what a line says, and then the rest
abbrev pub reading_then : ℕ → Reading → ActList → ActList
reading_then number (Says act) rest = act_then act rest
reading_then number (Refuses code) rest = refused_at number code

abbrev pub line_then : (number end : ℕ) → List ℕ → ActList → ActList
line_then number end line rest = if is_skipped end line then rest else reading_then number (reading_to end line) rest

-- the acts of lines, of which the first has this number and these many bytes of the file before it. Behind line 16,777,216 there are none
abbrev pub acts_from : (number offset : ℕ) → List (List ℕ) → ActList
acts_from number offset [] = no_acts
acts_from number offset (line ∷ lines) =
    if nat_lt 16777216 number then no_acts
    else line_then number (offset + length line) (without_feed line) (acts_from (number + 1) (offset + length line) lines)

-- the acts of a file
abbrev pub acts_of_file : List ℕ → ActList
acts_of_file file = acts_from 1 0 (lines_of file)

-- ---- what is answered from a list

-- the next act, the end, or the refusal of the next line
abbrev pub ListAnswers : ActList → Answer → ActList → Type 0
ListAnswers before (Gives act) after = before ≡ act_then act after
ListAnswers before Ended after = (before ≡ no_acts) × (after ≡ before)
ListAnswers before (Refused line code) after = (before ≡ refused_at line code) × (after ≡ before)
ListAnswers before Missing after = ⊥

-- one act after another is answered, from the first list to the second
pub data Given : ActList → List Act → ActList → Type 0 where
  none : {list : ActList} → Given list [] list
  more : {list left rest : ActList} {acts : List Act} {act : Act} → Given list acts left → ListAnswers left (Gives act) rest
      → Given list (acts ++ act ∷ []) rest
