-- For private clauses: how the code goes over a text.
use Rattle.std.specs.Prelude.{◌≡◌, ◌≤◌, ◌<◌, ◌-◌, ◌+◌, ℕ, List, ◌∷◌, length, take, drop, Result, Ok, Err}
use Rattle.act_words.specs.declared.act as code
use Rattle.act_words.specs.Acts.{act_view}
use Rattle.act_words.specs.Readings.{Reading, Says, Refuses}
use Rattle.sandbox_actor.specs.declared.actor.ActorFault.{ActorFault}
use Rattle.sandbox_actor.specs.declared.actor.ActorFault.TheVariants as faults
use Rattle.sandbox_actor.specs.declared.lines.Line.{Line}
use Rattle.sandbox_actor.specs.ActLists.{ActList, lines_of, without_feed, acts_from, reading_to, reading_then}

-- the first line has these many bytes without its line feed, and these many with it
pub record IsFirst (text : List ℕ) (count size : ℕ) : Type 0 where
  pub lines : lines_of text ≡ take size text ∷ lines_of (drop size text)
  pub bytes : without_feed (take size text) ≡ take count text
  pub shorter : count ≤ size
  pub some : 0 < size
  pub within : size ≤ length text

-- the acts from a byte of a text on, where a line of this number begins
abbrev pub acts_at : List ℕ → (number at : ℕ) → ActList
acts_at text number at = acts_from number at (lines_of (drop at text))

-- the bytes of a line, without its line feed
abbrev pub bytes_of : List ℕ → Line → List ℕ
bytes_of text line = take (line.to - line.from) (drop line.from text)

-- the line is the first that isn't skipped, of those from a place on
pub record IsNext (text : List ℕ) (number at : ℕ) (line : Line) : Type 0 where
  pub acts : acts_at text number at ≡ reading_then line.number (reading_to line.end (bytes_of text line)) (acts_at text (line.number + 1) line.end)
  pub counted : line.number ≤ 16777216
  pub ordered : line.from ≤ line.to
  pub ended : line.to ≤ line.end
  pub within : line.end ≤ length text

-- the answer is what the line of this number says; want of memory says nothing of it
abbrev pub LineAnswers : ℕ → Reading → Result code.Act.Act ActorFault → Type 0
LineAnswers number reading (Ok act) = reading ≡ Says (act_view act)
LineAnswers number reading (Err faults.Ended) = ⊥
LineAnswers number reading (Err (faults.Line line code)) = (line ≡ number) × (reading ≡ Refuses code)
LineAnswers number reading (Err faults.Missing) = ⊥
LineAnswers number reading (Err faults.Failed) = ⊥
LineAnswers number reading (Err faults.NoMemory) = Unit {0}
