-- A text in memory whose room is taken before it is written.
use Rattle.std.specs.Prelude.{ℕ, ◌-◌, max, List, [], ◌++◌, length}

-- a text, and how many bytes more it has room for
pub record SureState : Type 0 where
  pub written : List ℕ
  pub room : ℕ

-- nothing is written, and there is room for nothing
abbrev pub nothing : SureState
nothing = record { written = []; room = 0 }

-- with room for at least as many bytes more
abbrev pub with_room : SureState → ℕ → SureState
with_room sink more = record { written = sink.written; room = max sink.room more }

-- with a piece behind the text
abbrev pub with_piece : SureState → List ℕ → SureState
with_piece sink piece = record { written = sink.written ++ piece; room = sink.room - length piece }
