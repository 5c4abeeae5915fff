-- A text in memory.
use Rattle.std.specs.Prelude.{◌≡◌, ℕ, ◌-◌, ◌<◌, min, List, length, Result, Ok, Err}
use Rattle.ckc_io.specs.Calls.{CallState, raised}
use Rattle.ckc_io.specs.declared.sink.SinkFault.{SinkFault}

-- a text that is written in memory
pub record SinkState : Type 0 where
  pub written : List ℕ
  -- how many bytes there is room for
  pub room : ℕ
  -- how many bytes it takes at a time
  pub most : ℕ
  pub calls : CallState
  pub faults : ℕ

-- how many bytes it takes of a piece
abbrev pub share_of : SinkState → List ℕ → ℕ
share_of sink piece = min (length piece) (min sink.most (sink.room - length sink.written))

-- it takes no byte of a piece that has some
abbrev pub TakesNone : SinkState → List ℕ → Type 0
TakesNone sink piece = (share_of sink piece ≡ 0) × (0 < length piece)

-- the number of failures after an answer
abbrev pub faults_after : {A : Type 0} → Result A SinkFault → ℕ → ℕ
faults_after (Ok x) faults = faults
faults_after (Err e) faults = raised faults
