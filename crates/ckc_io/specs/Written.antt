-- A list of bytes that grows at its end.
use Rattle.std.specs.Prelude.{ℕ, List, [], ◌++◌, take, Option, Some, None, Result, Ok, Err}
use Rattle.ckc_io.specs.declared.sink.SinkFault.{SinkFault}

-- what is told, with more bytes at its end; what isn't told stays untold
abbrev pub grown : Option (List ℕ) → List ℕ → Option (List ℕ)
grown None more = None
grown (Some old) more = Some (old ++ more)

-- the bytes of a piece that an answer says were taken
abbrev pub taken_by : Result ℕ SinkFault → List ℕ → List ℕ
taken_by (Ok count) piece = take count piece
taken_by (Err e) piece = []
