-- The blocks of trusted memory behind a run.
use Rattle.std.specs.Prelude.{ℕ, ◌+◌, List, map, take, drop}
use Rattle.flat_bytes.specs.Blocks.{Block}
use Rattle.act_words.specs.Shown.{Shown}
use Rattle.code_words.specs.Table.{State}

-- each block in the order in which it was made: its address, and its bytes
abbrev pub blocks_held : State → List Shown
blocks_held t = map (λ (b : Block). record { address = t.memory.base + b.offset; bytes = take b.bytes (drop b.offset t.memory.bytes) }) t.blocks
