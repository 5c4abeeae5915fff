-- Blocks in a memory, and where the static ones stand.
use Rattle.std.specs.Prelude.{ℕ, List, [], ◌∷◌, length}
use Rattle.flat_bytes.specs.Blocks.{Block, grown}
use Rattle.two_memory_machine_memory.specs.declared.blocks.BlockRow.{BlockRow}

-- where blocks stand, of which the first stands at an offset
abbrev pub offsets_from : ℕ → List (List ℕ) → List ℕ
offsets_from offset [] = []
offsets_from offset (block ∷ blocks) = offset ∷ offsets_from (grown offset (length block)) blocks

abbrev pub block_row : BlockRow → Block
block_row row = record { offset = row.offset; bytes = row.bytes }
