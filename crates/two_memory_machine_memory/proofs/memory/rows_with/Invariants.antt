use Rattle.std.proofs.Common.{◌≡◌, ◌++◌, ◌+◌, ◌*◌, ◌/◌, ◌≤◌, drop, take, length, map}
use Rattle.flat_bytes.specs.Blocks.{blocks_of, blocks_from}
use Rattle.code_words.specs.Runs.{counter_behind}
use Rattle.std.specs.Prelude.{All}
use Rattle.two_memory_machine_memory.specs.declared.blocks.BlockRow.{BlockRow}
use Rattle.two_memory_machine_memory.specs.Places.{block_row}
use Rattle.two_memory_machine_memory.proofs.memory.rows_with.Given as goal

-- the blocks that are left complete the list, which has room for each
abbrev pub invariant-loop-i : goal.invariant-loop-i
invariant-loop-i l = record {
  all : map block_row (take l.i l.rows.items) ++ blocks_from l.size l.offset (map length (drop l.i l.blocks)) ≡ blocks_of l.size (map length l.blocks);
  counter : counter_behind l.offset (drop l.i l.blocks) ≡ counter_behind 16 l.blocks;
  len : length l.rows.items ≡ l.size / 32;
  low : All (λ (r : BlockRow). r.offset ≤ l.size) l.rows.items;
  room : 16 + 32 * l.i ≤ l.offset;
}
