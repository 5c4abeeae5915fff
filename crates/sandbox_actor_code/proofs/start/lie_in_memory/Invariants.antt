use Rattle.std.proofs.Common.{◌≡◌, ◌^◌, ◌<◌, drop}
use Rattle.flat_bytes.specs.Blocks.{first_offset}
use Rattle.code_words.specs.Runs.{counter_behind}
use Rattle.sandbox_actor_code.proofs.start.lie_in_memory.Given as goal

-- the blocks that are left end where all do
abbrev pub invariant-loop-block : goal.invariant-loop-block
invariant-loop-block l = record {
  low : l.end < 2 ^ 32;
  all : counter_behind l.end (drop l.block-index l.blocks) ≡ counter_behind first_offset l.blocks;
}
