use Rattle.std.proofs.Common.{◌≡◌, ◌++◌, drop, replicate, vec_len}
use Rattle.code_words.specs.Runs.{spread, counter_behind}
use Rattle.two_memory_machine_memory.proofs.memory.memory_with.Given as goal

-- the blocks that are left complete the memory
abbrev pub invariant-loop-block : goal.invariant-loop-block
invariant-loop-block l = record {
  bytes : l.memory.items ++ spread (drop l.block-index l.blocks) ≡ replicate 16 0 ++ spread l.blocks;
  counter : counter_behind (vec_len l.memory) (drop l.block-index l.blocks) ≡ counter_behind 16 l.blocks;
}
