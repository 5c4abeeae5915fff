use Rattle.std.proofs.Common.{◌≡◌, ◌++◌, drop}
use Rattle.code_words.specs.Runs.{counter_behind}
use Rattle.two_memory_machine_memory.specs.Places.{offsets_from}
use Rattle.two_memory_machine_memory.proofs.memory.offsets_with.Given as goal

-- the offsets of the blocks that are left complete the list
abbrev pub invariant-loop-block : goal.invariant-loop-block
invariant-loop-block l = record {
  all : l.offsets.items ++ offsets_from l.offset (drop l.block-index l.blocks) ≡ offsets_from l.first l.blocks;
  counter : counter_behind l.offset (drop l.block-index l.blocks) ≡ counter_behind l.first l.blocks;
}
