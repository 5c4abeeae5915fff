use Rattle.std.proofs.Common.{◌≡◌, drop}
use Rattle.code_words.specs.Runs.{counter_behind}
use Rattle.two_memory_machine_memory.proofs.memory.counter_of.Given as goal

-- the blocks that are left complete the way
abbrev pub invariant-loop-block : goal.invariant-loop-block
invariant-loop-block l = counter_behind l.offset (drop l.block-index l.blocks) ≡ counter_behind 16 l.blocks
