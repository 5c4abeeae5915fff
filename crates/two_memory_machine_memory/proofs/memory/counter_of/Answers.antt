use Rattle.std.proofs.Common.{length, ap, arith}
use Rattle.two_memory_machine_memory.proofs.Statics.{next_within}
use Rattle.two_memory_machine_memory.proofs.memory.counter_of.Goals as goal

pub next_offset-offset-requires : goal.next_offset-offset-requires
next_offset-offset-requires c =
    omega (arith, next_within c.args.blocks.now c.loop-block.offset c.loop-block.block-index c.block-item.result c.loop-block-test.true c.block-item.is, ap length c.as_slice.ensures, c.loop-block.invariant)
