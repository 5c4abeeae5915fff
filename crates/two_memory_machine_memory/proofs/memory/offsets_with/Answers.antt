use Rattle.std.proofs.lemmas.Grind.{elements, common_steps}
use Rattle.std.proofs.Common.{length, ap, arith, rules}
use Rattle.two_memory_machine_memory.proofs.Statics.{next_within}
use Rattle.two_memory_machine_memory.proofs.memory.offsets_with.Goals as goal

pub next_offset-offset-requires : goal.next_offset-offset-requires
next_offset-offset-requires c =
    omega (arith, next_within c.args.blocks.now c.loop-block.offset c.loop-block.block-index c.block-item.result c.loop-block-test.true c.block-item.is, ap length c.as_slice.ensures, c.loop-block.invariant.counter)

pub returns-in_err-push : goal.returns-in_err-push
returns-in_err-push c = grind (arith, elements)

pub loop-block-smaller : goal.loop-block-smaller
loop-block-smaller c = search rules

pub loop-block-preserved : goal.loop-block-preserved
loop-block-preserved c = grind (arith, common_steps)

pub returns : goal.returns
returns c = grind (arith, common_steps)
