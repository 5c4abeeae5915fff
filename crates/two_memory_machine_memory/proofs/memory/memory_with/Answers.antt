use Rattle.std.proofs.lemmas.Grind.{common_steps}
use Rattle.std.proofs.Common.{length, vec_len, ap, arith, rules}
use Rattle.two_memory_machine_memory.proofs.Statics.{next_within}
use Rattle.two_memory_machine_memory.proofs.memory.memory_with.Goals as goal

pub place_block-requires : goal.place_block-requires
place_block-requires c =
    omega (arith, next_within c.args.blocks.now (vec_len c.loop-block.memory) c.loop-block.block-index c.block-item.result c.loop-block-test.true c.block-item.is, ap length c.as_slice.ensures, c.loop-block.invariant.counter)

pub returns-in_err-resize-clause-bytes : goal.returns-in_err-resize-clause-bytes
returns-in_err-resize-clause-bytes c = search rules

pub returns-in_err-place_block-clause-bytes : goal.returns-in_err-place_block-clause-bytes
returns-in_err-place_block-clause-bytes c = search rules

pub returns-in_err-place_block-clause-len : goal.returns-in_err-place_block-clause-len
returns-in_err-place_block-clause-len c = search rules

pub loop-block-smaller : goal.loop-block-smaller
loop-block-smaller c = search rules

pub loop-block-preserved : goal.loop-block-preserved
loop-block-preserved c = grind (arith, common_steps)

pub returns-in_err-resize-2-clause-bytes : goal.returns-in_err-resize-2-clause-bytes
returns-in_err-resize-2-clause-bytes c = search rules

pub returns-in_err-resize-2-clause-len : goal.returns-in_err-resize-2-clause-len
returns-in_err-resize-2-clause-len c = search rules

pub returns-clause-bytes : goal.returns-clause-bytes
returns-clause-bytes c = grind (arith, common_steps)

pub returns-clause-len : goal.returns-clause-len
returns-clause-len c = search rules
