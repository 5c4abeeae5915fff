use Rattle.std.proofs.Common.{◌≡◌, [], length, drop, refl, sym, ap, ◌∙◌, arith}
use Rattle.std.proofs.lemmas.List.{drop_all}
use Rattle.code_words.specs.Runs.{counter_behind}
use Rattle.two_memory_machine_memory.proofs.Statics.{next_within}
use Rattle.sandbox_actor_code.proofs.start.lie_in_memory.Goals as goal

-- the block at hand alone is too large
pub returns-then-bytes-from : goal.returns-then-bytes-from
returns-then-bytes-from c =
    let at = c.loop-block.invariant in
    let within = next_within c.args.blocks.now c.loop-block.end c.loop-block.block-index c.block-item.result c.loop-block-test.true c.block-item.is in
    (λ no. absurd (cc), λ low. absurd (omega (arith, within, low, at.all, ap length c.as_slice.ensures, c.if-bytes-from.true)))

-- the blocks end past the memory with the one at hand
pub returns-then-end-from : goal.returns-then-end-from
returns-then-end-from c =
    let at = c.loop-block.invariant in
    let within = next_within c.args.blocks.now c.loop-block.end c.loop-block.block-index c.block-item.result c.loop-block-test.true c.block-item.is in
    (λ no. absurd (cc), λ low. absurd (omega (arith, within, low, at.all, ap length c.as_slice.ensures)))

pub returns : goal.returns
returns c =
    let at = c.loop-block.invariant in
    let none : drop c.loop-block.block-index c.args.blocks.now ≡ [] = drop_all c.loop-block.block-index c.args.blocks.now (omega (arith, c.loop-block-test.false)) in
    (λ yes. omega (arith, at.low, sym at.all ∙ ap (counter_behind c.loop-block.end) none), λ low. refl)
