use Rattle.std.proofs.Common.{arith}
use Rattle.ckc_tree.specs.Items.{item}
use Rattle.ckc_names_rules.specs.Mentions.{item_mentions}
use Rattle.ckc_names.proofs.Going.{part_more}
use Rattle.ckc_names.proofs.items.items.Goals as goal

pub loop-listed-preserved : goal.loop-listed-preserved
loop-listed-preserved c = record {
  so_far = part_more (λ x. item_mentions (item x)) c.args.written.now c.loop-listed.listed-index c.listed-item.result (omega (arith, c.loop-listed-test.true)) c.listed-item.is c.loop-listed.invariant.so_far c.item.ensures;
}
