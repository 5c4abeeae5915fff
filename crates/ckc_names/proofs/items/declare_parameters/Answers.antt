use Rattle.std.proofs.Common.{arith}
use Rattle.ckc_tree.specs.Items.{parameter}
use Rattle.ckc_names_rules.specs.Mentions.{member_mentions}
use Rattle.ckc_names.proofs.Going.{part_more}
use Rattle.ckc_names.proofs.items.declare_parameters.Goals as goal

pub loop-parameter-preserved : goal.loop-parameter-preserved
loop-parameter-preserved c = record {
  so_far = part_more (λ x. member_mentions (parameter x)) c.args.parameters.now c.loop-parameter.parameter-index c.parameter-item.result (omega (arith, c.loop-parameter-test.true)) c.parameter-item.is c.loop-parameter.invariant.so_far c.listed.ensures;
}
