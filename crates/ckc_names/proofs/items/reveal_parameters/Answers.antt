use Rattle.std.proofs.Common.{[], ◌∷◌, arith}
use Rattle.ckc_tree.specs.Items.{parameter}
use Rattle.ckc_names_rules.specs.Mentions.{Reveal}
use Rattle.ckc_names.proofs.Going.{part_more}
use Rattle.ckc_names.proofs.items.reveal_parameters.Goals as goal

pub loop-parameter-preserved : goal.loop-parameter-preserved
loop-parameter-preserved c = record {
  so_far = part_more (λ x. Reveal (parameter x).name ∷ []) c.args.parameters.now c.loop-parameter.parameter-index c.parameter-item.result (omega (arith, c.loop-parameter-test.true)) c.parameter-item.is c.loop-parameter.invariant.so_far c.reveal.ensures;
}
