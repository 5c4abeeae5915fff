use Rattle.std.proofs.Common.{take}
use Rattle.std.specs.List.{flat_map}
use Rattle.ckc_tree.specs.Items.{parameter}
use Rattle.ckc_names_rules.specs.Mentions.{member_mentions}
use Rattle.ckc_names.specs.Progress.{Passes}
use Rattle.ckc_names.proofs.items.declare_parameters.Given as goal

-- the parameters so far were gone over
abbrev pub invariant-loop-parameter : goal.invariant-loop-parameter
invariant-loop-parameter l = record {
  so_far : Passes (flat_map (λ x. member_mentions (parameter x)) (take l.parameter-index l.parameters)) l.initial.resolver l.resolver;
}
