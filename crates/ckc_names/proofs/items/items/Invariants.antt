use Rattle.std.proofs.Common.{take}
use Rattle.std.specs.List.{flat_map}
use Rattle.ckc_tree.specs.Items.{item}
use Rattle.ckc_names_rules.specs.Mentions.{item_mentions}
use Rattle.ckc_names.specs.Progress.{Passes}
use Rattle.ckc_names.proofs.items.items.Given as goal

-- the items so far were gone over
abbrev pub invariant-loop-listed : goal.invariant-loop-listed
invariant-loop-listed l = record {
  so_far : Passes (flat_map (λ x. item_mentions (item x)) (take l.listed-index l.written)) l.initial.resolver l.resolver;
}
