use Rattle.std.proofs.Common.{take}
use Rattle.std.specs.List.{flat_map}
use Rattle.ckc_tree.specs.Items.{member}
use Rattle.ckc_names_rules.specs.Mentions.{member_mentions}
use Rattle.ckc_names.specs.Progress.{Passes}
use Rattle.ckc_names.proofs.items.declare_members.Given as goal

-- the members so far were gone over
abbrev pub invariant-loop-member : goal.invariant-loop-member
invariant-loop-member l = record {
  so_far : Passes (flat_map (λ x. member_mentions (member x)) (take l.member-index l.members)) l.initial.resolver l.resolver;
}
