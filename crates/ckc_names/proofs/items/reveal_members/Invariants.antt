use Rattle.std.proofs.Common.{[], ◌∷◌, take}
use Rattle.std.specs.List.{flat_map}
use Rattle.ckc_tree.specs.Items.{member}
use Rattle.ckc_names_rules.specs.Mentions.{Reveal}
use Rattle.ckc_names.specs.Progress.{Passes}
use Rattle.ckc_names.proofs.items.reveal_members.Given as goal

-- the members so far were gone over
abbrev pub invariant-loop-member : goal.invariant-loop-member
invariant-loop-member l = record {
  so_far : Passes (flat_map (λ x. Reveal (member x).name ∷ []) (take l.member-index l.members)) l.initial.resolver l.resolver;
}
