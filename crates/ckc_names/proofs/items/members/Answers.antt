use Rattle.std.proofs.Common.{[], ◌∷◌, ◌++◌, map, ap, ◌∙◌}
use Rattle.std.specs.List.{flat_map}
use Rattle.ckc_tree.specs.Items.{member}
use Rattle.ckc_names_rules.specs.Mentions.{Reveal, member_mentions}
use Rattle.ckc_names.proofs.Going.{on, flat_shown, each_shown}
use Rattle.ckc_names.proofs.items.members.Goals as goal

pub returns : goal.returns
returns c =
    on (ap (λ ms. ms ++ flat_map member_mentions (map member c.args.members.now)) (each_shown (λ m. Reveal m.name) member c.args.members.now) ∙ ap (λ ms. flat_map (λ x. Reveal (member x).name ∷ []) c.args.members.now ++ ms) (flat_shown member_mentions member c.args.members.now)) c.reveal_members.ensures c.declare_members.ensures
