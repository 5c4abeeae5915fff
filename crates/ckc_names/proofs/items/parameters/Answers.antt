use Rattle.std.proofs.Common.{[], ◌∷◌, ◌++◌, map, ap, ◌∙◌}
use Rattle.std.specs.List.{flat_map}
use Rattle.ckc_tree.specs.Items.{parameter}
use Rattle.ckc_names_rules.specs.Mentions.{Reveal, member_mentions}
use Rattle.ckc_names.proofs.Going.{on, flat_shown, each_shown}
use Rattle.ckc_names.proofs.items.parameters.Goals as goal

pub returns : goal.returns
returns c =
    on (ap (λ ms. ms ++ flat_map member_mentions (map parameter c.args.written.now)) (each_shown (λ m. Reveal m.name) parameter c.args.written.now) ∙ ap (λ ms. flat_map (λ x. Reveal (parameter x).name ∷ []) c.args.written.now ++ ms) (flat_shown member_mentions parameter c.args.written.now)) c.reveal_parameters.ensures c.declare_parameters.ensures
