use Rattle.std.proofs.Common.{◌++◌, ap, sym, ◌∙◌}
use Rattle.std.specs.List.{flat_map}
use Rattle.ckc_tree.specs.Types.{type_tree}
use Rattle.ckc_tree.specs.Statements.{declarator}
use Rattle.ckc_names_rules.specs.Mentions.{type_mentions, declarator_mentions}
use Rattle.ckc_names.proofs.Going.{on, flat_shown}
use Rattle.ckc_names.proofs.items.item.Goals as goal

pub returns-in-Global : goal.returns-in-Global
returns-in-Global c =
    let g = c.in-Global.global in
    on (rw c.in-Global.is (ap (λ ms. type_mentions (type_tree g.base) ++ ms) (flat_shown declarator_mentions declarator g.declarators.items ∙ ap (flat_map (λ x. declarator_mentions (declarator x))) (sym c.as_slice.ensures.value)))) c.type_form.ensures c.declarators.ensures
