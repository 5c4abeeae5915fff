use Rattle.std.proofs.Common.{◌++◌, ap, ◌∙◌, sym}
use Rattle.std.specs.List.{flat_map}
use Rattle.ckc_tree.specs.Types.{type_tree}
use Rattle.ckc_tree.specs.Statements.{declarator}
use Rattle.ckc_names_rules.specs.Mentions.{type_mentions, declarator_mentions}
use Rattle.ckc_names.proofs.Going.{on, flat_shown}
use Rattle.ckc_names.proofs.declarations.declaration.Goals as goal

pub returns : goal.returns
returns c =
    on (ap (λ ms. type_mentions (type_tree c.args.written.now.base) ++ ms) (flat_shown declarator_mentions declarator c.args.written.now.declarators.items ∙ ap (flat_map (λ x. declarator_mentions (declarator x))) (sym c.as_slice.ensures.value))) c.type_form.ensures c.declarators.ensures
