use Rattle.std.proofs.Common.{ap, sym, ◌∙◌}
use Rattle.std.specs.List.{list_all}
use Rattle.std.specs.Option.{option_map}
use Rattle.ckc_tree.specs.Items.{body}
use Rattle.ckc_tree.specs.Statements.{statement}
use Rattle.built_forms.specs.Built as built
use Rattle.built_forms.proofs.Rows.{body_built, behind}
use Rattle.built_forms.proofs.items.built_trusted.Goals as goal

pub returns-in-Some : goal.returns-in-Some
returns-in-Some c =
    behind _ _ _ (sym c.built_result.ensures ∙ c.if-not-built_result.false)
    (behind _ _ _ (sym c.built_parameters.ensures ∙ c.if-not-built_parameters.false)
    (c.built_block.ensures ∙ ap (list_all (λ x. built.built_statement (statement x))) c.as_slice.ensures.value ∙ body_built c.in-Some.body.statements.items ∙ ap (λ b. built.optional built.built_body (option_map body b)) (sym c.in-Some.is)))
