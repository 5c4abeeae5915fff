use Rattle.std.proofs.Common.{ap, ◌∙◌, sym}
use Rattle.ckc_tree.specs.Items.{parameter, parameters}
use Rattle.built_forms.specs.Built as built
use Rattle.built_forms.proofs.Rows.{seen}
use Rattle.built_forms.proofs.items.built_parameters.Goals as goal

pub returns-in-Listed : goal.returns-in-Listed
returns-in-Listed c =
    seen built.built_parameter parameter c.as_slice.result.now c.in-Listed.parameters.items c.all_built.result c.all_built.ensures c.as_slice.ensures.value
    ∙ ap (λ p. built.built_parameters built.built_parameter (parameters p)) (sym c.in-Listed.is)
