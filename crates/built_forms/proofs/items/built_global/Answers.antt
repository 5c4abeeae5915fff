use Rattle.std.proofs.Common.{ap, not, sym, ◌∙◌}
use Rattle.ckc_tree.specs.Statements.{declarator}
use Rattle.built_forms.specs.Built as built
use Rattle.built_forms.proofs.Rows.{seen, behind}
use Rattle.built_forms.proofs.items.built_global.Goals as goal

pub returns : goal.returns
returns c =
    behind _ _ _ (ap not c.if-written.false)
    (behind _ _ _ (sym c.built_type.ensures ∙ c.if-not-built_type.false)
    (seen built.built_declarator declarator c.as_slice.result.now c.args.written.now.declarators.items c.built_declarators.result c.built_declarators.ensures c.as_slice.ensures.value))
