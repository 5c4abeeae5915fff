use Rattle.std.proofs.Common.{sym, ◌∙◌}
use Rattle.ckc_tree.specs.Statements.{declarator}
use Rattle.built_forms.specs.Built as built
use Rattle.built_forms.proofs.Rows.{seen, behind}
use Rattle.built_forms.proofs.statements.built_declaration.Goals as goal

pub returns-then-built_type : goal.returns-then-built_type
returns-then-built_type c =
    behind _ _ _ (sym c.built_type.ensures ∙ c.if-built_type.true)
    (seen built.built_declarator declarator c.as_slice.result.now c.args.written.now.declarators.items c.built_declarators.result c.built_declarators.ensures c.as_slice.ensures.value)
