use Rattle.std.proofs.Common.{◌∙◌}
use Rattle.ckc_tree.specs.Statements.{assignment}
use Rattle.built_forms.specs.Built as built
use Rattle.built_forms.proofs.Rows.{block_built, seen}
use Rattle.built_forms.proofs.statements.+statements.Goals as goal

pub built_statement-returns-in-Block : goal.built_statement-returns-in-Block
built_statement-returns-in-Block t c =
    c.built_block.ensures ∙ block_built c.args.written.now c.in-Block.mark c.in-Block.statements c.in-Block.span c.as_slice.result.now c.in-Block.is c.as_slice.ensures.value

pub built_statement-returns-in-Bundle : goal.built_statement-returns-in-Bundle
built_statement-returns-in-Bundle t c =
    rw c.in-Bundle.is
    (seen built.built_assignment assignment c.as_slice-in-Bundle.result.now c.in-Bundle.assignments.items c.built_assignments.result c.built_assignments.ensures c.as_slice-in-Bundle.ensures.value)
