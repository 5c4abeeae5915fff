use Rattle.std.proofs.Common.{refl}
use Rattle.ckc_names.proofs.Going.{on}
use Rattle.ckc_names.proofs.statements.head.Goals as goal

pub returns : goal.returns
returns c =
    on refl c.for_initial.ensures (on refl c.optional_expression.ensures c.optional_assignment.ensures)
