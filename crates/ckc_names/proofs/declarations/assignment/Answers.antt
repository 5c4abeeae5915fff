use Rattle.std.proofs.Common.{refl}
use Rattle.ckc_names.proofs.Going.{on}
use Rattle.ckc_names.proofs.declarations.assignment.Goals as goal

pub returns-in-Store : goal.returns-in-Store
returns-in-Store c =
    on (rw (c.in-Store.is, c.deref.ensures, c.deref-in-Store.ensures) refl) c.expression.ensures c.expression-in-Store.ensures
