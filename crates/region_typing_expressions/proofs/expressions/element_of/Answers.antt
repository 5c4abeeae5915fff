use Rattle.region_typing_scope.proofs.Going.{goes_on, refused}
use Rattle.region_typing_expressions.proofs.expressions.element_of.Goals as goal

pub returns-in_err-t : goal.returns-in_err-t
returns-in_err-t c =
    let broken = rw c.site.ensures at c.in_err-t.ensures in
    refused _ c.from_residual.result c.from_residual.ensures.1 broken

pub returns : goal.returns
returns c =
    let element = rw c.site.ensures at c.in_ok-t.ensures in
    goes_on _ element c.with_cell_bounds.ensures
