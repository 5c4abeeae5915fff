use Rattle.region_typing_scope.proofs.Going.{goes_on, refused}
use Rattle.region_typing.proofs.checker.core_of_items.Goals as goal

pub returns-in_err-items : goal.returns-in_err-items
returns-in_err-items c = refused _ c.from_residual.result c.from_residual.ensures.1 c.in_err-items.ensures

pub returns : goal.returns
returns c = goes_on _ c.in_ok-items.ensures c.core_of.ensures
