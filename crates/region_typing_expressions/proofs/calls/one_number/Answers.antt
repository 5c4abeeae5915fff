use Rattle.region_typing_scope.proofs.Going.{goes_on, refused}
use Rattle.region_typing_expressions.proofs.calls.one_number.Goals as goal

pub returns-in_err-argument : goal.returns-in_err-argument
returns-in_err-argument c = refused _ c.from_residual.result c.from_residual.ensures.1 c.in_err-argument.ensures

pub returns : goal.returns
returns c = goes_on _ c.in_ok-argument.ensures c.converted.ensures
