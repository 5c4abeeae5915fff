use Rattle.std.proofs.Common.{ap, sym}
use Rattle.region_typing_rules.specs.Verdicts.{Passes}
use Rattle.region_typing_scope.proofs.Going.{goes_on, refused}
use Rattle.region_typing_statements.proofs.simple_statements.call_alone.Goals as goal

pub returns-in_err-call : goal.returns-in_err-call
returns-in_err-call c = refused _ c.from_residual.result c.from_residual.ensures.1 c.in_err-call.ensures

pub returns : goal.returns
returns c = goes_on _ c.in_ok-call.ensures (record { so = ap Passes (sym c.in_ok-alone.ensures) })
