use Rattle.std.proofs.Common.{map, sym, ap}
use Rattle.ckc_core.specs.Core.{Print, statement}
use Rattle.region_typing_rules.specs.Verdicts.{Passes}
use Rattle.region_typing_rules.specs.Operands.{GivesNothing}
use Rattle.region_typing_expressions.specs.Calls.{argument}
use Rattle.region_typing_scope.proofs.Going.{goes_on, refused}
use Rattle.region_typing_expressions.proofs.Continuing.{writes_parts}
use Rattle.region_typing_expressions.proofs.calls.prints.Goals as goal

pub returns-in_err-value : goal.returns-in_err-value
returns-in_err-value c = rw (writes_parts Print (map argument c.args.arguments.items) c.args.span) (refused _ c.from_residual.result c.from_residual.ensures.1 c.in_err-value.ensures)

pub returns : goal.returns
returns c = rw (writes_parts Print (map argument c.args.arguments.items) c.args.span) (goes_on _ c.in_ok-value.ensures (record { so = ap (λ s. Passes (GivesNothing (statement s))) (sym c.in_ok-call.ensures) }))
