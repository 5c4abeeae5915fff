use Rattle.std.proofs.Common.{sym, ap}
use Rattle.pointer_modes.specs.Types.{ctype}
use Rattle.ckc_core.specs.Core as core
use Rattle.region_typing_rules.specs.Verdicts.{Passes}
use Rattle.region_typing_scope.specs.OnHeap.{typed}
use Rattle.region_typing_scope.proofs.Going.{goes_on, refused}
use Rattle.region_typing_scope.proofs.Entailing.{fits_then}
use Rattle.region_typing_statements.proofs.simple_statements.return_value.Goals as goal

pub returns-in_err-given : goal.returns-in_err-given
returns-in_err-given c = refused _ c.from_residual.result c.from_residual.ensures.1 c.in_err-given.ensures

pub returns-in_err-value : goal.returns-in_err-value
returns-in_err-value c =
    let g = c.args.scope.now in
    goes_on _ c.in_ok-given.ensures (rw (fits_then g.flow g.result_bounds (typed c.in_ok-given.given) (ctype c.args.t.now) c.args.span (λ v. Passes (core.Return v)))
    (refused _ c.from_residual-in_err-value.result c.from_residual-in_err-value.ensures.1 c.in_err-value.ensures))

pub returns : goal.returns
returns c =
    let g = c.args.scope.now in
    goes_on _ c.in_ok-given.ensures (rw (fits_then g.flow g.result_bounds (typed c.in_ok-given.given) (ctype c.args.t.now) c.args.span (λ v. Passes (core.Return v)))
    (goes_on _ c.in_ok-value.ensures (record { so = ap (λ s. Passes (core.statement s)) (sym c.in_ok-boxed.ensures) })))
