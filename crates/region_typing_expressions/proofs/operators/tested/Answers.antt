use Rattle.std.proofs.Common.{ap, sym}
use Rattle.region_typing_rules.specs.Verdicts.{Passes}
use Rattle.region_typing_scope.proofs.Going.{goes_on, refused}
use Rattle.region_typing_expressions.proofs.operators.tested.Goals as goal

pub returns-in_err-how : goal.returns-in_err-how
returns-in_err-how c =
    let how = rw (c.deref.ensures, c.deref-2.ensures) at c.in_err-how.ensures in
    refused _ c.from_residual.result c.from_residual.ensures.1 how

pub returns-in_err-left : goal.returns-in_err-left
returns-in_err-left c =
    let how = rw (c.deref.ensures, c.deref-2.ensures) at c.in_ok-how.ensures in
    goes_on _ how (refused _ c.from_residual-in_err-left.result c.from_residual-in_err-left.ensures.1 c.in_err-left.ensures)

pub returns-in_err-right : goal.returns-in_err-right
returns-in_err-right c =
    let how = rw (c.deref.ensures, c.deref-2.ensures) at c.in_ok-how.ensures in
    goes_on _ how (goes_on _ c.in_ok-left.ensures (refused _ c.from_residual-in_err-right.result c.from_residual-in_err-right.ensures.1 c.in_err-right.ensures))

pub returns : goal.returns
returns c =
    let how = rw (c.deref.ensures, c.deref-2.ensures) at c.in_ok-how.ensures in
    goes_on _ how (goes_on _ c.in_ok-left.ensures (goes_on _ c.in_ok-right.ensures (record { so = ap Passes (sym c.in_ok-tested_by.ensures) })))
