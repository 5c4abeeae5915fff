use Rattle.region_typing_scope.proofs.Going.{goes_on, refused}
use Rattle.region_typing.proofs.globals.declared_variables.Goals as goal

pub returns-in_err-vs : goal.returns-in_err-vs
returns-in_err-vs c =
    let broken = rw c.as_slice.ensures.value at c.in_err-vs.ensures in
    refused _ c.from_residual.result c.from_residual.ensures.1 broken

pub returns : goal.returns
returns c =
    let passes = rw c.as_slice.ensures.value at c.in_ok-vs.ensures in
    let built = rw c.as_slice-2.ensures.value at c.objects.ensures in
    goes_on _ passes built
