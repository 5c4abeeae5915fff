use Rattle.region_typing_statements.proofs.Walking.{goes_on, refused}
use Rattle.region_typing_statements.proofs.declarations.plain_local.Goals as goal

pub returns-in_err-t : goal.returns-in_err-t
returns-in_err-t c =
    let broken = rw c.in_ok-given.ensures at c.in_err-t.ensures in
    refused _ c.from_residual-in_err-t.result c.from_residual-in_err-t.ensures.1 broken

pub returns : goal.returns
returns c =
    let passes = rw c.in_ok-given.ensures at c.in_ok-t.ensures in
    goes_on _ passes c.declared.ensures
