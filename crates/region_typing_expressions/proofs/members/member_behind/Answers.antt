use Rattle.region_typing_scope.proofs.Going.{refused}
use Rattle.region_typing_expressions.proofs.members.member_behind.Goals as goal

pub returns-in_err-t-in-Array : goal.returns-in_err-t-in-Array
returns-in_err-t-in-Array c mode =
    let broken = rw c.in_ok-base-in-Array.ensures at c.in_err-t-in-Array.ensures in
    rw c.in-Array.is (refused _ c.from_residual-in_err-t-in-Array.result c.from_residual-in_err-t-in-Array.ensures.1 broken)
