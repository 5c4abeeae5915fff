use Rattle.region_typing_scope.specs.OnHeap.{typed}
use Rattle.region_typing_scope.proofs.Going.{goes_on, refused}
use Rattle.region_typing_expressions.proofs.Comparing.{different_parts}
use Rattle.region_typing_expressions.proofs.operators.different.Goals as goal

pub returns-in_err-equal : goal.returns-in_err-equal
returns-in_err-equal c =
    let tests = rw (c.deref.ensures, c.deref-2.ensures) at c.is_zero_test-tests_zero.ensures in
    let broken = rw tests at c.in_err-equal.ensures in
    rw (different_parts (typed c.args.left) (typed c.args.right) c.args.span) (refused _ c.from_residual.result c.from_residual.ensures.1 broken)

pub returns : goal.returns
returns c =
    let tests = rw (c.deref.ensures, c.deref-2.ensures) at c.is_zero_test-tests_zero.ensures in
    let equal = rw tests at c.in_ok-equal.ensures in
    let made = rw c.in_ok-equal-2.ensures at c.numeric.ensures in
    rw (different_parts (typed c.args.left) (typed c.args.right) c.args.span) (goes_on _ equal made)
