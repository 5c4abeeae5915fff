use Rattle.ckc_text.specs.Places.{place_at}
use Rattle.region_typing_rules.specs.Operands.{site_at, summed}
use Rattle.region_typing_scope.specs.OnHeap.{typed}
use Rattle.region_typing_scope.specs.Views.{scope}
use Rattle.region_typing_scope.proofs.Going.{goes_on, refused}
use Rattle.region_typing_expressions.proofs.Comparing.{without_then}
use Rattle.region_typing_expressions.proofs.operators.sum.Goals as goal

pub returns-in_err-without_ptr : goal.returns-in_err-without_ptr
returns-in_err-without_ptr c =
    let broken = rw (c.deref.ensures, c.deref-2.ensures) at c.in_err-without_ptr.ensures in
    rw (without_then (typed c.args.left) (typed c.args.right) c.args.span (summed (scope c.args.scope.now) c.args.direction (typed c.args.left) (typed c.args.right) (site_at (place_at c.args.context.now) c.args.span) c.args.span))
    (refused _ c.from_residual.result c.from_residual.ensures.1 broken)

pub returns : goal.returns
returns c =
    let kept = rw (c.deref.ensures, c.deref-2.ensures) at c.in_ok-without_ptr.ensures in
    rw (without_then (typed c.args.left) (typed c.args.right) c.args.span (summed (scope c.args.scope.now) c.args.direction (typed c.args.left) (typed c.args.right) (site_at (place_at c.args.context.now) c.args.span) c.args.span))
    (goes_on _ kept c.summed.ensures)
