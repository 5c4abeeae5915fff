use Rattle.ckc_text.specs.Places.{place_at}
use Rattle.region_typing_rules.specs.Operands.{arithmetic, site_at}
use Rattle.region_typing_scope.specs.OnHeap.{typed}
use Rattle.region_typing_scope.proofs.Going.{goes_on, refused}
use Rattle.region_typing_expressions.proofs.Continuing.{two_numbers_then}
use Rattle.region_typing_expressions.proofs.operators.operated.Goals as goal

pub returns-in_err-left : goal.returns-in_err-left
returns-in_err-left c =
    rw (two_numbers_then (typed c.args.left) (typed c.args.right) c.args.span (arithmetic c.args.operator (site_at (place_at c.args.context.now) c.args.span)))
    (refused _ c.from_residual.result c.from_residual.ensures.1 c.in_err-left.ensures)

pub returns-in_err-right : goal.returns-in_err-right
returns-in_err-right c =
    rw (two_numbers_then (typed c.args.left) (typed c.args.right) c.args.span (arithmetic c.args.operator (site_at (place_at c.args.context.now) c.args.span)))
    (goes_on _ c.in_ok-left.ensures (refused _ c.from_residual-in_err-right.result c.from_residual-in_err-right.ensures.1 c.in_err-right.ensures))

pub returns : goal.returns
returns c =
    let made = rw c.site.ensures at c.numeric.ensures in
    rw (two_numbers_then (typed c.args.left) (typed c.args.right) c.args.span (arithmetic c.args.operator (site_at (place_at c.args.context.now) c.args.span)))
    (goes_on _ c.in_ok-left.ensures (goes_on _ c.in_ok-right.ensures made))
