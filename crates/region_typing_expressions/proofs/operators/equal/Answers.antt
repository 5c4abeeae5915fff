use Rattle.region_typing_scope.specs.OnHeap.{typed}
use Rattle.region_typing_scope.proofs.Going.{goes_on, refused}
use Rattle.region_typing_expressions.proofs.Comparing.{equated_parts}
use Rattle.region_typing_expressions.proofs.operators.equal.Goals as goal

pub returns-in_err-value : goal.returns-in_err-value
returns-in_err-value c = rw (equated_parts (typed c.args.left) (typed c.args.right) c.args.span) (refused _ c.from_residual.result c.from_residual.ensures.1 c.in_err-value.ensures)

pub returns : goal.returns
returns c = rw (equated_parts (typed c.args.left) (typed c.args.right) c.args.span) (goes_on _ c.in_ok-value.ensures c.numeric.ensures)
