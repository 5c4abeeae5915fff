use Rattle.std.proofs.Common.{sym, ◌∙◌}
use Rattle.ckc_text.specs.Places.{place_at}
use Rattle.region_typing_rules.specs.Operands.{site_at}
use Rattle.region_typing_scope.specs.OnHeap.{typed}
use Rattle.region_typing_scope.specs.Views.{scope}
use Rattle.region_typing_scope.proofs.Going.{goes_on}
use Rattle.region_typing_expressions.proofs.Comparing.{summed_parts}
use Rattle.region_typing_expressions.proofs.operators.summed.Goals as goal

pub returns-in_ok-left : goal.returns-in_ok-left
returns-in_ok-left c =
    let pointer = rw c.deref.ensures at (sym c.is_pointer_value.ensures ∙ c.if-is_pointer_value.true) in
    rw (summed_parts (scope c.args.scope.now) c.args.direction (typed c.args.left) (typed c.args.right) (site_at (place_at c.args.context.now) c.args.span) c.args.span, pointer)
    (goes_on _ c.in_ok-left.ensures c.moved.ensures)

pub returns-else-is_pointer_value : goal.returns-else-is_pointer_value
returns-else-is_pointer_value c =
    let number = rw c.deref.ensures at (sym c.is_pointer_value.ensures ∙ c.if-is_pointer_value.false) in
    rw (summed_parts (scope c.args.scope.now) c.args.direction (typed c.args.left) (typed c.args.right) (site_at (place_at c.args.context.now) c.args.span) c.args.span, number)
    (rw c.operator_along.ensures at c.operated.ensures)
