use Rattle.std.proofs.Common.{◌≡◌, ◌+◌, ◌*◌, drop}
use Rattle.std.specs.Prelude.{max}
use Rattle.ckc_tree.specs.declared.expr.Expr.{size-Expr}
use Rattle.ckc_tree.specs.declared.expr.BoundsText.{size-BoundsText}
use Rattle.ckc_tree.specs.Walks.{expression_list}
use Rattle.region_typing_rules.specs.DeclaredBounds.{all_written}
use Rattle.region_typing_scope.specs.DeclaredViews.{bounded, place}
use Rattle.region_typing_scope.proofs.sums.+sums.Given as goal

-- each call has a part that is less deep, or one as deep and a function that is lower here

abbrev pub decreases-sum_form : goal.decreases-sum_form
decreases-sum_form l = 3 * goal.size-sum_form l

abbrev pub decreases-other_form : goal.decreases-other_form
decreases-other_form l = 3 * goal.size-other_form l + 1

abbrev pub decreases-both_form : goal.decreases-both_form
decreases-both_form l = 3 * max (size-Expr l.first.now) (size-Expr l.second.now) + 2

abbrev pub decreases-binary_form : goal.decreases-binary_form
decreases-binary_form l = 3 * max (size-Expr l.left.now) (size-Expr l.right.now) + 1

abbrev pub decreases-bounded_form : goal.decreases-bounded_form
decreases-bounded_form l = 3 * max (size-Expr l.operand.now) (size-BoundsText l.bounds.now) + 1

abbrev pub decreases-parts_form : goal.decreases-parts_form
decreases-parts_form l = 3 * goal.size-parts_form l

abbrev pub decreases-all_forms : goal.decreases-all_forms
decreases-all_forms l = 3 * goal.size-all_forms l + 1

-- the arguments that are left come to what all of them come to
abbrev pub invariant-all_forms-loop-argument : goal.invariant-all_forms-loop-argument
invariant-all_forms-loop-argument l =
    all_written (place l.place) (bounded l.p) (expression_list l.arguments) ≡ all_written (place l.place) (bounded l.p) (expression_list (drop l.argument-index l.arguments))
