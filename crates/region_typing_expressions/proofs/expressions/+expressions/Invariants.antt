use Rattle.std.proofs.Common.{◌≡◌, ◌+◌, ◌*◌, map, drop}
use Rattle.std.specs.Prelude.{max}
use Rattle.ckc_tree.specs.declared.expr.Expr.{size-Expr}
use Rattle.ckc_text.specs.Places.{place_at}
use Rattle.region_typing_rules.specs.Expressions.{all_typed}
use Rattle.region_typing_scope.specs.Points.{point}
use Rattle.region_typing_expressions.specs.Calls.{argument}
use Rattle.region_typing_expressions.specs.Slices.{expression_list}
use Rattle.region_typing_expressions.proofs.Arguments.{behind}
use Rattle.region_typing_expressions.proofs.expressions.+expressions.Given as goal

-- each call has a part that is less deep, or one as deep and a function that is lower here
abbrev pub decreases-typed_at : goal.decreases-typed_at
decreases-typed_at l = 4 * goal.size-typed_at l

abbrev pub decreases-right_typed : goal.decreases-right_typed
decreases-right_typed l = 4 * goal.size-right_typed l + 1

abbrev pub decreases-cast_value : goal.decreases-cast_value
decreases-cast_value l = 4 * goal.size-cast_value l + 1

abbrev pub decreases-bounded_cast : goal.decreases-bounded_cast
decreases-bounded_cast l = 4 * goal.size-bounded_cast l + 1

abbrev pub decreases-malloc_of : goal.decreases-malloc_of
decreases-malloc_of l = 4 * goal.size-malloc_of l + 1

abbrev pub decreases-dotted_by : goal.decreases-dotted_by
decreases-dotted_by l = 4 * goal.size-dotted_by l + 1

abbrev pub decreases-member_of : goal.decreases-member_of
decreases-member_of l = 4 * goal.size-member_of l + 2

abbrev pub decreases-arrowed_by : goal.decreases-arrowed_by
decreases-arrowed_by l = 4 * goal.size-arrowed_by l + 1

abbrev pub decreases-member_through : goal.decreases-member_through
decreases-member_through l = 4 * goal.size-member_through l + 2

abbrev pub decreases-operated_by : goal.decreases-operated_by
decreases-operated_by l = 4 * goal.size-operated_by l + 1

abbrev pub decreases-unary_of : goal.decreases-unary_of
decreases-unary_of l = 4 * goal.size-unary_of l + 2

abbrev pub decreases-all_typed : goal.decreases-all_typed
decreases-all_typed l = 4 * goal.size-all_typed l + 1

abbrev pub decreases-called : goal.decreases-called
decreases-called l = 4 * goal.size-called l + 2

abbrev pub decreases-call_value : goal.decreases-call_value
decreases-call_value l = 4 * goal.size-call_value l + 3

abbrev pub decreases-element_value : goal.decreases-element_value
decreases-element_value l = 4 * max (size-Expr l.base.now) (size-Expr l.index.now) + 1

abbrev pub decreases-binary_of : goal.decreases-binary_of
decreases-binary_of l = 4 * max (size-Expr l.left.now) (size-Expr l.right.now) + 2

abbrev pub decreases-calloc_of : goal.decreases-calloc_of
decreases-calloc_of l = 4 * max (size-Expr l.count.now) (size-Expr l.size.now) + 1

-- the arguments so far with what those are that are left make all of them
abbrev pub invariant-all_typed-loop-written : goal.invariant-all_typed-loop-written
invariant-all_typed-loop-written l = record {
  so_far : all_typed (place_at l.context) (point l.point) (expression_list l.arguments) ≡ behind (map argument l.built.items) (all_typed (place_at l.context) (point l.point) (expression_list (drop l.written-index l.arguments)));
}
