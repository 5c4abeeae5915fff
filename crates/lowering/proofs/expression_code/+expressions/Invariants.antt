use Rattle.std.proofs.Common.{◌≡◌, ◌+◌, ◌*◌, ◌++◌, length, drop}
use Rattle.std.specs.Prelude.{max}
use Rattle.check_insertion.specs.declared.erased.Expr.{size-Expr}
use Rattle.check_insertion.specs.declared.erased.Index.{size-Index}
use Rattle.check_insertion.specs.Erased.{arguments_of}
use Rattle.lowering.specs.Code.{arguments_code}
use Rattle.lowering.proofs.expression_code.+expressions.Given as goal

-- each call has a part that is less deep, or one as deep and a function that is lower here

abbrev pub decreases-emit_expression : goal.decreases-emit_expression
decreases-emit_expression l = 4 * goal.size-emit_expression l

abbrev pub decreases-emit_place : goal.decreases-emit_place
decreases-emit_place l = 4 * goal.size-emit_place l

abbrev pub decreases-emit_with : goal.decreases-emit_with
decreases-emit_with l = 4 * goal.size-emit_with l + 1

abbrev pub decreases-emit_two : goal.decreases-emit_two
decreases-emit_two l = 4 * max (size-Expr l.left.now) (size-Expr l.right.now) + 2

abbrev pub decreases-emit_both : goal.decreases-emit_both
decreases-emit_both l = 4 * max (size-Expr l.left.now) (size-Expr l.right.now) + 1

abbrev pub decreases-emit_index : goal.decreases-emit_index
decreases-emit_index l = 4 * goal.size-emit_index l

abbrev pub decreases-emit_target : goal.decreases-emit_target
decreases-emit_target l = 4 * max (size-Expr l.pointer.now) (size-Index l.index.now) + 1

abbrev pub decreases-emit_and : goal.decreases-emit_and
decreases-emit_and l = 4 * max (size-Expr l.left.now) (size-Expr l.right.now) + 1

abbrev pub decreases-emit_or : goal.decreases-emit_or
decreases-emit_or l = 4 * max (size-Expr l.left.now) (size-Expr l.right.now) + 1

abbrev pub decreases-emit_argument : goal.decreases-emit_argument
decreases-emit_argument l = 4 * goal.size-emit_argument l + 1

abbrev pub decreases-emit_arguments : goal.decreases-emit_arguments
decreases-emit_arguments l = 4 * goal.size-emit_arguments l + 2

abbrev pub decreases-emit_call : goal.decreases-emit_call
decreases-emit_call l = 4 * goal.size-emit_call l + 3

-- the code so far and that of the arguments that are left are that of all arguments
abbrev pub invariant-emit_arguments-loop-place : goal.invariant-emit_arguments-loop-place
invariant-emit_arguments-loop-place l =
    l.ops.items ++ arguments_code l.slot (length l.ops.items) (arguments_of (drop l.place l.arguments)) ≡ l.initial.ops.items ++ arguments_code l.slot (length l.initial.ops.items) (arguments_of l.arguments)
