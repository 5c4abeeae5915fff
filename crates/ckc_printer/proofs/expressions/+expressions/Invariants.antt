use Rattle.std.proofs.Common.{◌+◌, ◌*◌, drop}
use Rattle.std.specs.Prelude.{max}
use Rattle.ckc_tree.specs.declared.expr.Expr.{size-Expr}
use Rattle.ckc_printer.specs.ExpressionPieces.{arguments_pieces}
use Rattle.ckc_printer.specs.Slices.{expressions_of, arguments_from}
use Rattle.ckc_printer.specs.Output.{Leaves}
use Rattle.ckc_printer.specs.Spaced.{spaced_text}
use Rattle.ckc_printer.proofs.expressions.+expressions.Given as goal

-- each call has a part that is less deep, or one as deep and a function that is lower here

abbrev pub decreases-put_with_type : goal.decreases-put_with_type
decreases-put_with_type l = 4 * goal.size-put_with_type l

abbrev pub decreases-put_expr : goal.decreases-put_expr
decreases-put_expr l = 4 * goal.size-put_expr l + 1

abbrev pub decreases-put_bounds : goal.decreases-put_bounds
decreases-put_bounds l = 4 * goal.size-put_bounds l

abbrev pub decreases-put_operand : goal.decreases-put_operand
decreases-put_operand l = 4 * goal.size-put_operand l + 2

abbrev pub decreases-put_closed : goal.decreases-put_closed
decreases-put_closed l = 4 * goal.size-put_closed l + 2

abbrev pub decreases-put_limits : goal.decreases-put_limits
decreases-put_limits l = 4 * goal.size-put_limits l + 2

abbrev pub decreases-put_arguments : goal.decreases-put_arguments
decreases-put_arguments l = 4 * goal.size-put_arguments l + 2

abbrev pub decreases-put_call : goal.decreases-put_call
decreases-put_call l = 4 * goal.size-put_call l + 3

abbrev pub decreases-put_malloc : goal.decreases-put_malloc
decreases-put_malloc l = 4 * goal.size-put_malloc l + 3

abbrev pub decreases-put_member : goal.decreases-put_member
decreases-put_member l = 4 * goal.size-put_member l + 3

abbrev pub decreases-put_unary : goal.decreases-put_unary
decreases-put_unary l = 4 * goal.size-put_unary l + 3

abbrev pub decreases-put_calloc : goal.decreases-put_calloc
decreases-put_calloc l = 4 * max (size-Expr l.count.now) (size-Expr l.size.now) + 3

abbrev pub decreases-put_index : goal.decreases-put_index
decreases-put_index l = 4 * max (size-Expr l.base.now) (size-Expr l.index.now) + 3

abbrev pub decreases-put_binary : goal.decreases-put_binary
decreases-put_binary l = 4 * max (size-Expr l.left.now) (size-Expr l.right.now) + 3

-- the text so far and that of the arguments that are left are that of all
abbrev pub invariant-put_arguments-loop-place : goal.invariant-put_arguments-loop-place
invariant-put_arguments-loop-place l = Leaves l.initial.out l.out (spaced_text (arguments_from l.place (expressions_of (drop l.place l.arguments)))) (spaced_text (arguments_pieces (expressions_of l.arguments)))
