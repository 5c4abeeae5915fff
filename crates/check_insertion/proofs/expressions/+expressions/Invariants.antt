use Rattle.std.proofs.Common.{◌≡◌, ◌+◌, ◌*◌, drop}
use Rattle.std.specs.Prelude.{max}
use Rattle.ckc_core.specs.declared.program.Expr.{size-Expr}
use Rattle.ckc_core.specs.declared.program.CellPlace.{size-CellPlace}
use Rattle.ckc_core.specs.declared.program.Index.{size-Index}
use Rattle.ckc_core.specs.Core as core
use Rattle.check_insertion.specs.Erased as erased
use Rattle.check_insertion.specs.Insert as insert
use Rattle.check_insertion.proofs.Made.{before}
use Rattle.check_insertion.proofs.expressions.+expressions.Given as goal

-- each call has a part that is less deep, or one as deep and a function that is lower here

abbrev pub decreases-expression : goal.decreases-expression
decreases-expression l = 4 * goal.size-expression l

abbrev pub decreases-place : goal.decreases-place
decreases-place l = 4 * goal.size-place l

abbrev pub decreases-boxed : goal.decreases-boxed
decreases-boxed l = 4 * goal.size-boxed l + 1

abbrev pub decreases-load : goal.decreases-load
decreases-load l = 4 * size-CellPlace l.cell.now + 1

abbrev pub decreases-negate : goal.decreases-negate
decreases-negate l = 4 * goal.size-negate l + 2

abbrev pub decreases-arithmetic : goal.decreases-arithmetic
decreases-arithmetic l = 4 * max (size-Expr l.left.now) (size-Expr l.right.now) + 2

abbrev pub decreases-compare : goal.decreases-compare
decreases-compare l = 4 * max (size-Expr l.left.now) (size-Expr l.right.now) + 2

abbrev pub decreases-same : goal.decreases-same
decreases-same l = 4 * max (size-Expr l.left.now) (size-Expr l.right.now) + 2

abbrev pub decreases-and_also : goal.decreases-and_also
decreases-and_also l = 4 * max (size-Expr l.left.now) (size-Expr l.right.now) + 2

abbrev pub decreases-or_else : goal.decreases-or_else
decreases-or_else l = 4 * max (size-Expr l.left.now) (size-Expr l.right.now) + 2

abbrev pub decreases-arguments_of : goal.decreases-arguments_of
decreases-arguments_of l = 4 * goal.size-arguments_of l + 1

abbrev pub decreases-call : goal.decreases-call
decreases-call l = 4 * goal.size-call l + 2

abbrev pub decreases-call_value : goal.decreases-call_value
decreases-call_value l = 4 * goal.size-call_value l + 3

abbrev pub decreases-sum : goal.decreases-sum
decreases-sum l = 4 * max (size-Expr l.pointer.now) (size-Expr l.number.now) + 2

abbrev pub decreases-order : goal.decreases-order
decreases-order l = 4 * max (size-Expr l.left.now) (size-Expr l.right.now) + 2

abbrev pub decreases-allocate : goal.decreases-allocate
decreases-allocate l = 4 * size-Expr l.count.now + 2

abbrev pub decreases-length : goal.decreases-length
decreases-length l = 4 * size-Expr l.pointer.now + 2

abbrev pub decreases-cast : goal.decreases-cast
decreases-cast l = 4 * size-Expr l.pointer.now + 2

abbrev pub decreases-index : goal.decreases-index
decreases-index l = 4 * size-Index l.which.now + 1

abbrev pub decreases-through : goal.decreases-through
decreases-through l = 4 * max (size-Expr l.pointer.now) (size-Index l.which.now) + 2

-- the arguments so far, and those that are left
abbrev pub invariant-arguments_of-loop-argument : goal.invariant-arguments_of-loop-argument
invariant-arguments_of-loop-argument l =
    insert.arguments_of (core.arguments_of l.arguments) ≡ before erased.expression erased.More l.built.items (insert.arguments_of (core.arguments_of (drop l.argument-index l.arguments)))
