use Rattle.std.proofs.Common.{◌+◌, ◌*◌}
use Rattle.std.specs.Prelude.{max}
use Rattle.ckc_core.specs.declared.program.Expr.{size-Expr}
use Rattle.region_typing_flow.proofs.conditions.+told.Given as goal

-- each call has a part that is less deep, or one as deep and a function that is lower here

abbrev pub decreases-told : goal.decreases-told
decreases-told l = 3 * size-Expr l.condition.now

abbrev pub decreases-both : goal.decreases-both
decreases-both l = 3 * max (size-Expr l.left.now) (size-Expr l.right.now) + 1

abbrev pub decreases-either : goal.decreases-either
decreases-either l = 3 * max (size-Expr l.left.now) (size-Expr l.right.now) + 2

abbrev pub decreases-parted : goal.decreases-parted
decreases-parted l = 3 * max (size-Expr l.left.now) (size-Expr l.right.now) + 1
