use Rattle.std.proofs.Common.{rules}
use Rattle.bounds_exprs.proofs.expression.subtract.Goals as goal

pub overflow_sub-a : goal.overflow_sub-a
overflow_sub-a c = search rules

pub returns-then-is_none : goal.returns-then-is_none
returns-then-is_none c = search rules
