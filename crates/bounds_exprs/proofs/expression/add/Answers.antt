use Rattle.std.proofs.Common.{rules}
use Rattle.bounds_exprs.proofs.expression.add.Goals as goal

pub overflow_add-plus : goal.overflow_add-plus
overflow_add-plus c = search rules

pub returns-then-is_none : goal.returns-then-is_none
returns-then-is_none c = search rules

pub returns-then-is_none-2 : goal.returns-then-is_none-2
returns-then-is_none-2 c = search rules
