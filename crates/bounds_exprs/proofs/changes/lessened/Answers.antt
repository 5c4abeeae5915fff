use Rattle.std.proofs.Common.{rules}
use Rattle.bounds_exprs.proofs.changes.lessened.Goals as goal

pub overflow_sub-t : goal.overflow_sub-t
overflow_sub-t c = search rules

pub returns : goal.returns
returns c = search rules
