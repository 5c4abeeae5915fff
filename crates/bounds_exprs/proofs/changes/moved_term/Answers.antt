use Rattle.std.proofs.Common.{rules}
use Rattle.bounds_exprs.proofs.changes.moved_term.Goals as goal

pub overflow_add-t : goal.overflow_add-t
overflow_add-t c = search rules

pub returns : goal.returns
returns c = search rules
