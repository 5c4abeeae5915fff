use Rattle.std.proofs.Common.{rules}
use Rattle.bounds_exprs.proofs.changes.raised.Goals as goal

pub overflow_add-c : goal.overflow_add-c
overflow_add-c c = search rules

pub returns-in-Some : goal.returns-in-Some
returns-in-Some c = search rules
