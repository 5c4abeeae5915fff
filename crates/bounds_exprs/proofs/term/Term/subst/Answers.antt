use Rattle.std.proofs.Common.{rules}
use Rattle.bounds_exprs.proofs.term.Term.subst.Goals as goal

pub overflow_add-self : goal.overflow_add-self
overflow_add-self c = search rules

pub returns-then-eq : goal.returns-then-eq
returns-then-eq c = search rules

pub returns-else-eq : goal.returns-else-eq
returns-else-eq c = search rules
