use Rattle.std.proofs.Common.{rules}
use Rattle.subsumption.proofs.matrix.is_nearer.Goals as goal

pub overflow_add-c : goal.overflow_add-c
overflow_add-c c = search rules

pub returns-in-Some : goal.returns-in-Some
returns-in-Some c = search rules
