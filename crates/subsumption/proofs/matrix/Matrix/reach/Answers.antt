use Rattle.std.proofs.Common.{arith, rules}
use Rattle.std.proofs.lemmas.Bool.Decides.{nat_tests}
use Rattle.subsumption.proofs.matrix.Matrix.reach.Goals as goal

pub overflow_add-plus : goal.overflow_add-plus
overflow_add-plus c = search rules

pub returns-then-known : goal.returns-then-known
returns-then-known c = search rules

pub returns-then-i-x : goal.returns-then-i-x
returns-then-i-x c = grind (arith, nat_tests)

pub returns-else-i-x : goal.returns-else-i-x
returns-else-i-x c = grind (arith, nat_tests)
