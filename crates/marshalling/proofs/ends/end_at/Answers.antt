use Rattle.std.proofs.lemmas.Bool.Decides.{nat_tests}
use Rattle.std.proofs.Common.{rules, arith}
use Rattle.marshalling.proofs.ends.end_at.Goals as goal

pub returns-clause-value : goal.returns-clause-value
returns-clause-value c = search rules

pub returns-clause-low : goal.returns-clause-low
returns-clause-low c = grind (arith, nat_tests)

pub returns-clause-high : goal.returns-clause-high
returns-clause-high c = grind (arith, nat_tests)
