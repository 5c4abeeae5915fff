use Rattle.std.proofs.lemmas.Grind.{elements}
use Rattle.std.proofs.Common.{rules, arith}
use Rattle.bounds_flow.proofs.flow.Flow.strlen.Goals as goal

pub measure-requires-clause-below : goal.measure-requires-clause-below
measure-requires-clause-below c = search rules

pub returns-clause-ok : goal.returns-clause-ok
returns-clause-ok c = grind (arith, elements)
