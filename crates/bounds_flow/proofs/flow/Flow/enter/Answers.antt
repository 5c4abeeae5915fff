use Rattle.std.proofs.lemmas.Grind.{common_steps}
use Rattle.std.proofs.Common.{rules, arith}
use Rattle.bounds_flow.proofs.flow.Flow.enter.Goals as goal

pub index_mut-requires : goal.index_mut-requires
index_mut-requires c = search rules

pub invariant_of-self : goal.invariant_of-self
invariant_of-self c = grind (arith, common_steps)
