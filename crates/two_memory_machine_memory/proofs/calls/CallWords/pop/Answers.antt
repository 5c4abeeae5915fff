use Rattle.std.proofs.lemmas.Grind.{elements}
use Rattle.std.proofs.Common.{arith}
use Rattle.two_memory_machine_memory.proofs.calls.CallWords.pop.Goals as goal

pub overflow_add-self : goal.overflow_add-self
overflow_add-self c = grind (arith, elements)

pub invariant_of-self : goal.invariant_of-self
invariant_of-self c = grind (arith, elements)

pub returns : goal.returns
returns c = grind (arith, elements)
