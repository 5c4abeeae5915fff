use Rattle.std.proofs.lemmas.Grind.{elements, common_steps}
use Rattle.std.proofs.Common.{rules, arith}
use Rattle.two_memory_machine_states.proofs.running_image.RunningImage.write.Goals as goal

pub returns-then-not-lie_in : goal.returns-then-not-lie_in
returns-then-not-lie_in c = search rules

pub invariant_of-self : goal.invariant_of-self
invariant_of-self c = grind (arith, elements)

pub returns : goal.returns
returns c = grind (arith, common_steps)
