use Rattle.std.proofs.lemmas.Bool.Decides.{nat_tests}
use Rattle.std.proofs.lemmas.Grind.{common_steps}
use Rattle.std.proofs.Common.{rules, arith}
use Rattle.two_memory_machine_states.proofs.running_image.RunningImage.put_byte.Goals as goal

pub returns-in_default-clause-line : goal.returns-in_default-clause-line
returns-in_default-clause-line c = search rules

pub pop-requires : goal.pop-requires
pop-requires c = grind (arith, common_steps)

pub advance-requires : goal.advance-requires
advance-requires c = search rules

pub invariant_of-self : goal.invariant_of-self
invariant_of-self c = grind (arith, nat_tests)

pub returns-clause-line : goal.returns-clause-line
returns-clause-line c = search rules
