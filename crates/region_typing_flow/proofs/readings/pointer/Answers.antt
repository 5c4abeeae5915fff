use Rattle.std.proofs.lemmas.Grind.{elements}
use Rattle.std.proofs.Common.{arith}
use Rattle.region_typing_flow.proofs.readings.pointer.Goals as goal

pub returns-in-Some-Pointer-clause-value : goal.returns-in-Some-Pointer-clause-value
returns-in-Some-Pointer-clause-value c = grind (arith, elements)

pub returns-in_default : goal.returns-in_default
returns-in_default c = grind (arith, elements)

pub returns-in_default-2-clause-value : goal.returns-in_default-2-clause-value
returns-in_default-2-clause-value c = grind (arith, elements)
