use Rattle.std.proofs.lemmas.Grind.{elements}
use Rattle.std.proofs.Common.{arith}
use Rattle.region_typing_flow.proofs.conditions.is_ended_local.Goals as goal

pub returns-in-Some-Pointer-Checked-Nt-default : goal.returns-in-Some-Pointer-Checked-Nt-default
returns-in-Some-Pointer-Checked-Nt-default c = grind (arith, elements)

pub returns-in_default : goal.returns-in_default
returns-in_default c = grind (arith, elements)

pub returns-in_default-2 : goal.returns-in_default-2
returns-in_default-2 c = grind (arith, elements)

pub returns-in_default-3 : goal.returns-in_default-3
returns-in_default-3 c = grind (arith, elements)

pub returns-in_default-4 : goal.returns-in_default-4
returns-in_default-4 c = grind (arith, elements)
