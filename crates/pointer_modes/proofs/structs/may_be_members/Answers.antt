use Rattle.std.proofs.Common.{arith}
use Rattle.std.proofs.lemmas.Grind.{elements}
use Rattle.pointer_modes.proofs.structs.may_be_members.Goals as goal

pub returns-in-Some-clause-fault : goal.returns-in-Some-clause-fault
returns-in-Some-clause-fault c = grind (arith, elements)

pub returns-in-Some-first_twice-clause-fault : goal.returns-in-Some-first_twice-clause-fault
returns-in-Some-first_twice-clause-fault c = grind (arith, elements)

pub returns-in-Some-first_struct-clause-fault : goal.returns-in-Some-first_struct-clause-fault
returns-in-Some-first_struct-clause-fault c = grind (arith, elements)

pub returns-clause-fault : goal.returns-clause-fault
returns-clause-fault c = grind (arith, elements)
