use Rattle.std.proofs.Common.{arith}
use Rattle.ckc_tree.proofs.laws.examples_of_placement.Goals as goal

pub returns-clause-in_order : goal.returns-clause-in_order
returns-clause-in_order c = omega arith

pub returns-clause-outside : goal.returns-clause-outside
returns-clause-outside c = λ h. omega (arith, h.2.0.4.1.0.1.0)

pub returns-clause-swapped : goal.returns-clause-swapped
returns-clause-swapped c = λ h. omega (arith, h.2.0.4.1.0.1.0)

pub returns-clause-longer : goal.returns-clause-longer
returns-clause-longer c = λ h. omega (arith, h.0)
