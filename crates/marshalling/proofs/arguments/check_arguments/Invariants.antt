use Rattle.std.proofs.Common.{◌≡◌}
use Rattle.marshalling.specs.Crossing.{fault_from}
use Rattle.marshalling.proofs.ArgumentFaults.{left_from}
use Rattle.marshalling.proofs.arguments.check_arguments.Given as goal

-- the parameters that are left decide
abbrev pub invariant-loop-i : goal.invariant-loop-i
invariant-loop-i l = fault_from 0 l.size l.words l.params l.words ≡ left_from l.params l.words l.size l.i
