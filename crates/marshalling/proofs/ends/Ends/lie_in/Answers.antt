use Rattle.std.proofs.lemmas.Bool.Decides.{nat_tests}
use Rattle.std.proofs.Common.{arith}
use Rattle.marshalling.proofs.ends.Ends.lie_in.Goals as goal

pub returns-then-low-ge1 : goal.returns-then-low-ge1
returns-then-low-ge1 c = grind (arith, nat_tests)
