use Rattle.std.proofs.Common.{length}
use Rattle.region_typing.proofs.signatures.+all_scalar.Given as goal

abbrev pub decreases-all_scalar : goal.decreases-all_scalar
decreases-all_scalar l = length l.types.now
