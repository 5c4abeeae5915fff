use Rattle.std.proofs.Common.{length}
use Rattle.region_typing_scope.proofs.signature.+all_same_written.Given as goal

abbrev pub decreases-all_same_written : goal.decreases-all_same_written
decreases-all_same_written l = length l.a.now
