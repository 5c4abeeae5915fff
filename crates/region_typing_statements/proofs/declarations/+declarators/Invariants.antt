use Rattle.std.proofs.Common.{length}
use Rattle.region_typing_statements.proofs.declarations.+declarators.Given as goal

abbrev pub decreases-declarators : goal.decreases-declarators
decreases-declarators l = length l.ds.now
