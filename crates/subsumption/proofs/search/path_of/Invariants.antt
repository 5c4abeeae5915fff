use Rattle.std.proofs.Common.{◌-◌, length}
use Rattle.subsumption.specs.Relaxation.{LeadsFrom}
use Rattle.subsumption.proofs.search.path_of.Given as goal

abbrev pub invariant-loop-fact : goal.invariant-loop-fact
invariant-loop-fact l = LeadsFrom l.goal.right l.search.distances.items l.search.last.items l.here l.goal.left l.path.items

abbrev pub decreases-loop-fact : goal.decreases-loop-fact
decreases-loop-fact l = length l.search.last.items - length l.path.items
