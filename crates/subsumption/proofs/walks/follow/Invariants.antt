use Rattle.std.proofs.Common.{◌-◌, length}
use Rattle.subsumption.proofs.MatrixWays.{LeadsTo}
use Rattle.subsumption.proofs.walks.follow.Given as goal

abbrev pub invariant-loop-here : goal.invariant-loop-here
invariant-loop-here l = LeadsTo l.matrix l.i l.j l.here l.path.items

abbrev pub decreases-loop-here : goal.decreases-loop-here
decreases-loop-here l = l.matrix.n - length l.path.items
