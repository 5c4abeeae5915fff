use Rattle.std.proofs.Common.{◌≡◌}
use Rattle.subsumption.specs.MatrixWays.{IsSmall, cost_of, least_below}
use Rattle.subsumption.proofs.numbers.searched.Given as goal

abbrev pub invariant-loop-w : goal.invariant-loop-w
invariant-loop-w l = record { value : l.least ≡ least_below (cost_of l.matrix l.y l.z) l.w; small : IsSmall l.least }
