use Rattle.std.proofs.Common.{◌≡◌}
use Rattle.subsumption.specs.Relaxation.{IsRelaxed}
use Rattle.subsumption.proofs.relaxation.find_distances.Given as goal

abbrev pub invariant-loop-round : goal.invariant-loop-round
invariant-loop-round l = (l.before.items ≡ l.distances.items) × IsRelaxed l.facts l.fn.start l.fn.n l._round l.distances.items l.last.items
