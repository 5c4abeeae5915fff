use Rattle.subsumption.specs.Relaxation.{AreNamed}
use Rattle.subsumption.proofs.relaxation.named.Given as goal

abbrev pub invariant-loop-fact : goal.invariant-loop-fact
invariant-loop-fact l = AreNamed l.last l.fact-index l.facts.items
