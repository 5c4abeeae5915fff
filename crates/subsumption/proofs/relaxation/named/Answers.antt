use Rattle.std.proofs.Common.{refl}
use Rattle.subsumption.proofs.Circles.{named_start, named_more}
use Rattle.subsumption.proofs.relaxation.named.Goals as goal

pub loop-fact-init : goal.loop-fact-init
loop-fact-init c = rw c.new-facts.ensures.items (named_start _)

pub loop-fact-preserved : goal.loop-fact-preserved
loop-fact-preserved c = rw c.in_ok-note.ensures (named_more _ _ _ _ c.loop-fact-test.true refl c.loop-fact.invariant)
