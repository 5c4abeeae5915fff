use Rattle.subsumption.proofs.Rounds.{round_start, round_take}
use Rattle.std.proofs.Common.{arith}
use Rattle.std.proofs.lemmas.Grind.{elements}
use Rattle.subsumption.proofs.relaxation.relax_all.Goals as goal

pub loop-fact-init : goal.loop-fact-init
loop-fact-init c = rw c.requires.same (round_start _ _ _)

pub loop-fact-preserved : goal.loop-fact-preserved
loop-fact-preserved c = round_take _ _ _ _ _ _ _ _ _ _ _ c.loop-fact-test.true c.requires.edges c.requires.last_size c.loop-fact.invariant c.relax-fell.ensures

pub returns : goal.returns
returns c = grind (arith, elements)
