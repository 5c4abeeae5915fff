use Rattle.std.proofs.Common.{take}
use Rattle.subsumption.specs.Relaxation.{IsRound}
use Rattle.subsumption.proofs.relaxation.relax_all.Given as goal

abbrev pub invariant-loop-fact : goal.invariant-loop-fact
invariant-loop-fact l = IsRound l.facts (take l.fact-index l.facts) l.before l.initial.last.items l.distances.items l.last.items l.fell
