use Rattle.subsumption.proofs.Rounds.{relaxed_start}
use Rattle.subsumption.proofs.relaxation.begin.Goals as goal

pub returns : goal.returns
returns c = rw (c.in_ok-last.ensures, c.in_ok-distances.ensures, c.node.ensures) (relaxed_start _ _ _ c.requires)
