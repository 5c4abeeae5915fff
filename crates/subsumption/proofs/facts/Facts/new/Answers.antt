use Rattle.subsumption.proofs.KeptTables.{new_kept, new_view}
use Rattle.subsumption.proofs.MatrixSteps.{cleared_canonical, cleared_constants}
use Rattle.subsumption.proofs.facts.Facts.new.Goals as goal

pub invariant_of-result : goal.invariant_of-result
invariant_of-result c = new_kept _ _ _ c.requires c.in_ok-matrix.ensures.size (cleared_canonical _ c.in_ok-matrix.ensures.cleared)

pub returns : goal.returns
returns c = new_view _ c.in_ok-path.path.items _ c.in_ok-matrix.ensures.size (cleared_canonical _ c.in_ok-matrix.ensures.cleared) (cleared_constants _ c.in_ok-matrix.ensures.cleared)
