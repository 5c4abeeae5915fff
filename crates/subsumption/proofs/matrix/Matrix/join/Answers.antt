use Rattle.subsumption.proofs.MatrixSteps.{joined_canonical, joined_rows}
use Rattle.subsumption.proofs.matrix.Matrix.join.Goals as goal

pub returns-clause-canonical : goal.returns-clause-canonical
returns-clause-canonical c = joined_canonical _ _ c.requires.canonical _ c.requires.same c.requires.other c.join_all.ensures

pub returns-clause-table : goal.returns-clause-table
returns-clause-table c = joined_rows _ _ c.requires.canonical _ c.requires.same c.requires.other c.join_all.ensures
