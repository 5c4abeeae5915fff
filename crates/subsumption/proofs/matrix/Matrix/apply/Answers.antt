use Rattle.std.proofs.Common.{sym, ◌∙◌}
use Rattle.subsumption.proofs.MatrixSteps.{changed_canonical, changed_none, changed_rows}
use Rattle.subsumption.proofs.matrix.Matrix.apply.Goals as goal

pub returns-then-not-change-clause-table : goal.returns-then-not-change-clause-table
returns-then-not-change-clause-table c = changed_none _ _ c.requires.canonical _ c.requires.placed c.requires.met c.change.ensures.changed _ (sym c.change.ensures.near ∙ c.if-not-change.true) c.clear.ensures

pub returns-else-not-change-clause-canonical : goal.returns-else-not-change-clause-canonical
returns-else-not-change-clause-canonical c = changed_canonical _ _ c.requires.canonical _ c.requires.placed c.requires.met c.change.ensures.changed (sym c.change.ensures.near ∙ c.if-not-change.false)

pub returns-else-not-change-clause-table : goal.returns-else-not-change-clause-table
returns-else-not-change-clause-table c = changed_rows _ _ c.requires.canonical _ c.requires.placed c.requires.met c.change.ensures.changed (sym c.change.ensures.near ∙ c.if-not-change.false)
