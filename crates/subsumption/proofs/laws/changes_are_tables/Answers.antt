use Rattle.subsumption.proofs.TableSteps.{give_tables}
use Rattle.subsumption.proofs.laws.changes_are_tables.Goals as goal

pub returns : goal.returns
returns c = give_tables
