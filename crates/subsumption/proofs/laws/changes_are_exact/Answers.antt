use Rattle.subsumption.proofs.TableSteps.{are_exact}
use Rattle.subsumption.proofs.laws.changes_are_exact.Goals as goal

pub returns : goal.returns
returns c = are_exact
