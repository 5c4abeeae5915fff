use Rattle.subsumption.proofs.TableSteps.{have_one_form}
use Rattle.subsumption.proofs.laws.tables_have_one_form.Goals as goal

pub returns : goal.returns
returns c = have_one_form
