use Rattle.region_typing_rules.proofs.Counts.{few}
use Rattle.region_typing_rules.proofs.laws.few_functions.Goals as goal

pub returns : goal.returns
returns c = few
