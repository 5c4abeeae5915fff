use Rattle.region_typing_rules.proofs.BodyWeights.{light}
use Rattle.region_typing_rules.proofs.laws.few_nodes.Goals as goal

pub returns : goal.returns
returns c = light
