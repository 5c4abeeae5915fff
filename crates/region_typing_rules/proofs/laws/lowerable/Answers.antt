use Rattle.region_typing_rules.proofs.Typing.{small}
use Rattle.region_typing_rules.proofs.laws.lowerable.Goals as goal

pub returns : goal.returns
returns c = small
