use Rattle.region_typing_rules.proofs.NamedItems.{all_named}
use Rattle.region_typing_rules.proofs.laws.named.Goals as goal

pub returns : goal.returns
returns c = all_named
