use Rattle.region_typing_rules.proofs.CheckPlaces.{checks_named}
use Rattle.region_typing_rules.proofs.laws.named_checks.Goals as goal

pub returns : goal.returns
returns c = checks_named
