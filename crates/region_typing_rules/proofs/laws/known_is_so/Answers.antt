use Rattle.region_typing_rules.proofs.Sound.{conditions_are_so, marked_alone}
use Rattle.region_typing_rules.proofs.laws.known_is_so.Goals as goal

pub returns-clause-conditions : goal.returns-clause-conditions
returns-clause-conditions c = conditions_are_so

pub returns-clause-marked : goal.returns-clause-marked
returns-clause-marked c = marked_alone
