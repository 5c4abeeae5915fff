use Rattle.region_typing_rules.proofs.Programs.{always_ends}
use Rattle.region_typing_rules.proofs.Typing.{safe}
use Rattle.region_typing_rules.proofs.laws.always_ends.Goals as goal

pub returns : goal.returns
returns c = λ at t core h. always_ends core (safe at t core h)
