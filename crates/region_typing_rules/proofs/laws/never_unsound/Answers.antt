use Rattle.region_typing_rules.proofs.Programs.{never_unsound}
use Rattle.region_typing_rules.proofs.Typing.{safe}
use Rattle.region_typing_rules.proofs.laws.never_unsound.Goals as goal

pub returns : goal.returns
returns c = λ at t core h. never_unsound core (safe at t core h)
