use Rattle.region_typing_rules.proofs.Programs.{never_stuck}
use Rattle.region_typing_rules.proofs.Typing.{safe, typed}
use Rattle.region_typing_rules.proofs.laws.never_stuck.Goals as goal

pub returns-clause-typed : goal.returns-clause-typed
returns-clause-typed c = typed

pub returns-clause-stuck : goal.returns-clause-stuck
returns-clause-stuck c = λ at t core h. never_stuck core (safe at t core h)
