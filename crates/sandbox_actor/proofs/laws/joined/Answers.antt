use Rattle.sandbox_actor.proofs.GivenActs.{joined-lines_of}
use Rattle.sandbox_actor.proofs.laws.joined.Goals as goal

pub returns : goal.returns
returns c = joined-lines_of
