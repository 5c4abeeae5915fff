use Rattle.sandbox_actor.proofs.Cuts.{acts-first_bytes}
use Rattle.sandbox_actor.proofs.laws.first_bytes.Goals as goal

pub returns : goal.returns
returns c = acts-first_bytes
