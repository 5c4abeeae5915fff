use Rattle.sandbox_actor.proofs.Recorded.{kept}
use Rattle.sandbox_actor.proofs.recording_laws.kept_in_order.Goals as goal

pub returns : goal.returns
returns c start = kept {S = c.A.Actor.State} c.A.Actor.answers
