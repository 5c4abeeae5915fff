use Rattle.sandbox_actor.proofs.Recorded.{one_answer}
use Rattle.sandbox_actor.proofs.recording_laws.one_answer.Goals as goal

pub returns : goal.returns
returns c start = one_answer {S = c.A.Actor.State} c.A.Actor.answers
