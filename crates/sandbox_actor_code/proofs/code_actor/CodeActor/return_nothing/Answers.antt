use Rattle.sandbox_actor_code.proofs.code_actor.CodeActor.return_nothing.Goals as goal

pub returns : goal.returns
returns c = λ f here. c.leave.ensures f
