use Rattle.sandbox_actor_code.proofs.OneAnswer.{one_answer, some_answer, lowers}
use Rattle.sandbox_actor_code.proofs.laws.one_answer.Goals as goal

pub returns : goal.returns
returns c = record { one = one_answer; some = some_answer; lowers = lowers }
