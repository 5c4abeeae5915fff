use Rattle.ccbox_call.proofs.CodeAnswers.{runs_as_source}
use Rattle.ccbox_call.proofs.laws.code_runs_as_source.Goals as goal

pub returns : goal.returns
returns c = λ files words others text status a x. runs_as_source files words others a x
