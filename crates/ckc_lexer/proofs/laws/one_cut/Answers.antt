use Rattle.ckc_lexer.proofs.Cuts.{same_answer}
use Rattle.ckc_lexer.proofs.Cutting.{some_answer}
use Rattle.ckc_lexer.proofs.laws.one_cut.Goals as goal

pub returns-clause-some_cut : goal.returns-clause-some_cut
returns-clause-some_cut c = some_answer

pub returns-clause-one_cut : goal.returns-clause-one_cut
returns-clause-one_cut c = λ src answer other a b. same_answer a b
