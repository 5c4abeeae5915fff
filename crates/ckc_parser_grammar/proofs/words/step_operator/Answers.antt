use Rattle.std.proofs.Common.{sym, ◌∙◌}
use Rattle.ckc_parser_grammar.specs.Tokens.{step_operator_of}
use Rattle.ckc_parser_grammar.proofs.SingleWords.{word_at, no_word}
use Rattle.ckc_parser_grammar.proofs.words.step_operator.Goals as goal

pub returns-in-Some-step_operator : goal.returns-in-Some-step_operator
returns-in-Some-step_operator c = word_at c.in-Some.ensures.cases.0 (sym c.in-Some-step_operator.is ∙ c.step_operator.ensures)

pub returns-in-None : goal.returns-in-None
returns-in-None c = no_word step_operator_of c.in-Some.ensures.cases.0 (sym c.in-None.is ∙ c.step_operator.ensures)
