use Rattle.std.proofs.Common.{sym, ◌∙◌}
use Rattle.ckc_parser_grammar.specs.Tokens.{store_operator_of}
use Rattle.ckc_parser_grammar.proofs.SingleWords.{word_at, no_word}
use Rattle.ckc_parser_grammar.proofs.words.store_operator.Goals as goal

pub returns-in-Some-store_operator : goal.returns-in-Some-store_operator
returns-in-Some-store_operator c = word_at c.in-Some.ensures.cases.0 (sym c.in-Some-store_operator.is ∙ c.store_operator.ensures)

pub returns-in-None : goal.returns-in-None
returns-in-None c = no_word store_operator_of c.in-Some.ensures.cases.0 (sym c.in-None.is ∙ c.store_operator.ensures)
