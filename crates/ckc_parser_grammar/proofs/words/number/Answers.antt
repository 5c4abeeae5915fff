use Rattle.std.proofs.Common.{sym, ◌∙◌}
use Rattle.ckc_parser_grammar.specs.Tokens.{number_of}
use Rattle.ckc_parser_grammar.proofs.SingleWords.{word_at, no_word}
use Rattle.ckc_parser_grammar.proofs.words.number.Goals as goal

pub returns-in-Some-number : goal.returns-in-Some-number
returns-in-Some-number c = word_at c.in-Some.ensures.cases.0 (sym c.in-Some-number.is ∙ c.number.ensures)

pub returns-in-None : goal.returns-in-None
returns-in-None c = no_word number_of c.in-Some.ensures.cases.0 (sym c.in-None.is ∙ c.number.ensures)
