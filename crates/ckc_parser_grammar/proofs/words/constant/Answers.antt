use Rattle.std.proofs.Common.{sym, ◌∙◌}
use Rattle.ckc_parser_grammar.specs.Tokens.{constant_of}
use Rattle.ckc_parser_grammar.proofs.SingleWords.{word_at, no_word}
use Rattle.ckc_parser_grammar.proofs.words.constant.Goals as goal

pub returns-in-Some-constant : goal.returns-in-Some-constant
returns-in-Some-constant c = word_at c.in-Some.ensures.cases.0 (sym c.in-Some-constant.is ∙ c.constant.ensures)

pub returns-in-None : goal.returns-in-None
returns-in-None c = no_word constant_of c.in-Some.ensures.cases.0 (sym c.in-None.is ∙ c.constant.ensures)
