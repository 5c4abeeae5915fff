use Rattle.std.proofs.Common.{sym, ◌∙◌}
use Rattle.ckc_parser_grammar.specs.Tokens.{mark_of}
use Rattle.ckc_parser_grammar.proofs.SingleWords.{word_at, no_word}
use Rattle.ckc_parser_grammar.proofs.words.mark.Goals as goal

pub returns-in-Some-mark : goal.returns-in-Some-mark
returns-in-Some-mark c = word_at c.in-Some.ensures.cases.0 (sym c.in-Some-mark.is ∙ c.mark.ensures)

pub returns-in-None : goal.returns-in-None
returns-in-None c = no_word mark_of c.in-Some.ensures.cases.0 (sym c.in-None.is ∙ c.mark.ensures)
