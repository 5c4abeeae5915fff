use Rattle.std.proofs.Common.{sym, ◌∙◌}
use Rattle.ckc_parser_grammar.specs.Tokens.{array_kind_of}
use Rattle.ckc_parser_grammar.proofs.SingleWords.{word_at, no_word}
use Rattle.ckc_parser_grammar.proofs.words.array_word.Goals as goal

pub returns-in-Some-array_kind : goal.returns-in-Some-array_kind
returns-in-Some-array_kind c = word_at c.in-Some.ensures.cases.0 (sym c.in-Some-array_kind.is ∙ c.array_kind.ensures)

pub returns-in-None : goal.returns-in-None
returns-in-None c = no_word array_kind_of c.in-Some.ensures.cases.0 (sym c.in-None.is ∙ c.array_kind.ensures)
