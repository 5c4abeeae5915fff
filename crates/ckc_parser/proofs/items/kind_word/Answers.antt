use Rattle.std.proofs.Common.{ap, ◌∙◌}
use Rattle.ckc_lexer.specs.declared.token.TokenKind.TheVariants as kinds
use Rattle.ckc_parser_grammar.specs.ItemGrammar as g
use Rattle.ckc_parser_grammar.proofs.Readings.{begins}
use Rattle.ckc_parser.proofs.items.kind_word.Goals as goal

pub returns-in-Keyword-Tainted : goal.returns-in-Keyword-Tainted
returns-in-Keyword-Tainted c = rw (begins _ _ _ _ c.in-Some.ensures.cases.0 (c.in-Keyword-Tainted.is ∙ ap kinds.Keyword (rw c.in-Keyword-Tainted.is at c.in-Keyword-Tainted.field-0-is))) g.tainted

pub returns-in-Keyword-Callback : goal.returns-in-Keyword-Callback
returns-in-Keyword-Callback c = rw (begins _ _ _ _ c.in-Some.ensures.cases.0 (c.in-Keyword-Callback.is ∙ ap kinds.Keyword (rw c.in-Keyword-Callback.is at c.in-Keyword-Callback.field-0-is))) g.callback
