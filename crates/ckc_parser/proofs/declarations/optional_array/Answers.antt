use Rattle.ckc_parser_grammar.proofs.SingleWords.{number_at}
use Rattle.ckc_parser_grammar.specs.StatementGrammar as g
use Rattle.ckc_parser_grammar.specs.StuckStatements as stuck
use Rattle.ckc_parser_grammar.proofs.Readings.{err}
use Rattle.ckc_parser.proofs.declarations.optional_array.Goals as goal

pub returns-in_default : goal.returns-in_default
returns-in_default c = rw c.in_default.ensures.left (g.absent c.in_default.ensures.other)

pub returns-in_err-open_bracket : goal.returns-in_err-open_bracket
returns-in_err-open_bracket c = rw (err _ _ c.from_residual.ensures.1, c.in_err-open_bracket.ensures.reason, c.in_err-open_bracket.ensures.left, c.in-Ok.ensures.at) (stuck.opens c.in-Ok.ensures.says c.in_err-open_bracket.ensures.other)

pub returns-in_err-length : goal.returns-in_err-length
returns-in_err-length c = rw (err _ _ c.from_residual-in_err-length.ensures.1, c.in_err-length.ensures.reason, c.in_err-length.ensures.left, c.in-Ok.ensures.at, c.in_ok-open_bracket.ensures) (stuck.length c.in-Ok.ensures.says c.in_err-length.ensures.other)

pub returns-in_err-end : goal.returns-in_err-end
returns-in_err-end c = rw (err _ _ c.from_residual-in_err-end.ensures.1, c.in_err-end.ensures.reason, c.in_err-end.ensures.left, c.in-Ok.ensures.at, c.in_ok-open_bracket.ensures, number_at c.in_ok-length.ensures) (stuck.close c.in-Ok.ensures.says c.in_err-end.ensures.other)

pub returns : goal.returns
returns c = rw (c.in-Ok.ensures.at, c.in_ok-open_bracket.ensures, number_at c.in_ok-length.ensures, c.in_ok-end.ensures, c.join-span.ensures, c.join-span-2.ensures) (g.present c.in-Ok.ensures.says)
