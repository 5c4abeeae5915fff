use Rattle.ckc_parser.proofs.Ahead.{no_minus_or_constant}
use Rattle.ckc_parser_grammar.specs.StatementGrammar as g
use Rattle.ckc_parser_grammar.specs.StuckStatements as stuck
use Rattle.ckc_parser_grammar.proofs.Readings.{err}
use Rattle.ckc_parser.proofs.declarations.signed.Goals as goal

pub returns-in_err-constant : goal.returns-in_err-constant
returns-in_err-constant c = rw (err _ _ c.from_residual.ensures.1, c.in_err-constant.ensures.reason, c.in_err-constant.ensures.left, c.in-Ok.ensures) (stuck.behind_minus c.in_err-constant.ensures.other)

pub returns-in-Ok : goal.returns-in-Ok
returns-in-Ok c = rw (c.in-Ok.ensures, c.in_ok-constant.ensures.at, c.join-span.ensures) (g.minus c.in_ok-constant.ensures.says)

pub returns-in_err-constant-2 : goal.returns-in_err-constant-2
returns-in_err-constant-2 c = rw (err _ _ c.from_residual-in_err-constant-2.ensures.1, c.in_err-constant-2.ensures.reason, c.in_err-constant-2.ensures.left, c.in_default.ensures.left) (stuck.no_constant (no_minus_or_constant _ c.in_default.ensures.other (rw c.in_default.ensures.left at c.in_err-constant-2.ensures.other)))

pub returns : goal.returns
returns c = rw (← c.in_default.ensures.left, c.in_ok-constant-2.ensures.at) (g.plain c.in_ok-constant-2.ensures.says)
