use Rattle.ckc_parser_grammar.proofs.Readings.{low_around}
use Rattle.ckc_parser_grammar.specs.StatementGrammar as g
use Rattle.ckc_parser_grammar.specs.StuckStatements as stuck
use Rattle.ckc_parser_grammar.proofs.Readings.{err}
use Rattle.ckc_parser.proofs.statements.bundle.Goals as goal

pub returns-in_err-open_brace : goal.returns-in_err-open_brace
returns-in_err-open_brace c = rw (err _ _ c.from_residual.ensures.1, c.in_err-open_brace.ensures.reason, c.in_err-open_brace.ensures.left) (stuck.bundle_open c.requires c.in_err-open_brace.ensures.other)

pub returns-in_err-read : goal.returns-in_err-read
returns-in_err-read c = rw (err _ _ c.from_residual-in_err-read.ensures.1, c.in_ok-open_brace.ensures) (stuck.bundle c.requires (rw c.deeper.ensures at c.in_err-read.ensures))

pub returns : goal.returns
returns c = rw (c.in_ok-open_brace.ensures, c.in_ok-boxed.ensures, c.join-span.ensures) (g.bundle c.in_ok-read.ensures.0, low_around _ _ _ c.requires (rw c.deeper.ensures at c.in_ok-read.ensures.1))

pub returns-in_err-boxed : goal.returns-in_err-boxed
returns-in_err-boxed c = rw (err _ _ c.from_residual-in_err-boxed.ensures.1) stuck.statement_no_room
