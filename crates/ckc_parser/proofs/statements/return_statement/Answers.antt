use Rattle.ckc_parser_grammar.proofs.Readings.{low_around}
use Rattle.ckc_parser.proofs.Blocks.{is_return}
use Rattle.ckc_parser_grammar.specs.StuckStatements as stuck
use Rattle.ckc_parser_grammar.proofs.Readings.{err}
use Rattle.ckc_parser.proofs.statements.return_statement.Goals as goal

pub returns-in_err-read : goal.returns-in_err-read
returns-in_err-read c = rw (err _ _ c.from_residual.ensures.1) (stuck.return c.requires (rw c.deeper.ensures at c.in_err-read.ensures))

pub returns : goal.returns
returns c = rw (c.in_ok-boxed.ensures, c.join-span.ensures) (is_return c.in_ok-read.ensures.0, low_around _ _ _ c.requires (rw c.deeper.ensures at c.in_ok-read.ensures.1))

pub returns-in_err-boxed : goal.returns-in_err-boxed
returns-in_err-boxed c = rw (err _ _ c.from_residual-in_err-boxed.ensures.1) stuck.statement_no_room
