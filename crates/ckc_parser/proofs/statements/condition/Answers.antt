use Rattle.ckc_parser.specs.StatementReadings as readings
use Rattle.ckc_parser_grammar.specs.StuckStatements as stuck
use Rattle.ckc_parser_grammar.proofs.Readings.{err}
use Rattle.ckc_parser.proofs.statements.condition.Goals as goal

pub returns-in_err-open_paren : goal.returns-in_err-open_paren
returns-in_err-open_paren c = rw (err _ _ c.from_residual.ensures.1, c.in_err-open_paren.ensures.reason, c.in_err-open_paren.ensures.left) (stuck.opens c.in_err-open_paren.ensures.other)

pub returns-in_err-read : goal.returns-in_err-read
returns-in_err-read c = rw (err _ _ c.from_residual-in_err-read.ensures.1, c.in_ok-open_paren.ensures) (stuck.inside c.in_err-read.ensures.reads)

pub returns-in_err-close_paren : goal.returns-in_err-close_paren
returns-in_err-close_paren c = rw (err _ _ c.from_residual-in_err-close_paren.ensures.1, c.in_err-close_paren.ensures.reason, c.in_err-close_paren.ensures.left, c.in_ok-open_paren.ensures) (stuck.close c.in_ok-read.ensures.reads.0 c.in_ok-read.ensures.reads.1 c.in_err-close_paren.ensures.other)

pub returns : goal.returns
returns c =
    let inside = rw c.in_ok-close_paren.ensures at c.in_ok-read.ensures.reads.0 in
    rw c.in_ok-open_paren.ensures (readings.condition inside, c.in_ok-read.ensures.reads.1)
