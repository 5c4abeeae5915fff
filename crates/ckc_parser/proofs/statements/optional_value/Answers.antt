use Rattle.std.proofs.Common.{arith}
use Rattle.ckc_parser.specs.StatementReadings as readings
use Rattle.ckc_parser_grammar.specs.StuckStatements as stuck
use Rattle.ckc_parser_grammar.proofs.Readings.{err}
use Rattle.ckc_parser.proofs.statements.optional_value.Goals as goal

pub returns-in-Ok : goal.returns-in-Ok
returns-in-Ok c = rw c.in-Ok.ensures (readings.absent, omega arith)

pub returns-in_err-read : goal.returns-in_err-read
returns-in_err-read c = rw (err _ _ c.from_residual.ensures.1) (stuck.present c.in_default.ensures.other (rw c.in_default.ensures.left at c.in_err-read.ensures.reads))

pub returns-in_err-span : goal.returns-in_err-span
returns-in_err-span c = rw (err _ _ c.from_residual-in_err-span.ensures.1, c.in_err-span.ensures.reason, c.in_err-span.ensures.left) (stuck.end (rw c.in_default.ensures.left at c.in_ok-read.ensures.reads.0) c.in_ok-read.ensures.reads.1 c.in_err-span.ensures.other)

pub returns : goal.returns
returns c =
    let value = rw (c.in_ok-span.ensures, c.in_default.ensures.left) at c.in_ok-read.ensures.reads.0 in
    (readings.present value, c.in_ok-read.ensures.reads.1)
