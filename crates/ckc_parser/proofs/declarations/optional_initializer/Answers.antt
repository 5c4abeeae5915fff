use Rattle.std.proofs.Common.{arith}
use Rattle.ckc_parser_grammar.specs.StatementGrammar as g
use Rattle.ckc_parser_grammar.specs.StuckStatements as stuck
use Rattle.ckc_parser_grammar.proofs.Readings.{err}
use Rattle.ckc_parser.proofs.declarations.optional_initializer.Goals as goal

pub returns-in_default : goal.returns-in_default
returns-in_default c = rw c.in_default.ensures.left (g.absent c.in_default.ensures.other, omega arith)

pub returns-in_err-read : goal.returns-in_err-read
returns-in_err-read c = rw (err _ _ c.from_residual.ensures.1, c.in-Ok.ensures, c.in-Ok-open_brace.ensures) (stuck.constants c.in_err-read.ensures)

pub returns-in-Ok-open_brace : goal.returns-in-Ok-open_brace
returns-in-Ok-open_brace c = rw (c.in-Ok.ensures, c.in-Ok-open_brace.ensures, c.join-span.ensures, c.join-span-in-Ok-open_brace.ensures) (g.constants c.in_ok-read.ensures, omega arith)

pub returns-in_err-read-2 : goal.returns-in_err-read-2
returns-in_err-read-2 c = rw (err _ _ c.from_residual-in_err-read-2.ensures.1, c.in-Ok.ensures) (stuck.value c.in_default-open_brace.ensures.other (rw c.in_default-open_brace.ensures.left at c.in_err-read-2.ensures.reads))

pub returns : goal.returns
returns c = rw (c.in-Ok.ensures, c.join-span-2.ensures) (g.value (rw c.in_default-open_brace.ensures.left at c.in_ok-read-2.ensures.reads.0), c.in_ok-read-2.ensures.reads.1)
