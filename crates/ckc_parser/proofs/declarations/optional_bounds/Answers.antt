use Rattle.std.proofs.Common.{arith}
use Rattle.ckc_parser_grammar.specs.StatementGrammar as g
use Rattle.ckc_parser_grammar.specs.StuckStatements as stuck
use Rattle.ckc_parser_grammar.proofs.Readings.{err}
use Rattle.ckc_parser.proofs.declarations.optional_bounds.Goals as goal

pub returns-in_default : goal.returns-in_default
returns-in_default c = rw c.in_default.ensures.left (g.absent c.in_default.ensures.other, omega arith)

pub returns-in_err-read : goal.returns-in_err-read
returns-in_err-read c = rw (err _ _ c.from_residual.ensures.1, c.in-Ok.ensures) (stuck.bounds c.in_err-read.ensures.reads)

pub returns : goal.returns
returns c = rw (c.in-Ok.ensures, c.join-span.ensures) (g.present c.in_ok-read.ensures.reads.0, c.in_ok-read.ensures.reads.1)
