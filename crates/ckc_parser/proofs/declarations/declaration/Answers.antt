use Rattle.std.proofs.Common.{arith}
use Rattle.ckc_parser_grammar.proofs.Readings.{low_around}
use Rattle.ckc_parser.proofs.Assignments.{deep_declaration}
use Rattle.ckc_parser_grammar.proofs.Paths.{low_beside}
use Rattle.ckc_parser_grammar.specs.StatementGrammar as g
use Rattle.ckc_parser_grammar.specs.StuckStatements as stuck
use Rattle.ckc_parser_grammar.proofs.Readings.{err}
use Rattle.ckc_parser.proofs.declarations.declaration.Goals as goal

pub returns-in_err-check : goal.returns-in_err-check
returns-in_err-check c = rw (err _ _ c.from_residual.ensures.1, c.in_err-check.ensures.0, c.start_of.ensures) (deep_declaration _ _ c.requires.typed c.in_err-check.ensures.1)

pub returns-in_err-base : goal.returns-in_err-base
returns-in_err-base c =
    let deep = c.in_ok-check.ensures in
    rw (err _ _ c.from_residual-in_err-base.ensures.1) (stuck.base deep c.requires.typed (rw c.deeper-below.ensures at c.in_err-base.ensures.reads))

pub returns-in_err-declarators : goal.returns-in_err-declarators
returns-in_err-declarators c =
    let deep = c.in_ok-check.ensures in
    rw (err _ _ c.from_residual-in_err-declarators.ensures.1)
    (stuck.declarators deep c.in_ok-base.ensures.reads.0 (rw c.deeper-below.ensures at c.in_ok-base.ensures.reads.1) (rw c.deeper-below.ensures at c.in_err-declarators.ensures))

pub returns : goal.returns
returns c =
    let deep = c.in_ok-check.ensures in
    rw (c.join-span.ensures, c.span.ensures)
    (g.declaration c.in_ok-base.ensures.reads.0 c.in_ok-declarators.ensures.0, low_around _ _ _ deep (low_beside _ _ _ (rw c.deeper-below.ensures at c.in_ok-base.ensures.reads.1) (rw c.deeper-below.ensures at c.in_ok-declarators.ensures.1)))
