use Rattle.std.proofs.Common.{arith}
use Rattle.ckc_parser_grammar.specs.StatementGrammar as g
use Rattle.ckc_parser_grammar.specs.StuckStatements as stuck
use Rattle.ckc_parser_grammar.proofs.Readings.{err}
use Rattle.ckc_parser.proofs.statements.for_step.Goals as goal

pub returns-in-Ok : goal.returns-in-Ok
returns-in-Ok c = rw c.in-Ok.ensures (g.absent, omega arith)

pub returns-in_err-assignment : goal.returns-in_err-assignment
returns-in_err-assignment c = rw (err _ _ c.from_residual.ensures.1) (stuck.present c.in_default.ensures.other (rw c.in_default.ensures.left at c.in_err-assignment.ensures))

pub returns-in_err-close_paren : goal.returns-in_err-close_paren
returns-in_err-close_paren c = rw (err _ _ c.from_residual-in_err-close_paren.ensures.1, c.in_err-close_paren.ensures.reason, c.in_err-close_paren.ensures.left) (stuck.end (rw c.in_default.ensures.left at c.in_ok-assignment.ensures.0) c.in_ok-assignment.ensures.1 c.in_err-close_paren.ensures.other)

pub returns : goal.returns
returns c =
    let assigned = rw (c.in_ok-close_paren.ensures, c.in_default.ensures.left) at c.in_ok-assignment.ensures.0 in
    (g.present assigned, c.in_ok-assignment.ensures.1)
