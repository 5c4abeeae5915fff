use Rattle.ckc_parser_grammar.specs.StatementGrammar as g
use Rattle.ckc_parser_grammar.specs.StuckStatements as stuck
use Rattle.ckc_parser_grammar.proofs.Readings.{err}
use Rattle.ckc_parser.proofs.statements.stored.Goals as goal

pub returns-in_err-assignment : goal.returns-in_err-assignment
returns-in_err-assignment c = rw (err _ _ c.from_residual.ensures.1) (stuck.assignment c.requires.word c.requires.unnamed c.in_err-assignment.ensures)

pub returns-in_err-end : goal.returns-in_err-end
returns-in_err-end c = rw (err _ _ c.from_residual-in_err-end.ensures.1, c.in_err-end.ensures.reason, c.in_err-end.ensures.left) (stuck.assign_end c.in_ok-assignment.ensures.0 c.in_ok-assignment.ensures.1 c.in_err-end.ensures.other)

pub returns : goal.returns
returns c =
    let assigned = rw c.in_ok-end.ensures at c.in_ok-assignment.ensures.0 in
    rw (c.in_ok-boxed.ensures, c.join-span.ensures, c.span.ensures) (g.assign assigned, c.in_ok-assignment.ensures.1)

pub returns-in_err-boxed : goal.returns-in_err-boxed
returns-in_err-boxed c = rw (err _ _ c.from_residual-in_err-boxed.ensures.1) stuck.statement_no_room
