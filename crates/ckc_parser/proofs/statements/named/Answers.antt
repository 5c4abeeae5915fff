use Rattle.ckc_parser_grammar.proofs.Readings.{low_around}
use Rattle.ckc_parser.proofs.Assignments.{is_assignment}
use Rattle.ckc_parser_grammar.proofs.Ahead.{call_of}
use Rattle.ckc_parser.proofs.Blocks.{stuck_named}
use Rattle.ckc_parser_grammar.specs.StatementGrammar as g
use Rattle.ckc_parser_grammar.specs.StuckStatements as stuck
use Rattle.ckc_parser_grammar.proofs.Readings.{err}
use Rattle.ckc_parser.proofs.statements.named.Goals as goal

pub returns-in_err-target : goal.returns-in_err-target
returns-in_err-target c = rw (err _ _ c.from_residual.ensures.1) (stuck.named c.requires.deep c.requires.named (rw c.deeper.ensures at c.in_err-target.ensures.reads))

pub returns-in-Some : goal.returns-in-Some
returns-in-Some c =
    let call = rw c.in-Some.ensures.at at (call_of c.requires.named c.in_ok-target.ensures.reads.0 (rw c.deref.ensures at c.in-Some.ensures.call)) in
    rw (c.in_ok-boxed.ensures, c.join-span.ensures) (g.call call, low_around _ _ _ c.requires.deep (rw c.deeper.ensures at c.in_ok-target.ensures.reads.1))

pub returns-in_err-assignment : goal.returns-in_err-assignment
returns-in_err-assignment c =
    rw (err _ _ c.from_residual-in_err-assignment.ensures.1)
    (stuck_named c.requires.deep c.requires.named c.in_ok-target.ensures.reads.0 (rw c.deeper.ensures at c.in_ok-target.ensures.reads.1) (rw c.deref.ensures at c.in_default.ensures.1) (rw c.in_default.ensures.0 at c.in_err-assignment.ensures))

pub returns-in_err-end : goal.returns-in_err-end
returns-in_err-end c =
    let assigned = is_assignment c.in_ok-target.ensures.reads.0 (rw c.in_default.ensures.0 at c.in_ok-assignment.ensures.0) in
    rw (err _ _ c.from_residual-in_err-end.ensures.1, c.in_err-end.ensures.reason, c.in_err-end.ensures.left)
    (stuck.assign_end assigned c.in_ok-assignment.ensures.1 c.in_err-end.ensures.other)

pub returns : goal.returns
returns c =
    let assigned = rw c.in_ok-end.ensures at (is_assignment c.in_ok-target.ensures.reads.0 (rw c.in_default.ensures.0 at c.in_ok-assignment.ensures.0)) in
    rw (c.in_ok-boxed-2.ensures, c.join-span-2.ensures, c.span.ensures) (g.assign assigned, c.in_ok-assignment.ensures.1)

pub returns-in_err-boxed : goal.returns-in_err-boxed
returns-in_err-boxed c = rw (err _ _ c.from_residual-in_err-boxed.ensures.1) stuck.statement_no_room

pub returns-in_err-boxed-2 : goal.returns-in_err-boxed-2
returns-in_err-boxed-2 c = rw (err _ _ c.from_residual-in_err-boxed-2.ensures.1) stuck.statement_no_room
