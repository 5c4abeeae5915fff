use Rattle.std.proofs.Common.{sym, arith}
use Rattle.ckc_parser_grammar.specs.StatementGrammar as g
use Rattle.ckc_parser_grammar.specs.StuckStatements as stuck
use Rattle.ckc_parser_grammar.proofs.Readings.{err}
use Rattle.ckc_parser.proofs.statements.for_initial.Goals as goal

pub returns-in-Ok : goal.returns-in-Ok
returns-in-Ok c = rw c.in-Ok.ensures (g.nothing, omega arith)

pub returns-in_err-declaration : goal.returns-in_err-declaration
returns-in_err-declaration c = rw (err _ _ c.from_residual.ensures.1) (stuck.declares c.in_default.ensures.other (sym (rw c.in_default.ensures.left at c.if-next_starts_type.ensures)) (rw c.in_default.ensures.left at c.in_err-declaration.ensures))

pub returns-in_err-semicolon : goal.returns-in_err-semicolon
returns-in_err-semicolon c = rw (err _ _ c.from_residual-in_err-semicolon.ensures.1, c.in_err-semicolon.ensures.reason, c.in_err-semicolon.ensures.left) (stuck.declares_end (rw c.in_default.ensures.left at c.in_ok-declaration.ensures.0) c.in_ok-declaration.ensures.1 c.in_err-semicolon.ensures.other)

pub returns-then-next_starts_type : goal.returns-then-next_starts_type
returns-then-next_starts_type c =
    let declared = rw (c.in_ok-semicolon.ensures, c.in_default.ensures.left) at c.in_ok-declaration.ensures.0 in
    (g.declares declared, c.in_ok-declaration.ensures.1)

pub returns-in_err-assignment : goal.returns-in_err-assignment
returns-in_err-assignment c = rw (err _ _ c.from_residual-in_err-assignment.ensures.1) (stuck.assigns c.in_default.ensures.other (sym (rw c.in_default.ensures.left at c.if-next_starts_type.ensures)) (rw c.in_default.ensures.left at c.in_err-assignment.ensures))

pub returns-in_err-semicolon-2 : goal.returns-in_err-semicolon-2
returns-in_err-semicolon-2 c = rw (err _ _ c.from_residual-in_err-semicolon-2.ensures.1, c.in_err-semicolon-2.ensures.reason, c.in_err-semicolon-2.ensures.left) (stuck.assigns_end (rw c.in_default.ensures.left at c.in_ok-assignment.ensures.0) c.in_ok-assignment.ensures.1 c.in_err-semicolon-2.ensures.other)

pub returns : goal.returns
returns c =
    let assigned = rw (c.in_ok-semicolon-2.ensures, c.in_default.ensures.left) at c.in_ok-assignment.ensures.0 in
    (g.assigns assigned, c.in_ok-assignment.ensures.1)

pub declaration-requires-clause-typed : goal.declaration-requires-clause-typed
declaration-requires-clause-typed c = sym c.if-next_starts_type.ensures
