use Rattle.ckc_parser_grammar.specs.StatementGrammar as g
use Rattle.ckc_parser_grammar.specs.StuckStatements as stuck
use Rattle.ckc_parser_grammar.proofs.Readings.{err}
use Rattle.ckc_parser.proofs.statements.declared.Goals as goal

pub returns-in_err-declaration : goal.returns-in_err-declaration
returns-in_err-declaration c = rw (err _ _ c.from_residual.ensures.1) (stuck.declaration c.requires.typed c.in_err-declaration.ensures)

pub returns-in_err-end : goal.returns-in_err-end
returns-in_err-end c = rw (err _ _ c.from_residual-in_err-end.ensures.1, c.in_err-end.ensures.reason, c.in_err-end.ensures.left) (stuck.declare_end c.in_ok-declaration.ensures.0 c.in_ok-declaration.ensures.1 c.in_err-end.ensures.other)

pub returns : goal.returns
returns c =
    let declared = rw c.in_ok-end.ensures at c.in_ok-declaration.ensures.0 in
    rw (c.in_ok-boxed.ensures, c.join-span.ensures) (g.declare declared, c.in_ok-declaration.ensures.1)

pub returns-in_err-boxed : goal.returns-in_err-boxed
returns-in_err-boxed c = rw (err _ _ c.from_residual-in_err-boxed.ensures.1) stuck.statement_no_room
