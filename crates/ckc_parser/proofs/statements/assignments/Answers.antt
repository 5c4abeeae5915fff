use Rattle.std.proofs.Common.{length, ap, arith}
use Rattle.ckc_parser_grammar.proofs.Lists.{goes_on, ended}
use Rattle.ckc_parser_grammar.proofs.Paths.{low_beside, shorter}
use Rattle.ckc_parser_grammar.proofs.StatementPaths.{assignment_path}
use Rattle.ckc_parser_grammar.specs.StatementGrammar as g
use Rattle.ckc_parser_grammar.specs.StuckStatements as stuck
use Rattle.ckc_parser_grammar.proofs.Readings.{err}
use Rattle.ckc_parser.proofs.statements.assignments.Goals as goal

pub returns-in-Ok : goal.returns-in-Ok
returns-in-Ok c = ended c.assignments.invariant (rw c.in-Ok.ensures (g.none, omega arith))

pub returns-in_err-item : goal.returns-in_err-item
returns-in_err-item c = rw (err _ _ c.from_residual.ensures.1) (c.assignments.invariant.fails _ (stuck.first c.in_default.ensures.other (rw c.in_default.ensures.left at c.in_err-item.ensures)))

pub returns-in_err-semicolon : goal.returns-in_err-semicolon
returns-in_err-semicolon c =
    rw (err _ _ c.from_residual-in_err-semicolon.ensures.1, c.in_err-semicolon.ensures.reason, c.in_err-semicolon.ensures.left)
    (c.assignments.invariant.fails _ (stuck.end (rw c.in_default.ensures.left at c.in_ok-item.ensures.0) c.in_ok-item.ensures.1 c.in_err-semicolon.ensures.other))

pub returns-in_err-push : goal.returns-in_err-push
returns-in_err-push c = rw (err _ _ c.from_residual-in_err-push.ensures.1) stuck.no_room

pub assignments-smaller : goal.assignments-smaller
assignments-smaller c = omega (arith, ap length c.in_default.ensures.left, shorter (assignment_path c.in_ok-item.ensures.0), ap length c.in_ok-semicolon.ensures)

pub assignments-preserved : goal.assignments-preserved
assignments-preserved c =
    let item = rw (c.in_ok-semicolon.ensures, c.in_default.ensures.left) at c.in_ok-item.ensures.0 in
    goes_on c.in_ok-item.item c.in_ok-push.ensures c.assignments.invariant
    (λ more w end d. (g.more item d.0, low_beside _ _ _ c.in_ok-item.ensures.1 d.1))
    (λ f d. stuck.others item c.in_ok-item.ensures.1 d)
