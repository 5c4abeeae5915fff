use Rattle.std.proofs.Common.{length, ap, arith}
use Rattle.ckc_parser.proofs.Ahead.{no_comma_or_brace}
use Rattle.ckc_parser_grammar.proofs.Lists.{goes_on, ends}
use Rattle.ckc_parser_grammar.proofs.Paths.{shorter}
use Rattle.ckc_parser_grammar.proofs.StatementPaths.{signed_path}
use Rattle.ckc_parser_grammar.specs.StatementGrammar as g
use Rattle.ckc_parser_grammar.specs.StuckStatements as stuck
use Rattle.ckc_parser_grammar.proofs.Readings.{err}
use Rattle.ckc_parser.proofs.declarations.constants.Goals as goal

pub returns-in_err-item : goal.returns-in_err-item
returns-in_err-item c = rw (err _ _ c.from_residual.ensures.1) (c.constants.invariant.fails _ (stuck.first c.in_err-item.ensures))

pub returns-in_err-push : goal.returns-in_err-push
returns-in_err-push c = rw (err _ _ c.from_residual-in_err-push.ensures.1) stuck.no_room

pub returns-in-Ok : goal.returns-in-Ok
returns-in-Ok c = ends c.in_ok-item.item c.in_ok-push.ensures c.constants.invariant (g.one (rw c.in-Ok.ensures at c.in_ok-item.ensures))

pub returns-in_err-comma : goal.returns-in_err-comma
returns-in_err-comma c =
    rw (err _ _ c.from_residual-in_err-comma.ensures.1, c.in_err-comma.ensures.reason, c.in_err-comma.ensures.left, c.in_default.ensures.left)
    (c.constants.invariant.fails _ (stuck.end c.in_ok-item.ensures (no_comma_or_brace _ (rw c.in_default.ensures.left at c.in_err-comma.ensures.other) c.in_default.ensures.other)))

pub constants-smaller : goal.constants-smaller
constants-smaller c = omega (arith, shorter (signed_path c.in_ok-item.ensures), ap length c.in_default.ensures.left, ap length c.in_ok-comma.ensures)

pub constants-preserved : goal.constants-preserved
constants-preserved c =
    let item = rw (← c.in_default.ensures.left, c.in_ok-comma.ensures) at c.in_ok-item.ensures in
    goes_on c.in_ok-item.item c.in_ok-push.ensures c.constants.invariant (λ more w end d. g.more item d) (λ f d. stuck.others item d)
