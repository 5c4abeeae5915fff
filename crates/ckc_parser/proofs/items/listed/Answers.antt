use Rattle.std.proofs.Common.{length, ap, arith}
use Rattle.ckc_parser_grammar.proofs.Paths.{low_beside}
use Rattle.ckc_parser.proofs.FileLevel.{low_parameter, member_shorter, no_comma_or_paren}
use Rattle.ckc_parser_grammar.proofs.Lists.{goes_on, ends}
use Rattle.ckc_parser_grammar.specs.ItemGrammar as g
use Rattle.ckc_parser_grammar.specs.StuckItems as stuck
use Rattle.ckc_parser_grammar.proofs.Readings.{err}
use Rattle.ckc_parser.proofs.items.listed.Goals as goal

pub returns-in_err-item : goal.returns-in_err-item
returns-in_err-item c = rw (err _ _ c.from_residual.ensures.1) (c.listed.invariant.fails _ (stuck.first c.in_err-item.ensures))

pub returns-in_err-push : goal.returns-in_err-push
returns-in_err-push c = rw (err _ _ c.from_residual-in_err-push.ensures.1) stuck.no_room

pub returns-in-Ok : goal.returns-in-Ok
returns-in-Ok c =
    let item = rw c.in-Ok.ensures at c.in_ok-item.ensures.0 in
    ends _ c.in_ok-push.ensures c.listed.invariant (rw c.parameter.ensures (g.one item), low_beside _ _ _ (low_parameter _ _ c.parameter.ensures c.in_ok-item.ensures.1) (omega arith))

pub returns-in_err-comma : goal.returns-in_err-comma
returns-in_err-comma c =
    rw (err _ _ c.from_residual-in_err-comma.ensures.1, c.in_err-comma.ensures.reason, c.in_err-comma.ensures.left, c.in_default.ensures.left)
    (c.listed.invariant.fails _ (stuck.end c.in_ok-item.ensures.0 c.in_ok-item.ensures.1 (no_comma_or_paren _ (rw c.in_default.ensures.left at c.in_err-comma.ensures.other) c.in_default.ensures.other)))

pub listed-smaller : goal.listed-smaller
listed-smaller c = omega (arith, member_shorter c.in_ok-item.ensures.0, ap length c.in_default.ensures.left, ap length c.in_ok-comma.ensures)

pub listed-preserved : goal.listed-preserved
listed-preserved c =
    let item = rw (← c.in_default.ensures.left, c.in_ok-comma.ensures) at c.in_ok-item.ensures.0 in
    goes_on _ c.in_ok-push.ensures c.listed.invariant
    (λ more w end d. (rw c.parameter.ensures (g.more item d.0), low_beside _ _ _ (low_parameter _ _ c.parameter.ensures c.in_ok-item.ensures.1) d.1))
    (λ f d. stuck.others item c.in_ok-item.ensures.1 d)
