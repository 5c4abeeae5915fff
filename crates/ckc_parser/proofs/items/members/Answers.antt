use Rattle.std.proofs.Common.{length, ap, arith}
use Rattle.ckc_parser_grammar.proofs.Paths.{low_beside}
use Rattle.ckc_parser.proofs.FileLevel.{member_shorter}
use Rattle.ckc_parser_grammar.proofs.Lists.{goes_on, ends}
use Rattle.ckc_parser_grammar.specs.ItemGrammar as g
use Rattle.ckc_parser_grammar.specs.StuckItems as stuck
use Rattle.ckc_parser_grammar.proofs.Readings.{err}
use Rattle.ckc_parser.proofs.items.members.Goals as goal

pub returns-in_err-item : goal.returns-in_err-item
returns-in_err-item c = rw (err _ _ c.from_residual.ensures.1) (c.members.invariant.fails _ (stuck.first c.in_err-item.ensures))

pub returns-in_err-end : goal.returns-in_err-end
returns-in_err-end c = rw (err _ _ c.from_residual-in_err-end.ensures.1, c.in_err-end.ensures.reason, c.in_err-end.ensures.left) (c.members.invariant.fails _ (stuck.end c.in_ok-item.ensures.0 c.in_ok-item.ensures.1 c.in_err-end.ensures.other))

pub returns-in_err-push : goal.returns-in_err-push
returns-in_err-push c = rw (err _ _ c.from_residual-in_err-push.ensures.1) stuck.no_room

pub returns-in-Ok : goal.returns-in-Ok
returns-in-Ok c =
    let item = rw (c.in_ok-end.ensures, c.in-Ok.ensures) at c.in_ok-item.ensures.0 in
    let grown = rw c.join-item.ensures at c.in_ok-push.ensures in
    ends {w = c.in_ok-end.end} _ grown c.members.invariant (g.one item, low_beside _ _ _ (low_beside _ _ _ c.in_ok-item.ensures.1.0 c.in_ok-item.ensures.1.1) (omega arith))

pub members-smaller : goal.members-smaller
members-smaller c = omega (arith, member_shorter c.in_ok-item.ensures.0, ap length c.in_ok-end.ensures, ap length c.in_default.ensures.left)

pub members-preserved : goal.members-preserved
members-preserved c =
    let item = rw (c.in_ok-end.ensures, ← c.in_default.ensures.left) at c.in_ok-item.ensures.0 in
    let grown = rw c.join-item.ensures at c.in_ok-push.ensures in
    goes_on _ grown c.members.invariant
    (λ more w end d. (g.more item d.0, low_beside _ _ _ (low_beside _ _ _ c.in_ok-item.ensures.1.0 c.in_ok-item.ensures.1.1) d.1))
    (λ f d. stuck.others item c.in_ok-item.ensures.1 (rw (← c.in_default.ensures.left) at c.in_default.ensures.other) d)
