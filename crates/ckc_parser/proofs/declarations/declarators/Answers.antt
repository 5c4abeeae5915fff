use Rattle.std.proofs.Common.{length, ap, arith}
use Rattle.ckc_parser_grammar.proofs.Lists.{goes_on, ends}
use Rattle.ckc_parser_grammar.proofs.Paths.{low_beside, shorter}
use Rattle.ckc_parser_grammar.proofs.StatementPaths.{declarator_path}
use Rattle.ckc_parser_grammar.specs.StatementGrammar as g
use Rattle.ckc_parser_grammar.specs.StuckStatements as stuck
use Rattle.ckc_parser_grammar.proofs.Readings.{err}
use Rattle.ckc_parser.proofs.declarations.declarators.Goals as goal

pub returns-in_err-item : goal.returns-in_err-item
returns-in_err-item c = rw (err _ _ c.from_residual.ensures.1) (c.declarators.invariant.fails _ (stuck.first c.in_err-item.ensures))

pub returns-in_err-push : goal.returns-in_err-push
returns-in_err-push c = rw (err _ _ c.from_residual-in_err-push.ensures.1) stuck.no_room

pub returns-in_default : goal.returns-in_default
returns-in_default c = rw c.in_default.ensures.left
    (ends c.in_ok-item.item c.in_ok-push.ensures c.declarators.invariant (g.one c.in_ok-item.ensures.0 c.in_default.ensures.other, low_beside _ _ _ c.in_ok-item.ensures.1 (omega arith)))

pub declarators-smaller : goal.declarators-smaller
declarators-smaller c = omega (arith, shorter (declarator_path c.in_ok-item.ensures.0), ap length c.in-Ok.ensures)

pub declarators-preserved : goal.declarators-preserved
declarators-preserved c =
    let item = rw c.in-Ok.ensures at c.in_ok-item.ensures.0 in
    goes_on c.in_ok-item.item c.in_ok-push.ensures c.declarators.invariant
    (λ more w end d. (g.more item d.0, low_beside _ _ _ c.in_ok-item.ensures.1 d.1))
    (λ f d. stuck.others item c.in_ok-item.ensures.1 d)
