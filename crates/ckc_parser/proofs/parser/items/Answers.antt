use Rattle.std.proofs.Common.{arith}
use Rattle.ckc_parser_grammar.specs.Parsing.{point}
use Rattle.ckc_parser_grammar.proofs.Paths.{low_beside}
use Rattle.ckc_parser.proofs.FileLevel.{stuck_first, item_shorter, none_left}
use Rattle.ckc_parser_grammar.proofs.Lists.{goes_on}
use Rattle.ckc_parser_grammar.specs.ItemGrammar as g
use Rattle.ckc_parser_grammar.specs.StuckItems as stuck
use Rattle.ckc_parser_grammar.proofs.Readings.{err}
use Rattle.ckc_parser.proofs.parser.items.Goals as goal

pub returns : goal.returns
returns c = none_left _ (point 0) c.items.invariant c.in_default.ensures.cases

pub returns-in_err-item : goal.returns-in_err-item
returns-in_err-item c = rw (err _ _ c.from_residual.ensures.1) (c.items.invariant.fails _ (stuck_first c.in-Some.ensures.cases.0 c.in_err-item.ensures))

pub returns-in_err-push : goal.returns-in_err-push
returns-in_err-push c = rw (err _ _ c.from_residual-in_err-push.ensures.1) stuck.no_room

pub items-smaller : goal.items-smaller
items-smaller c = omega (arith, item_shorter c.in_ok-item.ensures.0)

pub items-preserved : goal.items-preserved
items-preserved c =
    goes_on _ c.in_ok-push.ensures c.items.invariant
    (λ more w end d. (g.more c.in_ok-item.ensures.0 d.0, low_beside _ _ _ c.in_ok-item.ensures.1 d.1))
    (λ f d. stuck.others c.in_ok-item.ensures.0 c.in_ok-item.ensures.1 d)
