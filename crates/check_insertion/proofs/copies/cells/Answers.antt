use Rattle.std.proofs.Common.{◌∷◌, map, refl, arith}
use Rattle.ckc_core.specs.Core.{initial}
use Rattle.check_insertion.proofs.Made.{made_more, made_all}
use Rattle.check_insertion.proofs.copies.cells.Goals as goal

pub loop-c-preserved : goal.loop-c-preserved
loop-c-preserved c =
    made_more initial (λ s ss. s ∷ ss) (map initial) initial (λ x rest. refl) c.args.cells.now c.loop-c.c-index c.c-item.result c.loop-c.copies.items c.push.new.self.items c.in_ok-cell.field-0
    (omega (arith, c.loop-c-test.true)) c.c-item.is c.in_ok-push.ensures.items c.in_ok-cell.ensures c.loop-c.invariant

pub returns : goal.returns
returns c = made_all initial (λ s ss. s ∷ ss) (map initial) (map initial) refl (λ y ys. refl) c.args.cells.now c.loop-c.c-index c.loop-c.copies.items (omega (arith, c.loop-c-test.false)) c.loop-c.invariant
