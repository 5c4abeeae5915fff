use Rattle.std.proofs.Common.{◌∷◌, map, refl, arith}
use Rattle.pointer_modes.specs.Types.{ctype}
use Rattle.check_insertion.proofs.Made.{made_more, made_all}
use Rattle.check_insertion.proofs.copies.types.Goals as goal

pub loop-t-preserved : goal.loop-t-preserved
loop-t-preserved c =
    made_more ctype (λ s ss. s ∷ ss) (map ctype) ctype (λ x rest. refl) c.args.types.now c.loop-t.t-index c.t-item.result c.loop-t.copies.items c.push.new.self.items c.in_ok-copy.field-0
    (omega (arith, c.loop-t-test.true)) c.t-item.is c.in_ok-push.ensures.items c.in_ok-copy.ensures c.loop-t.invariant

pub returns : goal.returns
returns c = made_all ctype (λ s ss. s ∷ ss) (map ctype) (map ctype) refl (λ y ys. refl) c.args.types.now c.loop-t.t-index c.loop-t.copies.items (omega (arith, c.loop-t-test.false)) c.loop-t.invariant
