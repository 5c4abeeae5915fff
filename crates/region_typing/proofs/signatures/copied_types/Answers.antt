use Rattle.std.proofs.Common.{map, refl, arith}
use Rattle.pointer_modes.specs.Types.{ctype}
use Rattle.region_typing.proofs.Lists.{made_more, made_all, item_pushed}
use Rattle.region_typing.proofs.signatures.copied_types.Goals as goal

pub loop-t-preserved : goal.loop-t-preserved
loop-t-preserved c =
    let types = c.args.types.now in
    record { so_far = made_more ctype (λ ts. ts) (λ t ts. refl) types c.loop-t.t-index c.t-item.result (map ctype types) (map ctype c.loop-t.copies.items) (map ctype c.push.new.self.items) (omega (arith, c.loop-t-test.true)) c.t-item.is (item_pushed ctype c.loop-t.copies.items c.push.new.self.items c.in_ok-copied.field-0 (ctype c.t-item.result) c.in_ok-push.ensures.items c.in_ok-copied.ensures) c.loop-t.invariant.so_far }

pub returns : goal.returns
returns c = made_all ctype (λ ts. ts) refl c.args.types.now c.loop-t.t-index (map ctype c.args.types.now) (map ctype c.loop-t.copies.items) (omega (arith, c.loop-t-test.false)) c.loop-t.invariant.so_far
