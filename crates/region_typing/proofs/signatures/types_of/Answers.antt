use Rattle.std.proofs.Common.{map, refl, arith}
use Rattle.pointer_modes.specs.Types.{ctype}
use Rattle.region_typing_rules.specs.Items.{Parameter}
use Rattle.region_typing.specs.Parameters.{parameter}
use Rattle.region_typing.proofs.Lists.{made_more, made_all, item_pushed}
use Rattle.region_typing.proofs.signatures.types_of.Goals as goal

pub loop-p-preserved : goal.loop-p-preserved
loop-p-preserved c =
    let ps = c.args.parameters.now in
    record { so_far = made_more parameter (map (λ (p : Parameter). p.type)) (λ p ps. refl) ps c.loop-p.p-index c.p-item.result (map (λ (p : Parameter). p.type) (map parameter ps)) (map ctype c.loop-p.types.items) (map ctype c.push.new.self.items) (omega (arith, c.loop-p-test.true)) c.p-item.is (item_pushed ctype c.loop-p.types.items c.push.new.self.items c.in_ok-copied.field-0 (ctype c.p-item.result.ctype) c.in_ok-push.ensures.items c.in_ok-copied.ensures) c.loop-p.invariant.so_far }

pub returns : goal.returns
returns c =
    let ps = c.args.parameters.now in
    made_all parameter (map (λ (p : Parameter). p.type)) refl ps c.loop-p.p-index (map (λ (p : Parameter). p.type) (map parameter ps)) (map ctype c.loop-p.types.items) (omega (arith, c.loop-p-test.false)) c.loop-p.invariant.so_far
