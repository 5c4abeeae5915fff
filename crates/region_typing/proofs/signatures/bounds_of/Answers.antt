use Rattle.std.proofs.Common.{map, refl, arith}
use Rattle.region_typing_rules.specs.Items.{Parameter}
use Rattle.region_typing.specs.Parameters.{parameter}
use Rattle.region_typing.proofs.Lists.{made_more, made_all}
use Rattle.region_typing.proofs.signatures.bounds_of.Goals as goal

pub loop-p-preserved : goal.loop-p-preserved
loop-p-preserved c =
    let ps = c.args.parameters.now in
    record { so_far = made_more parameter (map (λ (p : Parameter). p.bounds)) (λ p ps. refl) ps c.loop-p.p-index c.p-item.result (map (λ (p : Parameter). p.bounds) (map parameter ps)) c.loop-p.bounds.items c.push.new.self.items (omega (arith, c.loop-p-test.true)) c.p-item.is c.in_ok-push.ensures.items c.loop-p.invariant.so_far }

pub returns : goal.returns
returns c =
    let ps = c.args.parameters.now in
    made_all parameter (map (λ (p : Parameter). p.bounds)) refl ps c.loop-p.p-index (map (λ (p : Parameter). p.bounds) (map parameter ps)) c.loop-p.bounds.items (omega (arith, c.loop-p-test.false)) c.loop-p.invariant.so_far
