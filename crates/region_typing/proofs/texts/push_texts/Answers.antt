use Rattle.std.proofs.Common.{◌++◌, map, refl, arith}
use Rattle.ckc_tree.specs.Texts.{text}
use Rattle.ckc_core.specs.Core.{object}
use Rattle.region_typing_rules.specs.Strings.{text_object}
use Rattle.region_typing.proofs.Lists.{made_more, made_all}
use Rattle.region_typing.proofs.texts.push_texts.Goals as goal

pub loop-t-preserved : goal.loop-t-preserved
loop-t-preserved c =
    let all = map object c.args.objects.now.items ++ map text_object (map text c.args.texts.now) in
    record { so_far = made_more text (map text_object) (λ s ss. refl) c.args.texts.now c.loop-t.t-index c.t-item.result all (map object c.loop-t.objects.items) (map object c.push_text.new.objects.items) (omega (arith, c.loop-t-test.true)) c.t-item.is c.in_ok-push_text.ensures c.loop-t.invariant.so_far }

pub returns : goal.returns
returns c =
    let all = map object c.args.objects.now.items ++ map text_object (map text c.args.texts.now) in
    made_all text (map text_object) refl c.args.texts.now c.loop-t.t-index all (map object c.loop-t.objects.items) (omega (arith, c.loop-t-test.false)) c.loop-t.invariant.so_far
