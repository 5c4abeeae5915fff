use Rattle.std.proofs.Common.{◌<◌, length, map, refl, arith}
use Rattle.pointer_modes.specs.Types.{ctype}
use Rattle.region_typing_scope.proofs.Going.{refused_by}
use Rattle.region_typing.specs.Items.{walk, judged_variable, one_object, judged_objects}
use Rattle.region_typing_scope.proofs.Steps.{part_more, part_breaks, parts_done}
use Rattle.region_typing.proofs.globals.objects.Goals as goal

pub loop-v-preserved : goal.loop-v-preserved
loop-v-preserved c =
    let s = c.args.span in
    let less : c.loop-v.v-index < length c.args.vs.now = omega (arith, c.loop-v-test.true) in
    record {
      so_far = part_more (judged_objects s) (one_object s) (λ v vs w. refl) (judged_variable (ctype c.args.t.now)) c.args.vs.now c.loop-v.v-index c.v-item.result (judged_objects s (map (judged_variable (ctype c.args.t.now)) c.args.vs.now) (walk c.args.walk.now)) (walk c.loop-v.walk) (walk c.object.new.walk) less c.v-item.is c.loop-v.invariant.so_far c.in_ok-object.ensures.so;
    }

pub returns-in_err-object : goal.returns-in_err-object
returns-in_err-object c =
    let s = c.args.span in
    let less : c.loop-v.v-index < length c.args.vs.now = omega (arith, c.loop-v-test.true) in
    refused_by c.from_residual.result c.from_residual.ensures.1
    (λ stop breaks. part_breaks (judged_objects s) (one_object s) (λ v vs w. refl) (judged_variable (ctype c.args.t.now)) c.args.vs.now c.loop-v.v-index c.v-item.result (judged_objects s (map (judged_variable (ctype c.args.t.now)) c.args.vs.now) (walk c.args.walk.now)) (walk c.loop-v.walk) stop less c.v-item.is c.loop-v.invariant.so_far breaks)
    c.in_err-object.ensures

pub returns : goal.returns
returns c =
    let s = c.args.span in
    record { so = parts_done (judged_objects s) (one_object s) (λ v vs w. refl) (judged_variable (ctype c.args.t.now)) c.args.vs.now c.loop-v.v-index (judged_objects s (map (judged_variable (ctype c.args.t.now)) c.args.vs.now) (walk c.args.walk.now)) (walk c.loop-v.walk) (omega (arith, c.loop-v-test.false)) c.loop-v.invariant.so_far }
