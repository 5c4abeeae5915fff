use Rattle.std.proofs.Common.{◌<◌, [], length, map, arith}
use Rattle.ckc_text.specs.Places.{place_at}
use Rattle.ckc_tree.specs.Types.{type_tree}
use Rattle.ckc_tree.specs.Statements.{declarator}
use Rattle.pointer_modes.specs.Types.{ctype}
use Rattle.region_typing_scope.proofs.Going.{refused_by}
use Rattle.region_typing.specs.Items.{walk, judged_variable, judged_variables}
use Rattle.region_typing_scope.proofs.Steps.{part_more, part_breaks, parts_done}
use Rattle.region_typing.proofs.ItemSteps.{variable_step, variable_by_step, variable_passes, variable_breaks}
use Rattle.region_typing.proofs.globals.variables.Goals as goal

pub loop-d-preserved : goal.loop-d-preserved
loop-d-preserved c =
    let at = place_at c.args.context.now in
    let base = type_tree c.args.base.now in
    let t = ctype c.args.t.now in
    let s = c.args.span in
    record {
      so_far = part_more (judged_variables at base t s) (variable_step at base t s) (variable_by_step at base t s) declarator c.args.ds.now c.loop-d.d-index c.d-item.result (judged_variables at base t s (map declarator c.args.ds.now) (walk c.args.walk.now, [])) (walk c.loop-d.walk, map (judged_variable t) c.loop-d.walked.items) (walk c.variable.new.walk, map (judged_variable t) c.push.new.self.items) (omega (arith, c.loop-d-test.true)) c.d-item.is c.loop-d.invariant.so_far
          (variable_passes at base t s (declarator c.d-item.result) (walk c.loop-d.walk) (walk c.variable.new.walk) c.loop-d.walked.items c.push.new.self.items c.in_ok-next.next c.in_ok-push.ensures.items c.in_ok-next.ensures.so);
    }

pub returns-in_err-next : goal.returns-in_err-next
returns-in_err-next c =
    let at = place_at c.args.context.now in
    let base = type_tree c.args.base.now in
    let t = ctype c.args.t.now in
    let s = c.args.span in
    let less : c.loop-d.d-index < length c.args.ds.now = omega (arith, c.loop-d-test.true) in
    refused_by c.from_residual.result c.from_residual.ensures.1
    (λ stop breaks. part_breaks (judged_variables at base t s) (variable_step at base t s) (variable_by_step at base t s) declarator c.args.ds.now c.loop-d.d-index c.d-item.result (judged_variables at base t s (map declarator c.args.ds.now) (walk c.args.walk.now, [])) (walk c.loop-d.walk, map (judged_variable t) c.loop-d.walked.items) stop less c.d-item.is c.loop-d.invariant.so_far
    (variable_breaks at base t s (declarator c.d-item.result) (walk c.loop-d.walk) (map (judged_variable t) c.loop-d.walked.items) stop breaks))
    c.in_err-next.ensures

pub returns : goal.returns
returns c =
    let at = place_at c.args.context.now in
    let base = type_tree c.args.base.now in
    let t = ctype c.args.t.now in
    let s = c.args.span in
    record { so = parts_done (judged_variables at base t s) (variable_step at base t s) (variable_by_step at base t s) declarator c.args.ds.now c.loop-d.d-index (judged_variables at base t s (map declarator c.args.ds.now) (walk c.args.walk.now, [])) (walk c.loop-d.walk, map (judged_variable t) c.loop-d.walked.items) (omega (arith, c.loop-d-test.false)) c.loop-d.invariant.so_far }
