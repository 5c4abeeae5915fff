use Rattle.std.proofs.Common.{◌≡◌, ◌+◌, ◌<◌, [], length, map, ap, ◌∙◌, arith}
use Rattle.ckc_tree.specs.Items as trees
use Rattle.region_typing_rules.specs.Items.{parameter_types}
use Rattle.region_typing_scope.specs.Views.{scope}
use Rattle.region_typing_scope.proofs.Going.{refused_by}
use Rattle.region_typing_scope.proofs.Steps.{part_more, part_breaks, parts_done}
use Rattle.region_typing.specs.Items.{one_parameter}
use Rattle.region_typing.specs.Parameters.{parameter}
use Rattle.region_typing.proofs.ItemSteps.{parameter_by_step}
use Rattle.region_typing.proofs.ParameterBounds.{member_bounds, over_more}
use Rattle.region_typing.proofs.parameters.parameter_types.Goals as goal

pub loop-parameter-preserved : goal.loop-parameter-preserved
loop-parameter-preserved c =
    let g = scope c.args.place.now.scope.now in
    let xs = c.args.all.now in
    let all = map trees.parameter xs in
    let k = c.loop-parameter.parameter-index in
    let x = c.parameter-item.result in
    let less : k < length xs = omega (arith, c.loop-parameter-test.true) in
    record {
      so_far = λ placed. part_more (parameter_types g all) (one_parameter g all) (parameter_by_step g all) trees.parameter xs k x (parameter_types g all all []) (map parameter c.loop-parameter.parameters.items) (map parameter c.push_parameter.new.parameters.items) less c.parameter-item.is (c.loop-parameter.invariant.so_far placed)
          (c.in_ok-push_parameter.ensures.types all (λ some. placed (member_bounds trees.parameter xs k x less c.parameter-item.is some))).so;
      few = c.in_ok-push_parameter.ensures.few;
      counted = c.in_ok-push_parameter.ensures.more ∙ ap (λ n. n + 1) c.loop-parameter.invariant.counted;
      below = c.in_ok-push_parameter.ensures.below (length xs) c.requires c.loop-parameter.invariant.below;
    }

pub returns-in_err-push_parameter-clause-types : goal.returns-in_err-push_parameter-clause-types
returns-in_err-push_parameter-clause-types c placed =
    let g = scope c.args.place.now.scope.now in
    let xs = c.args.all.now in
    let all = map trees.parameter xs in
    let k = c.loop-parameter.parameter-index in
    let x = c.parameter-item.result in
    let less : k < length xs = omega (arith, c.loop-parameter-test.true) in
    refused_by c.from_residual.result c.from_residual.ensures.1
    (λ stop breaks. part_breaks (parameter_types g all) (one_parameter g all) (parameter_by_step g all) trees.parameter xs k x (parameter_types g all all []) (map parameter c.loop-parameter.parameters.items) stop less c.parameter-item.is (c.loop-parameter.invariant.so_far placed) breaks)
    (c.in_err-push_parameter.ensures.types all (λ some. placed (member_bounds trees.parameter xs k x less c.parameter-item.is some)))

pub returns-clause-types : goal.returns-clause-types
returns-clause-types c placed =
    let g = scope c.args.place.now.scope.now in
    let xs = c.args.all.now in
    let all = map trees.parameter xs in
    record { so = parts_done (parameter_types g all) (one_parameter g all) (parameter_by_step g all) trees.parameter xs c.loop-parameter.parameter-index (parameter_types g all all []) (map parameter c.loop-parameter.parameters.items) (omega (arith, c.loop-parameter-test.false)) (c.loop-parameter.invariant.so_far placed) }

pub returns-clause-each : goal.returns-clause-each
returns-clause-each c =
    let end : c.loop-parameter.parameter-index ≡ length c.args.all.now = omega (arith, c.loop-parameter-test.false, c.loop-parameter.auto.parameter-index-end) in
    c.loop-parameter.invariant.counted ∙ end

pub returns-clause-below : goal.returns-clause-below
returns-clause-below c =
    let end : c.loop-parameter.parameter-index ≡ length c.args.all.now = omega (arith, c.loop-parameter-test.false, c.loop-parameter.auto.parameter-index-end) in
    over_more (length c.args.all.now) (length c.loop-parameter.parameters.items) c.loop-parameter.parameters.items (omega (arith, end, c.loop-parameter.invariant.counted)) c.loop-parameter.invariant.below
