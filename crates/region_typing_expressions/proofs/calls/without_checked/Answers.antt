use Rattle.std.proofs.Common.{◌<◌, length, map, arith}
use Rattle.region_typing_expressions.specs.Calls.{argument}
use Rattle.region_typing_scope.proofs.Going.{refused_by}
use Rattle.region_typing_scope.proofs.Steps.{part_more, part_breaks, parts_done}
use Rattle.region_typing_expressions.proofs.Crossing.{all_cross, one_crosses, cross_by_step}
use Rattle.region_typing_expressions.proofs.calls.without_checked.Goals as goal

pub loop-argument-preserved : goal.loop-argument-preserved
loop-argument-preserved c =
    let kept = rw (c.is_checked_argument.ensures, c.deref.ensures) at c.in_ok-needs.ensures in
    record {
      so_far = part_more all_cross one_crosses cross_by_step argument c.args.arguments.now c.loop-argument.argument-index c.argument-item.result (all_cross (map argument c.args.arguments.now) tt) tt tt (omega (arith, c.loop-argument-test.true)) c.argument-item.is c.loop-argument.invariant.so_far kept.so;
    }

pub returns-in_err-needs : goal.returns-in_err-needs
returns-in_err-needs c =
    let broken = rw (c.is_checked_argument.ensures, c.deref.ensures) at c.in_err-needs.ensures in
    let less : c.loop-argument.argument-index < length c.args.arguments.now = omega (arith, c.loop-argument-test.true) in
    refused_by c.from_residual.result c.from_residual.ensures.1
    (λ stop breaks. part_breaks all_cross one_crosses cross_by_step argument c.args.arguments.now c.loop-argument.argument-index c.argument-item.result (all_cross (map argument c.args.arguments.now) tt) tt stop less c.argument-item.is c.loop-argument.invariant.so_far breaks)
    broken

pub returns : goal.returns
returns c =
    record { so = parts_done all_cross one_crosses cross_by_step argument c.args.arguments.now c.loop-argument.argument-index (all_cross (map argument c.args.arguments.now) tt) tt (omega (arith, c.loop-argument-test.false)) c.loop-argument.invariant.so_far }
