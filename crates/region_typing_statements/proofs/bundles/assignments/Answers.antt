use Rattle.std.proofs.Common.{◌<◌, map, length, arith}
use Rattle.ckc_text.specs.Places.{place_at}
use Rattle.ckc_tree.specs.Statements.{assignment}
use Rattle.region_typing_scope.specs.Views.{scope}
use Rattle.region_typing_statements.specs.Parts.{unsettled}
use Rattle.region_typing_statements.proofs.Sequences.{behind_empty}
use Rattle.region_typing_statements.proofs.Walking.{grown, none_more, refused_by}
use Rattle.region_typing_statements.proofs.Unsettled.{assignment_more, assignment_breaks, assignments_done}
use Rattle.region_typing_statements.proofs.bundles.assignments.Goals as goal

pub loop-listed-init : goal.loop-listed-init
loop-listed-init c = record { so_far = behind_empty c.new-built.result.items _ c.new-built.ensures.items; more = none_more c.args.scope.now }

pub returns-in_err-next : goal.returns-in_err-next
returns-in_err-next c =
    let at = place_at c.args.context.now in
    let xs = c.args.written.now in
    let less : c.loop-listed.listed-index < length xs = omega (arith, c.loop-listed-test.true) in
    refused_by c.from_residual.result c.from_residual.ensures.1
    (λ stop breaks. assignment_breaks at (unsettled at (scope c.args.scope.now) (map assignment xs)) xs c.loop-listed.listed-index c.listed-item.result (scope c.loop-listed.scope) c.loop-listed.built.items stop less c.listed-item.is c.loop-listed.invariant.so_far breaks)
    c.in_err-next.ensures

pub loop-listed-preserved : goal.loop-listed-preserved
loop-listed-preserved c =
    let at = place_at c.args.context.now in
    let xs = c.args.written.now in
    record {
      so_far = assignment_more at (unsettled at (scope c.args.scope.now) (map assignment xs)) xs c.loop-listed.listed-index c.listed-item.result (scope c.loop-listed.scope) (scope c.unsettled_assignment.new.scope) c.loop-listed.built.items c.push.new.statements.items c.in_ok-next.next.value c.in_ok-push.ensures (omega (arith, c.loop-listed-test.true)) c.listed-item.is c.loop-listed.invariant.so_far c.in_ok-next.ensures.so.0;
      more = grown c.loop-listed.invariant.more c.in_ok-next.ensures.so.1;
    }

pub returns : goal.returns
returns c =
    let at = place_at c.args.context.now in
    record { so = (assignments_done at (unsettled at (scope c.args.scope.now) (map assignment c.args.written.now)) c.args.written.now c.loop-listed.listed-index (scope c.loop-listed.scope) c.loop-listed.built.items (omega (arith, c.loop-listed-test.false)) c.loop-listed.invariant.so_far, c.loop-listed.invariant.more) }
