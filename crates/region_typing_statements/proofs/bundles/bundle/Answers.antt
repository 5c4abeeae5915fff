use Rattle.std.proofs.Common.{map, ◌∙◌}
use Rattle.ckc_text.specs.Places.{place_at}
use Rattle.ckc_tree.specs.Statements.{assignment}
use Rattle.ckc_core.specs.Core as core
use Rattle.ckc_core.specs.Core.{statements_of}
use Rattle.region_typing_rules.specs.Knowing.{settling}
use Rattle.region_typing_scope.specs.Views.{scope}
use Rattle.region_typing_scope.specs.OnHeap.{statement}
use Rattle.region_typing_statements.specs.Parts.{bundle_ended}
use Rattle.region_typing_statements.proofs.Walking.{from_more, other_flow, refused_walk, walks_on}
use Rattle.region_typing_statements.proofs.Testing.{walk_fails, walks_behind}
use Rattle.region_typing_statements.proofs.Settling.{settled_walk, settling_broken}
use Rattle.region_typing_statements.proofs.Unsettled.{all_locals, bundle_parts}
use Rattle.region_typing_statements.proofs.bundles.bundle.Goals as goal

pub returns-in_err-built : goal.returns-in_err-built
returns-in_err-built c =
    let at = place_at c.args.context.now in
    let written = map assignment c.args.written.now in
    let begun = c.begin_bundle.ensures in
    from_more statement _ _ c.args.scope.now c.begin_bundle.new.self c.assignments.new.scope c.from_residual.result
    (bundle_parts at (scope c.args.scope.now) (scope c.begin_bundle.new.self) written c.args.span begun.known)
    (other_flow _ _ _ c.args.scope.now c.begin_bundle.new.self begun.known begun.seen begun.size)
    (refused_walk (bundle_ended written c.args.span) c.from_residual.result c.from_residual.ensures.1 c.in_err-built.ensures)

pub returns-in_err-needs : goal.returns-in_err-needs
returns-in_err-needs c =
    let at = place_at c.args.context.now in
    let written = map assignment c.args.written.now in
    let begun = c.begin_bundle.ensures in
    let each = rw c.as_slice.ensures.value at c.are_locals-to_locals.ensures in
    let local = each ∙ all_locals (scope c.assignments.new.scope).visible c.args.written.now in
    from_more statement _ _ c.args.scope.now c.begin_bundle.new.self c.assignments.new.scope c.from_residual-in_err-needs.result
    (bundle_parts at (scope c.args.scope.now) (scope c.begin_bundle.new.self) written c.args.span begun.known)
    (other_flow _ _ _ c.args.scope.now c.begin_bundle.new.self begun.known begun.seen begun.size)
    (walks_on (bundle_ended written c.args.span) c.in_ok-built.ensures
    (walk_fails _ _ _ _ _ c.from_residual-in_err-needs.result local c.from_residual-in_err-needs.ensures.1 c.in_err-needs.ensures))

pub returns-in_err-end_bundle : goal.returns-in_err-end_bundle
returns-in_err-end_bundle c =
    let at = place_at c.args.context.now in
    let written = map assignment c.args.written.now in
    let begun = c.begin_bundle.ensures in
    let mid = c.assignments.new.scope in
    let each = rw c.as_slice.ensures.value at c.are_locals-to_locals.ensures in
    let local = each ∙ all_locals (scope c.assignments.new.scope).visible c.args.written.now in
    from_more statement _ _ c.args.scope.now c.begin_bundle.new.self c.end_bundle.new.self c.from_residual-in_err-end_bundle.result
    (bundle_parts at (scope c.args.scope.now) (scope c.begin_bundle.new.self) written c.args.span begun.known)
    (other_flow _ _ _ c.args.scope.now c.begin_bundle.new.self begun.known begun.seen begun.size)
    (walks_on (bundle_ended written c.args.span) c.in_ok-built.ensures
    (walks_behind _ _ _ _ _ local c.in_ok-needs.ensures
    (settling_broken mid c.end_bundle.new.self (core.Block (statements_of c.in_ok-built.built.items)) (settling (scope mid).flow c.args.span) c.from_residual-in_err-end_bundle.result c.from_residual-in_err-end_bundle.ensures.1 c.in_err-end_bundle.ensures.known)))

pub returns : goal.returns
returns c =
    let at = place_at c.args.context.now in
    let written = map assignment c.args.written.now in
    let begun = c.begin_bundle.ensures in
    let mid = c.assignments.new.scope in
    let each = rw c.as_slice.ensures.value at c.are_locals-to_locals.ensures in
    let local = each ∙ all_locals (scope c.assignments.new.scope).visible c.args.written.now in
    let ended = c.in_ok-end_bundle.ensures in
    from_more statement _ _ c.args.scope.now c.begin_bundle.new.self c.end_bundle.new.self _
    (bundle_parts at (scope c.args.scope.now) (scope c.begin_bundle.new.self) written c.args.span begun.known)
    (other_flow _ _ _ c.args.scope.now c.begin_bundle.new.self begun.known begun.seen begun.size)
    (walks_on (bundle_ended written c.args.span) c.in_ok-built.ensures
    (walks_behind _ _ _ _ _ local c.in_ok-needs.ensures
    (settled_walk mid c.end_bundle.new.self (core.Block (statements_of c.in_ok-built.built.items)) (settling (scope mid).flow c.args.span) c.in_ok-block.field-0 ended.known c.in_ok-block.ensures ended.seen ended.size)))
