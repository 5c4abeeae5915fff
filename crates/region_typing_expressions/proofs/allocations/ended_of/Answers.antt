use Rattle.ckc_text.specs.Places.{place_at}
use Rattle.ckc_tree.specs.Expressions.{expression}
use Rattle.pointer_modes.specs.Types.{ctype}
use Rattle.ckc_core.specs.declared.program.Terminator.TheVariants.{Behind}
use Rattle.region_typing_rules.specs.Operands.{site_at}
use Rattle.region_typing_rules.specs.Readings.{term}
use Rattle.region_typing_rules.specs.NewMemory.{ended_allocation}
use Rattle.region_typing_scope.specs.OnHeap.{typed}
use Rattle.region_typing_scope.specs.Views.{scope}
use Rattle.region_typing_scope.proofs.Going.{goes_on, refused}
use Rattle.region_typing_expressions.proofs.Elements.{counted_then}
use Rattle.region_typing_expressions.proofs.allocations.ended_of.Goals as goal

pub returns-in_err-count : goal.returns-in_err-count
returns-in_err-count c =
    let s = scope c.args.scope.now in
    let t = ctype c.args.t in
    rw (counted_then s t (typed c.args.count) (expression c.args.size.now) c.args.span (λ count. ended_allocation s t count Behind (term s.locals count) (site_at (place_at c.args.context.now) c.args.span) c.args.span))
    (refused _ c.from_residual.result c.from_residual.ensures.1 c.in_err-count.ensures)

pub returns : goal.returns
returns c =
    let s = scope c.args.scope.now in
    let t = ctype c.args.t in
    let made = rw (c.term-before.ensures, c.as_slice.ensures.value, c.deref.ensures) at c.ended_allocation.ensures in
    rw (counted_then s t (typed c.args.count) (expression c.args.size.now) c.args.span (λ count. ended_allocation s t count Behind (term s.locals count) (site_at (place_at c.args.context.now) c.args.span) c.args.span))
    (goes_on _ c.in_ok-count.ensures made)
