use Rattle.ckc_tree.specs.Expressions.{expression}
use Rattle.std.proofs.Common.{refl}
use Rattle.pointer_modes.specs.Types.{ctype}
use Rattle.region_typing_scope.specs.OnHeap.{typed}
use Rattle.region_typing_scope.specs.Views.{scope}
use Rattle.region_typing_scope.proofs.Going.{goes_on, refused}
use Rattle.region_typing_expressions.proofs.Elements.{counted_parts}
use Rattle.region_typing_expressions.proofs.allocations.counted.Goals as goal

pub returns-in_err-count : goal.returns-in_err-count
returns-in_err-count c =
    rw (counted_parts (scope c.args.scope.now) (ctype c.args.t.now) (typed c.args.count) (expression c.args.size.now) c.args.span)
    (refused _ c.from_residual.result c.from_residual.ensures.1 c.in_err-count.ensures)

pub returns-in_err-needs : goal.returns-in_err-needs
returns-in_err-needs c =
    let unsized = rw c.in_ok-is_size.ensures at c.in_err-needs.ensures in
    rw (counted_parts (scope c.args.scope.now) (ctype c.args.t.now) (typed c.args.count) (expression c.args.size.now) c.args.span)
    (goes_on _ c.in_ok-count.ensures (refused _ c.from_residual-in_err-needs.result c.from_residual-in_err-needs.ensures.1 unsized))

pub returns : goal.returns
returns c =
    let sized = rw c.in_ok-is_size.ensures at c.in_ok-needs.ensures in
    rw (counted_parts (scope c.args.scope.now) (ctype c.args.t.now) (typed c.args.count) (expression c.args.size.now) c.args.span)
    (goes_on _ c.in_ok-count.ensures (goes_on _ sized (record { so = refl })))
