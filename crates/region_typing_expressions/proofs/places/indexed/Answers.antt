use Rattle.region_typing_scope.specs.OnHeap.{typed}
use Rattle.region_typing_scope.proofs.Going.{goes_on, refused}
use Rattle.region_typing_expressions.proofs.Comparing.{indexed_parts}
use Rattle.region_typing_expressions.proofs.places.indexed.Goals as goal

pub returns-in_err-needs : goal.returns-in_err-needs
returns-in_err-needs c =
    let unfit = rw (c.are_indexed.ensures, c.deref.ensures, c.deref-2.ensures) at c.in_err-needs.ensures in
    rw (indexed_parts (typed c.args.left) (typed c.args.right) c.args.site c.args.span) (refused _ c.from_residual.result c.from_residual.ensures.1 unfit)

pub returns-in_err-pointer : goal.returns-in_err-pointer
returns-in_err-pointer c =
    let fits = rw (c.are_indexed.ensures, c.deref.ensures, c.deref-2.ensures) at c.in_ok-needs.ensures in
    rw (indexed_parts (typed c.args.left) (typed c.args.right) c.args.site c.args.span)
    (goes_on _ fits (refused _ c.from_residual-in_err-pointer.result c.from_residual-in_err-pointer.ensures.1 c.in_err-pointer.ensures))

pub returns-in_err-number : goal.returns-in_err-number
returns-in_err-number c =
    let fits = rw (c.are_indexed.ensures, c.deref.ensures, c.deref-2.ensures) at c.in_ok-needs.ensures in
    rw (indexed_parts (typed c.args.left) (typed c.args.right) c.args.site c.args.span)
    (goes_on _ fits (goes_on _ c.in_ok-pointer.ensures (refused _ c.from_residual-in_err-number.result c.from_residual-in_err-number.ensures.1 c.in_err-number.ensures)))

pub returns : goal.returns
returns c =
    let fits = rw (c.are_indexed.ensures, c.deref.ensures, c.deref-2.ensures) at c.in_ok-needs.ensures in
    rw (indexed_parts (typed c.args.left) (typed c.args.right) c.args.site c.args.span)
    (goes_on _ fits (goes_on _ c.in_ok-pointer.ensures (goes_on _ c.in_ok-number.ensures c.element_at.ensures)))
