use Rattle.std.proofs.Common.{ap, sym, ◌∙◌}
use Rattle.pointer_modes.specs.Types.{ctype}
use Rattle.ckc_core.specs.Core.{expression}
use Rattle.region_typing_rules.specs.Verdicts.{Passes}
use Rattle.region_typing_scope.specs.OnHeap.{typed}
use Rattle.region_typing_scope.specs.Typed as inline
use Rattle.region_typing_scope.proofs.Going.{goes_on, refused}
use Rattle.region_typing_expressions.proofs.Leading.{dereferenced_parts, pointed_parts}
use Rattle.region_typing_expressions.proofs.places.pointed_at.Goals as goal

pub returns-in_err-base-in-Pointer : goal.returns-in_err-base-in-Pointer
returns-in_err-base-in-Pointer c =
    let is = ap ctype c.in-Pointer.is in
    let parts = pointed_parts c.in-Pointer.field-0 c.in-Pointer.kind (ctype c.in-Pointer.target.value) (expression c.in_ok-ctype.field-0.value.value) c.args.site c.args.span in
    rw (dereferenced_parts (typed c.args.t) c.args.site c.args.span)
    (goes_on _ c.in_ok-ctype.ensures (rw (is, parts) (refused _ c.from_residual-in_err-base-in-Pointer.result c.from_residual-in_err-base-in-Pointer.ensures.1 c.in_err-base-in-Pointer.ensures)))

pub returns-in_ok-boxed-in-Pointer : goal.returns-in_ok-boxed-in-Pointer
returns-in_ok-boxed-in-Pointer c =
    let is = ap ctype c.in-Pointer.is in
    let parts = pointed_parts c.in-Pointer.field-0 c.in-Pointer.kind (ctype c.in-Pointer.target.value) (expression c.in_ok-ctype.field-0.value.value) c.args.site c.args.span in
    let placed = rw c.into_inner.ensures at c.at_base.ensures in
    rw (dereferenced_parts (typed c.args.t) c.args.site c.args.span)
    (goes_on _ c.in_ok-ctype.ensures (rw (is, parts) (goes_on _ c.in_ok-base-in-Pointer.ensures (record { so = ap Passes (sym (ap inline.typed c.in_ok-boxed-in-Pointer.ensures ∙ placed)) }))))
