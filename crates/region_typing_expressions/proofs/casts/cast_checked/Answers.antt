use Rattle.std.proofs.Common.{ap, sym}
use Rattle.ckc_text.specs.Places.{place_at}
use Rattle.pointer_modes.specs.Types.{ctype}
use Rattle.region_typing_rules.specs.Verdicts.{Passes}
use Rattle.region_typing_rules.specs.Operands.{site_at}
use Rattle.region_typing_scope.specs.OnHeap.{typed}
use Rattle.region_typing_scope.specs.Views.{scope}
use Rattle.region_typing_scope.proofs.Going.{goes_on, refused}
use Rattle.region_typing_expressions.proofs.CastParts.{cast_parts}
use Rattle.region_typing_expressions.proofs.casts.cast_checked.Goals as goal

pub returns-in_err-ctype : goal.returns-in_err-ctype
returns-in_err-ctype c =
    rw (cast_parts (scope c.args.scope.now) (ctype c.args.to) (typed c.args.t) c.args.written (site_at (place_at c.args.context.now) c.args.span) c.args.span)
    (refused _ c.from_residual.result c.from_residual.ensures.1 c.in_err-ctype.ensures)

pub returns-in_err-needs : goal.returns-in_err-needs
returns-in_err-needs c =
    let unlike = rw (c.is_like.ensures) at c.in_err-needs.ensures in
    rw (cast_parts (scope c.args.scope.now) (ctype c.args.to) (typed c.args.t) c.args.written (site_at (place_at c.args.context.now) c.args.span) c.args.span)
    (goes_on _ c.in_ok-ctype.ensures (refused _ c.from_residual-in_err-needs.result c.from_residual-in_err-needs.ensures.1 unlike))

pub returns-in_err-needs-2 : goal.returns-in_err-needs-2
returns-in_err-needs-2 c =
    let like = rw (c.is_like.ensures) at c.in_ok-needs.ensures in
    let broken = rw (c.is_bounded.ensures, c.deref.ensures, c.bounds_in-bounds.ensures) at c.in_err-needs-2.ensures in
    rw (cast_parts (scope c.args.scope.now) (ctype c.args.to) (typed c.args.t) c.args.written (site_at (place_at c.args.context.now) c.args.span) c.args.span)
    (goes_on _ c.in_ok-ctype.ensures (goes_on _ like (refused _ c.from_residual-in_err-needs-2.result c.from_residual-in_err-needs-2.ensures.1 broken)))

pub returns : goal.returns
returns c =
    let like = rw (c.is_like.ensures) at c.in_ok-needs.ensures in
    let bounded = rw (c.is_bounded.ensures, c.deref.ensures, c.bounds_in-bounds.ensures) at c.in_ok-needs-2.ensures in
    let made = rw (c.call_bounds-bounds.ensures, c.bounds_in-bounds.ensures, c.site.ensures) at c.in_ok-plain.ensures in
    rw (cast_parts (scope c.args.scope.now) (ctype c.args.to) (typed c.args.t) c.args.written (site_at (place_at c.args.context.now) c.args.span) c.args.span)
    (goes_on _ c.in_ok-ctype.ensures (goes_on _ like (goes_on _ bounded (record { so = ap Passes (sym made) }))))
