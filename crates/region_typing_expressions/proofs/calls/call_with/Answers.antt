use Rattle.std.proofs.Common.{map, ap, sym}
use Rattle.region_typing_rules.specs.Verdicts.{Passes}
use Rattle.region_typing_scope.specs.Points.{point}
use Rattle.region_typing_scope.specs.Views.{signature}
use Rattle.region_typing_expressions.specs.Calls.{argument}
use Rattle.region_typing_scope.proofs.Going.{goes_on, refused}
use Rattle.region_typing_expressions.proofs.Continuing.{converted_parts}
use Rattle.region_typing_expressions.proofs.calls.call_with.Goals as goal

pub returns-in_err-unless_unmet : goal.returns-in_err-unless_unmet
returns-in_err-unless_unmet c =
    let values = rw (c.from_vec.ensures.items, c.as_slice-types.ensures.value) at c.in_ok-arguments.ensures in
    let broken = rw (c.in_ok-asked.ensures.unmet, c.as_slice.ensures.value) at c.in_err-unless_unmet.ensures in
    rw (converted_parts (point c.args.point.now) (signature c.args.f.now) (map argument c.args.arguments.items) c.args.site)
    (goes_on _ values (refused _ c.from_residual-in_err-unless_unmet.result c.from_residual-in_err-unless_unmet.ensures.1 broken))

pub returns : goal.returns
returns c =
    let values = rw (c.from_vec.ensures.items, c.as_slice-types.ensures.value) at c.in_ok-arguments.ensures in
    let kept = rw (c.in_ok-asked.ensures.unmet, c.as_slice.ensures.value) at c.in_ok-unless_unmet.ensures in
    let made = rw (c.declared_callee-callee.ensures, c.in_ok-asked.ensures.bounds, c.as_slice.ensures.value) at c.in_ok-call_of.ensures in
    rw (converted_parts (point c.args.point.now) (signature c.args.f.now) (map argument c.args.arguments.items) c.args.site)
    (goes_on _ values (goes_on _ kept (record { so = ap Passes (sym made) })))
