use Rattle.std.proofs.lemmas.Grind.{common_steps}
use Rattle.std.proofs.Common.{◌≡◌, length, map, arith}
use Rattle.std.proofs.lemmas.List.{length-map}
use Rattle.pointer_modes.specs.Types.{ctype}
use Rattle.region_typing_scope.specs.Points.{point}
use Rattle.region_typing_scope.specs.Views.{signature}
use Rattle.region_typing_expressions.specs.Calls.{argument}
use Rattle.region_typing_scope.proofs.Going.{goes_on, refused}
use Rattle.region_typing_expressions.proofs.Crossing.{declared_parts}
use Rattle.region_typing_expressions.proofs.calls.declared.Goals as goal

pub returns-in_err-crossing : goal.returns-in_err-crossing
returns-in_err-crossing c =
    let items = c.args.arguments.items in
    let types = c.args.f.now.parameters.items in
    let few : length items ≡ length types = grind (arith, c.if-len.false, c.len.ensures, c.len-2.ensures, c.args.arguments.ok.0, c.args.f.now.parameters.ok.0) in
    let many : length (map argument items) ≡ length (map ctype types) = omega (arith, few, length-map items argument, length-map types ctype) in
    let broken = rw (c.is_import.ensures, c.as_slice.ensures.value) at c.in_err-crossing.ensures in
    rw (declared_parts (point c.args.point.now) (signature c.args.f.now) (map argument items) c.args.site c.args.span many) (refused _ c.from_residual.result c.from_residual.ensures.1 broken)

pub returns : goal.returns
returns c =
    let items = c.args.arguments.items in
    let types = c.args.f.now.parameters.items in
    let few : length items ≡ length types = grind (arith, c.if-len.false, c.len.ensures, c.len-2.ensures, c.args.arguments.ok.0, c.args.f.now.parameters.ok.0) in
    let many : length (map argument items) ≡ length (map ctype types) = omega (arith, few, length-map items argument, length-map types ctype) in
    let kept = rw (c.is_import.ensures, c.as_slice.ensures.value) at c.in_ok-crossing.ensures in
    rw (declared_parts (point c.args.point.now) (signature c.args.f.now) (map argument items) c.args.site c.args.span many) (goes_on _ kept c.call_with.ensures)

pub returns-then-len : goal.returns-then-len
returns-then-len c = grind (arith, common_steps)
