use Rattle.std.proofs.Common.{◌≡◌, List, Option, Some, refl, ap, ◌∙◌}
use Rattle.std.specs.Option.{option_map}
use Rattle.bounds_exprs.specs.declared.term.Bounds.{Bounds}
use Rattle.pointer_modes.specs.declared.ctype.CType as code
use Rattle.pointer_modes.specs.Types.{Structure, ctype}
use Rattle.ckc_core.specs.declared.program.Site.{Site}
use Rattle.ckc_core.specs.declared.program.Call.{Call}
use Rattle.ckc_core.specs.declared.program.Expr.{Expr}
use Rattle.ckc_core.specs.declared.program.Expr.TheVariants as exprs
use Rattle.ckc_core.specs.declared.program.PointerBounds.{PointerBounds}
use Rattle.ckc_core.specs.Core as core
use Rattle.ckc_core.specs.Core.{expression, arguments_of}
use Rattle.ckc_core.proofs.Rows.{call_value}
use Rattle.region_typing_rules.specs.Operands.{Gives}
use Rattle.region_typing_rules.specs.Calls.{call_bounds, call_of}
use Rattle.region_typing_expressions.proofs.calls.call_of.Goals as goal

-- a call with the bounds of its result
call_gives : (structs : List Structure) (o : Option code.CType) (t result : code.CType) (call : Call) (value : Expr) (bounds : Option PointerBounds) (declared : Option Bounds) (site : Site) → o ≡ Some t → value ≡ exprs.Call call bounds → bounds ≡ call_bounds structs (ctype t) declared site → ctype result ≡ ctype t
    → Gives (ctype result) (expression value) ≡ call_of structs (option_map ctype o) declared call.callee (arguments_of call.arguments.items) site
call_gives structs o t result call value bounds declared site is value_is bounds_is same =
    let made : expression value ≡ core.Call call.callee (arguments_of call.arguments.items) (call_bounds structs (ctype t) declared site) = ap expression value_is ∙ call_value call bounds ∙ ap (core.Call call.callee (arguments_of call.arguments.items)) bounds_is in
    rw (is, made, same) refl

pub returns-in_ok-ctype-in-Some : goal.returns-in_ok-ctype-in-Some
returns-in_ok-ctype-in-Some c =
    call_gives c.args.structs.now c.args.result_type.now c.in-Some.t c.in_ok-ctype-in-Some.ctype c.args.call c.in_ok-value-in-Some.value.value c.call_bounds-bounds.result c.args.declared c.args.site c.in-Some.is c.in_ok-value-in-Some.ensures c.call_bounds-bounds.ensures c.in_ok-ctype-in-Some.ensures
