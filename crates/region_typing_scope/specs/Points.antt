-- Inside: where an expression stands, and what the right operand of `&&` or `||` knows by the left one.
use Rattle.std.specs.Prelude.{Bool, true, false, Option, Some, None}
use Rattle.ckc_tree.specs.declared.expr.BinaryOperator.{BinaryOperator}
use Rattle.ckc_tree.specs.declared.expr.BinaryOperator.TheVariants as binary
use Rattle.region_typing_rules.specs.Scopes.{Scope}
use Rattle.region_typing_rules.specs.Knowing.{knowing, when}
use Rattle.region_typing_rules.specs.Operands.{Typed, Value, AStruct}
use Rattle.region_typing_scope.specs.declared.point.Point as code
use Rattle.region_typing_scope.specs.Views.{scope}

-- the scope of a point, in which is known what is known there
abbrev pub point : code.Point → Scope
point p = knowing p.flow.now (scope p.scope.now)

-- where a value came out so
abbrev pub told_beside : Bool → Typed → Scope → Scope
told_beside truth (Value type zero value place) s = when value truth s
told_beside truth (AStruct number place) s = s

-- as what the left operand came out where the right one is worked out, if that tells something
abbrev pub left_truth : BinaryOperator → Option Bool
left_truth binary.Or = Some false
left_truth binary.And = Some true
left_truth _ = None
