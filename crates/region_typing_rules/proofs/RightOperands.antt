-- What is so of a scope, whatever its flow is, is so of the one in which a right operand stands.
use Rattle.bounds_flow.specs.Flows.{Knowledge}
use Rattle.ckc_tree.specs.declared.expr.BinaryOperator.{BinaryOperator}
use Rattle.region_typing_rules.specs.Scopes.{Scope}
use Rattle.region_typing_rules.specs.Readings.{left_told}
use Rattle.region_typing_rules.specs.Knowing.{knowing}
use Rattle.region_typing_rules.specs.Operands.{Typed, Value, AStruct, beside}

pub in_right : (P : Scope → Type 0) (operator : BinaryOperator) (a : Typed) (s : Scope) → ((f : Knowledge) → P (knowing f s)) → P (beside operator a s)
in_right P operator (Value type zero value place) s h = h (left_told operator s.locals value s.flow)
in_right P operator (AStruct number place) s h = h s.flow
