-- Inside: an operand as its value alone.
use Rattle.std.specs.Prelude.{Bool}
use Rattle.ckc_text.specs.declared.place.Span.{Span}
use Rattle.ckc_text.specs.declared.code.Code.TheVariants.{E13}
use Rattle.pointer_modes.specs.Types.{CType, ctype}
use Rattle.ckc_core.specs.Core as core
use Rattle.ckc_core.specs.Core.{expression}
use Rattle.region_typing_rules.specs.Verdicts.{Verdict, Passes, breaks}
use Rattle.region_typing_rules.specs.Operands.{Typed, Value, AStruct, number}
use Rattle.region_typing_scope.specs.declared.operands.Operand as code

-- a value of a scalar type, which may be the constant 0
pub record Operand : Type 0 where
  pub type : CType
  pub zero : Bool
  pub value : core.Expression

-- a value, where it is no struct (E13)
abbrev pub operand_of : Typed → Span → Verdict Operand
operand_of (Value type null value place) span = Passes (record { type = type; zero = null; value = value })
operand_of (AStruct struct place) span = breaks E13 span

abbrev pub operand : code.Operand → Operand
operand o = record { type = ctype o.ctype; zero = o.zero; value = expression o.value.value }

-- what two truths make
abbrev pub and_also : core.Expression → core.Expression → Verdict Typed
and_also v w = number (core.AndAlso v w)

abbrev pub or_else : core.Expression → core.Expression → Verdict Typed
or_else v w = number (core.OrElse v w)
