-- Inside: equality by how two operands are compared.
use Rattle.std.specs.Prelude.{Bool, true, false, ◌&&◌}
use Rattle.ckc_text.specs.declared.place.Span.{Span}
use Rattle.ckc_text.specs.declared.code.Code.TheVariants.{E13}
use Rattle.act_words.specs.declared.operator.Comparison.TheVariants as comparisons
use Rattle.ckc_core.specs.Core as core
use Rattle.region_typing_rules.specs.Verdicts.{Verdict, Passes, passing, needs, picked}
use Rattle.region_typing_rules.specs.Operands.{Typed, scalar_of}
use Rattle.region_typing_rules.specs.Items.{is_zero}
use Rattle.region_typing_expressions.specs.declared.equality.Equality.{Equality}
use Rattle.region_typing_expressions.specs.declared.equality.Equality.TheVariants.{Numbers, Pointers, RightNull, LeftNull}
use Rattle.region_typing_expressions.specs.Comparing.{is_number_value, is_pointer_value, are_comparable_values}

-- numbers, pointers of one mode and element, or a pointer and 0 (E13)
abbrev pub equality : Typed → Typed → Span → Verdict Equality
equality a b span =
    picked (is_number_value a && is_number_value b) (Passes Numbers)
    (picked (are_comparable_values a b) (Passes Pointers)
    (picked (is_pointer_value a && is_zero b) (Passes RightNull)
    (needs (is_pointer_value b && is_zero a) E13 span (Passes LeftNull))))

abbrev pub equated_by : Equality → core.Expression → core.Expression → core.Expression
equated_by Numbers v w = core.Compare comparisons.Equal v w
equated_by Pointers v w = core.Same v w
equated_by RightNull v w = core.Same v core.Null
equated_by LeftNull v w = core.Same core.Null w

-- the same, where an element of a null-terminated pointer may be compared with the constant 0
abbrev pub tested_by : (tests_zero : Bool) → Equality → core.Expression → core.Expression → core.Expression
tested_by true how v w = core.Not v
tested_by false how v w = equated_by how v w

-- equality of two scalars by how they are compared
abbrev pub tested_equality : (tests_zero : Bool) → Typed → Typed → Span → Verdict core.Expression
tested_equality tests_zero a b span =
    passing (equality a b span) (λ how. passing (scalar_of a span Passes) (λ v. passing (scalar_of b span Passes) (λ w. Passes (tested_by tests_zero how v w))))
