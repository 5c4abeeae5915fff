-- Inside: tests of operands, the order of two numbers, and that of two pointers.
use Rattle.std.specs.Prelude.{Bool, true, false, ◌&&◌}
use Rattle.ckc_text.specs.declared.place.Span.{Span}
use Rattle.ckc_text.specs.declared.code.Code.TheVariants.{E26}
use Rattle.pointer_modes.specs.Types.{CType}
use Rattle.ckc_core.specs.declared.program.Site.{Site}
use Rattle.ckc_core.specs.Core as core
use Rattle.act_words.specs.declared.operator.Comparison.{Comparison}
use Rattle.region_typing_rules.specs.Types.{is_number, is_pointer, is_row, are_comparable}
use Rattle.region_typing_rules.specs.Verdicts.{Verdict, needs}
use Rattle.region_typing_rules.specs.Operands.{Typed, Value, AStruct, number, two_scalars, have_one_base, is_ended_element}
use Rattle.region_typing_rules.specs.Items.{is_zero}
use Rattle.region_typing_scope.specs.Entailing.{based_of}

abbrev pub is_number_value : Typed → Bool
is_number_value (Value type zero value place) = is_number type
is_number_value (AStruct number place) = false

abbrev pub is_pointer_value : Typed → Bool
is_pointer_value (Value type zero value place) = is_pointer type
is_pointer_value (AStruct number place) = false

-- a pointer of the mode and the element of a type
abbrev pub is_comparable_value : CType → Typed → Bool
is_comparable_value type (Value other zero value place) = are_comparable type other
is_comparable_value type (AStruct number place) = false

abbrev pub are_comparable_values : Typed → Typed → Bool
are_comparable_values (Value type zero value place) right = is_comparable_value type right
are_comparable_values (AStruct number place) right = false

abbrev pub compared : Comparison → core.Expression → core.Expression → Verdict Typed
compared comparison v w = number (core.Compare comparison v w)

abbrev pub ordered_pointers : Comparison → Site → core.Expression → core.Expression → Verdict Typed
ordered_pointers comparison site v w = number (core.Order comparison v w site)

abbrev pub is_row_value : Typed → Bool
is_row_value (Value type zero value place) = is_row type
is_row_value (AStruct number place) = false

-- pointers with bounds that count from one base
abbrev pub are_related_values : Typed → Typed → Bool
are_related_values a b = is_row_value a && (is_row_value b && have_one_base (based_of a) (based_of b))

-- the order of two pointers of one mode and element (E26)
abbrev pub related : Comparison → Typed → Typed → Site → Span → Verdict Typed
related comparison a b site span = needs (are_related_values a b) E26 span (two_scalars a b span (ordered_pointers comparison site))

-- an element of a null-terminated pointer, or what stands at its upper end
abbrev pub is_ended_value : Typed → Bool
is_ended_value (Value type zero value place) = is_ended_element value
is_ended_value (AStruct number place) = false

-- a number that is such an element, and the constant 0
abbrev pub is_zero_test : Typed → Typed → Bool
is_zero_test a b = is_zero b && (is_number_value a && is_ended_value a)

-- whether a place is such an element
abbrev pub is_ended_place : core.Place → Bool
is_ended_place (core.Through pointer (core.Element number true) offset site) = true
is_ended_place _ = false
