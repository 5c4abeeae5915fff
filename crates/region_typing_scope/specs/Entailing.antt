-- Inside: the bounds that an expression is asked for as a value of a type, and whether they are met.
use Rattle.std.specs.Prelude.{Bool, true, ◌||◌, Option, None}
use Rattle.ckc_text.specs.declared.code.Code.TheVariants.{E17}
use Rattle.ckc_text.specs.declared.place.Span.{Span}
use Rattle.bounds_exprs.specs.declared.term.Bounds.{Bounds}
use Rattle.bounds_flow.specs.Flows.{Knowledge}
use Rattle.bounds_flow.specs.Settling.{bounds_find}
use Rattle.pointer_modes.specs.Types.{CType}
use Rattle.ckc_core.specs.Core as core
use Rattle.region_typing_rules.specs.Verdicts.{Verdict, Passes, needs, picked}
use Rattle.region_typing_rules.specs.Readings.{own_bounds, based_bounds, is_null}
use Rattle.region_typing_rules.specs.Operands.{Typed, Value, AStruct, is_met, meets, asked_of, converted}
use Rattle.region_typing_rules.specs.Statements.{meets_declared}

-- the bounds of an expression meet those that it is asked for as a value of a type
abbrev pub is_met_as : Knowledge → Typed → CType → Bool
is_met_as f (Value type zero value place) to = zero || meets f value (asked_of type to)
is_met_as f (AStruct number place) to = true

-- the bounds that it is asked for; null is asked for none
abbrev pub asked_for : Typed → CType → Option Bounds
asked_for (Value type zero value place) to = picked (zero || is_null value) None (asked_of type to)
asked_for (AStruct number place) to = None

abbrev pub own_of : Typed → Option Bounds
own_of (Value type zero value place) = own_bounds value
own_of (AStruct number place) = None

abbrev pub based_of : Typed → Option Bounds
based_of (Value type zero value place) = based_bounds value
based_of (AStruct number place) = None

-- null is asked for no bounds, nor is a struct
abbrev pub is_unasked : Typed → Bool
is_unasked (Value type zero value place) = zero || is_null value
is_unasked (AStruct number place) = true

-- its bounds, without a base or with one, meet others
abbrev pub has_bounds : Knowledge → Typed → Bounds → Bool
has_bounds f t asked = is_met (bounds_find f.facts asked (own_of t)) || is_met (bounds_find f.facts asked (based_of t))

-- a value as one of a type that it converts to, where it meets the bounds of the type and those that are declared for where it goes (E13, E17)
abbrev pub fitted : Knowledge → Option Bounds → Typed → CType → Span → Verdict core.Expression
fitted f declared t to span = converted t to span (λ value. needs (meets_declared f declared t to) E17 span (Passes value))
