-- What the types of the code stand for.
use Rattle.std.specs.Prelude.{ℕ, Option, Some, None}
use Rattle.bounds_exprs.specs.declared.term.Term.{Term}
use Rattle.pointer_modes.specs.Types.{CType, Int, Char, Struct, Pointer}
use Rattle.region_typing_rules.specs.Readings.{Behind}
use Rattle.region_typing_flow.specs.declared.readings.Behind as code
use Rattle.region_typing_flow.specs.declared.steps.Tracked.{Tracked}
use Rattle.region_typing_flow.specs.declared.steps.Tracked.TheVariants.{Number, Bounds, Nothing}

-- the local pointer, and how many elements behind it
abbrev pub behind : code.Behind → Behind
behind b = record { local = b.local; elements = b.elements }

-- a local, and so many elements behind it as a constant says
abbrev pub constant_behind : ℕ → Option Term → Option Behind
constant_behind local None = None
constant_behind local (Some t) = Some (record { local = local; elements = t.plus })

-- what a flow tracks of a local of a type
abbrev pub tracked : Option CType → Tracked
tracked (Some Int) = Number
tracked (Some (Pointer mode kind target)) = Bounds kind
tracked (Some Char) = Nothing
tracked (Some (Struct number)) = Nothing
tracked None = Nothing
