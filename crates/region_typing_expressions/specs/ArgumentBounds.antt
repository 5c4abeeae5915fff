-- Inside: the bounds that the arguments of a call are asked for, as the code asks for them, and those of its result.
use Rattle.std.specs.Prelude.{ℕ, List, [], ◌∷◌, Option, Some, None}
use Rattle.ckc_text.specs.declared.place.Span.{Span}
use Rattle.ckc_text.specs.declared.code.Code.TheVariants.{E17}
use Rattle.bounds_exprs.specs.declared.term.Bounds.{Bounds}
use Rattle.bounds_exprs.specs.declared.term.Term.{Term}
use Rattle.bounds_flow.specs.Flows.{Knowledge}
use Rattle.pointer_modes.specs.Types.{CType, Int, Char, Struct, Pointer}
use Rattle.region_typing_rules.specs.Verdicts.{Verdict, Passes, breaks, picked}
use Rattle.region_typing_rules.specs.Scopes.{Scope, Signature, WrittenBounds, bounds_in}
use Rattle.region_typing_rules.specs.Readings.{pointer_local, term}
use Rattle.region_typing_rules.specs.Operands.{Typed, Value, AStruct}
use Rattle.region_typing_rules.specs.Calls.{argument_meets, pointers_for, result_at, terms_for}

-- the term of an argument, and that of one for a parameter of a type
abbrev pub term_of : List CType → Typed → Option Term
term_of locals (Value type zero value place) = term locals value
term_of locals (AStruct number place) = None

abbrev pub term_for : List CType → Typed → CType → Option Term
term_for locals t Int = term_of locals t
term_for locals t Char = None
term_for locals t (Struct number) = None
term_for locals t (Pointer mode kind target) = None

-- the local pointer that an argument is
abbrev pub pointer_for : List CType → Typed → Option ℕ
pointer_for locals (Value type zero value place) = pointer_local locals value
pointer_for locals (AStruct number place) = None

-- the bounds of the first parameter, and what is written for the others
abbrev pub first_bounds : List WrittenBounds → Option Bounds
first_bounds [] = None
first_bounds (b ∷ bs) = bounds_in b

abbrev pub other_bounds : List WrittenBounds → List WrittenBounds
other_bounds [] = []
other_bounds (b ∷ bs) = bs

-- where the first argument stands whose bounds aren't met
abbrev pub first_unmet : Knowledge → List (Option Term) → List (Option ℕ) → List (Typed × Span) → List CType → List WrittenBounds → Option Span
first_unmet f terms pointers [] types bounds = None
first_unmet f terms pointers (argument ∷ arguments) [] bounds = None
first_unmet f terms pointers (argument ∷ arguments) (type ∷ types) bounds =
    picked (argument_meets f terms pointers argument.0 type (first_bounds bounds))
    (first_unmet f terms pointers arguments types (other_bounds bounds)) (Some argument.1)

-- at a call of a declared function
abbrev pub first_unmet_of : Scope → Signature → List (Typed × Span) → Option Span
first_unmet_of s f arguments =
    first_unmet s.flow (terms_for s.locals arguments f.parameters) (pointers_for s.locals arguments) arguments f.parameters f.bounds

-- the bounds that are declared for the result of a call, over what stands for the parameters
abbrev pub result_bounds_of : Scope → Signature → List (Typed × Span) → Option Bounds
result_bounds_of s f arguments = result_at (terms_for s.locals arguments f.parameters) (bounds_in f.result_bounds)

-- where bounds aren't met (E17)
abbrev pub unless_unmet : Option Span → Verdict (Unit {0})
unless_unmet None = Passes tt
unless_unmet (Some span) = breaks E17 span
