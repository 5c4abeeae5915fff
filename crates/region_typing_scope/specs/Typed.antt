-- Inside: what an expression is, as the code holds it.
use Rattle.std.specs.Prelude.{ℕ, ◌==◌, pos, false, Option, Some, None}
use Rattle.ckc_text.specs.declared.place.Span.{Span}
use Rattle.ckc_tree.specs.Types.{TypeName}
use Rattle.pointer_modes.specs.Layout.{size_of}
use Rattle.pointer_modes.specs.declared.ctype.Mode.TheVariants as modes
use Rattle.pointer_modes.specs.declared.ctype.Kind.{Kind}
use Rattle.pointer_modes.specs.Types.{CType, Int, Char, Struct, Pointer, ctype}
use Rattle.ckc_core.specs.declared.program.PointerBounds.{PointerBounds}
use Rattle.ckc_core.specs.Core as core
use Rattle.ckc_core.specs.Core.{expression, place}
use Rattle.region_typing_rules.specs.Verdicts.{Verdict, passing}
use Rattle.region_typing_rules.specs.Scopes.{Scope}
use Rattle.region_typing_rules.specs.Types.{type_named}
use Rattle.region_typing_rules.specs.Operands.{noted_if, number, Lvalue, OfLocal, OfCell, OfBounded, OfUnknown, local_standing}
use Rattle.region_typing_rules.specs.Expressions.{constant_typed}
use Rattle.region_typing_rules.specs.Operands.{Typed, Value, AStruct, ForNothing, ForArray, For}
use Rattle.region_typing_scope.specs.declared.typed.Base as code_base
use Rattle.region_typing_scope.specs.declared.typed.Base.TheVariants as bases
use Rattle.region_typing_scope.specs.declared.typed.StructPlace as code_place
use Rattle.region_typing_scope.specs.declared.typed.StructPlace.TheVariants as places
use Rattle.region_typing_scope.specs.declared.typed.Typed as code
use Rattle.region_typing_scope.specs.declared.typed.Typed.TheVariants as forms

-- the first cell of a value
abbrev pub base_place : code_base.Base → core.Place
base_place (bases.Object object) = core.Direct object 0
base_place (bases.Behind pointer site) = core.Through (expression pointer.value) core.First 0 site
base_place (bases.Element pointer number terminated site) = core.Through (expression pointer.value) (core.Element (expression number.value) terminated) 0 site

-- where a struct stands
abbrev pub struct_place : code_place.StructPlace → Lvalue
struct_place (places.Local local) = OfLocal local
struct_place (places.Cell base) = OfCell (base_place base)

-- what a value of the code's type stands for
abbrev pub typed : code.Typed → Typed
typed (forms.Value type zero value) = Value (ctype type) zero (expression value.value) ForNothing
typed (forms.Local type local is_array bounds) = Value (ctype type) false (core.Local local bounds) (local_standing is_array local)
typed (forms.Cell type at bounds) = Value (ctype type) false (core.Load (ctype type) (place at) bounds) (For (OfCell (place at)))
typed (forms.Bounded type object declared bounds) =
    Value (ctype type) false (core.Load (ctype type) (core.Direct object 0) bounds) (For (OfBounded object declared))
typed (forms.Unknown type object bounds) =
    Value (ctype type) false (core.Load (ctype type) (core.Direct object 0) bounds) (For (OfUnknown object))
typed (forms.Array type object bounds) = Value (ctype type) false (core.AddressOf (core.Direct object 0) bounds) ForArray
typed (forms.Struct struct at) = AStruct struct (struct_place at)

-- a value with bounds at its node, where its type gives it some
abbrev pub noted_by : Option PointerBounds → Typed → Typed
noted_by bounds (Value type zero value standing) = Value type zero (noted_if bounds value) standing
noted_by bounds (AStruct struct at) = AStruct struct at

-- the name of an array, as a pointer of a kind to the first of its elements, with bounds at its node
abbrev pub elements_typed : ℕ → CType → Kind → Option PointerBounds → Typed
elements_typed object type kind bounds = Value (Pointer modes.Checked kind type) false (core.AddressOf (core.Direct object 0) bounds) ForArray

-- the struct that a type is
abbrev pub struct_of : CType → Option ℕ
struct_of (Struct struct) = Some struct
struct_of Int = None
struct_of Char = None
struct_of (Pointer mode kind target) = None

-- numbers and sizes
abbrev pub number_typed : ℕ → Span → Verdict Typed
number_typed value span = constant_typed value (value == 0) span

abbrev pub size_typed : Scope → TypeName → Verdict Typed
size_typed s t = passing (type_named s t) (λ u. number (core.Number (pos (size_of s.structs u))))
