-- Null-terminated pointers, where n is an `int` local with the number 0, and p is one to `char`s with the number 1 for which count(n) is declared.
use Rattle.std.specs.Prelude.{◌≡◌, ℕ, pos, Bool, true, false, List, [], ◌∷◌, Option, Some, None}
use Rattle.ckc_text.specs.declared.place.Span.{Span}
use Rattle.ckc_text.specs.declared.code.Code.TheVariants.{E13, E18, E22}
use Rattle.ckc_tree.specs.declared.expr.BinaryOperator.TheVariants as binary
use Rattle.ckc_tree.specs.declared.expr.CallocWord.TheVariants as calloc_words
use Rattle.ckc_tree.specs.Expressions as e
use Rattle.ckc_tree.specs.Types as types
use Rattle.bounds_exprs.specs.declared.term.Bounds.{Bounds}
use Rattle.bounds_flow.specs.Flows.{Knowledge, at_entry, entered, held_at}
use Rattle.pointer_modes.specs.declared.ctype.Mode.TheVariants as modes
use Rattle.pointer_modes.specs.declared.ctype.Kind.TheVariants as kinds
use Rattle.pointer_modes.specs.Types.{CType, Int, Char, Pointer}
use Rattle.act_words.specs.declared.operator.Operator.TheVariants as operators
use Rattle.act_words.specs.declared.operator.ArithmeticOperator.TheVariants as arithmetics
use Rattle.act_words.specs.declared.operator.Comparison.TheVariants as comparisons
use Rattle.ckc_core.specs.declared.program.Direction.TheVariants as directions
use Rattle.ckc_core.specs.declared.program.PointerBounds.{PointerBounds}
use Rattle.ckc_core.specs.declared.program.Terminator.TheVariants as terminators
use Rattle.ckc_core.specs.Core as core
use Rattle.region_typing_rules.specs.Verdicts.{Passes, breaks}
use Rattle.region_typing_rules.specs.Scopes.{Scope, Object, Array}
use Rattle.region_typing_rules.specs.DeclaredBounds.{row_of, unwritten_bounds}
use Rattle.region_typing_rules.specs.Readings.{told}
use Rattle.region_typing_rules.specs.Knowing.{assigned_by}
use Rattle.region_typing_rules.specs.Operands.{Typed, Value, ForNothing, ForArray, For, OfCell, OfUnknown, address}
use Rattle.region_typing_rules.specs.Operands.{binary_typed, Gives, element_at, name_typed, number, plain, pointed_at}
use Rattle.region_typing_rules.specs.Calls.{length_typed, measures}
use Rattle.region_typing_rules.specs.NewMemory.{calloc_typed}
use Rattle.region_typing_rules.specs.Statements.{array_memory}
use Rattle.region_typing_rules.specs.Items.{object_cells, Constants, zeros_of}
use Rattle.region_typing_rules.specs.MemoryExamples.{here, site, scope as plain_scope, from_to, term}

abbrev text : CType
text = Pointer modes.Checked kinds.Nt Char

abbrev locals : List CType
locals = Int ∷ text ∷ []

-- 0 to n, and one element further
abbrev upto : ℕ → Bounds
upto more = from_to None (term None 0) (term (Some 0) more)

abbrev known : Knowledge
known = entered 1 (Some (upto 0)) (at_entry 2)

abbrev scope : Scope
scope = record plain_scope { locals = locals; flow = known }

-- where an argument stands
abbrev there : Span
there = record { from = 7; to = 8 }

abbrev node : Bounds → Option PointerBounds
node b = Some (record { bounds = b; size = 1; terminated = true; site = site })

abbrev p : core.Expression
p = core.Local 1 (node (upto 0))

abbrev n : core.Expression
n = core.Local 0 None

abbrev constant : ℕ → core.Expression
constant k = core.Number (pos k)

abbrev place : core.Expression → core.Place
place index = core.Through p (core.Element index true) 0 site

abbrev load : core.Expression → core.Expression
load index = core.Load Char (place index) None

abbrev less : core.Expression
less = core.Arithmetic (operators.Arithmetic arithmetics.Subtract) n (constant 1) site

-- `*(p + n)`
abbrev behind : core.Expression
behind = core.Load Char (core.Through (core.Sum p directions.Forward n site None) (core.Element (constant 0) true) 0 site) None

abbrev bounds_behind : core.Expression → Bool → Option Bounds
bounds_behind condition truth = (held_at (told locals condition truth known).held 1).bounds

-- an element that isn't zero at the upper end raises that end, where it came out so; one element before it doesn't, nor the first one
abbrev pub widening : Type 0
widening =
    (bounds_behind (load n) true ≡ Some (upto 1)) × (bounds_behind (load n) false ≡ Some (upto 0)) × (bounds_behind (load less) true ≡ Some (upto 0))
    × (bounds_behind (load (constant 0)) true ≡ Some (upto 0)) × (bounds_behind behind true ≡ Some (upto 1))
    × (bounds_behind (core.Not (load n)) false ≡ Some (upto 1)) × (bounds_behind (core.AndAlso n (load n)) true ≡ Some (upto 1))
    × (bounds_behind (core.OrElse n (load n)) true ≡ Some (upto 0))

abbrev element : Typed
element = Value Char false (load n) (For (OfCell (place n)))

-- a comparison with the constant 0 tells that too, and one with `'\0'` doesn't
abbrev pub tests : Type 0
tests =
    (binary_typed scope binary.NotEqual element (Value Int true (constant 0) ForNothing) site here ≡ number (core.Not (core.Not (load n))))
    × (binary_typed scope binary.NotEqual element (Value Int false (constant 0) ForNothing) site here
    ≡ number (core.Not (core.Compare comparisons.Equal (load n) (constant 0))))
    × (binary_typed scope binary.Equal element (Value Int true (constant 0) ForNothing) site here
    ≡ number (core.Compare comparisons.Equal (load n) (constant 0)))

-- `p[n]` and `*p` are read at the upper end too; the address of an element stays below it
abbrev pub elements : Type 0
elements =
    (element_at text p n site here ≡ Passes element)
    × (pointed_at text p site here ≡ Passes (Value Char false (load (constant 0)) (For (OfCell (place (constant 0))))))
    × (address element site here
    ≡ Passes (Value (Pointer modes.Checked kinds.One Char) false (core.AddressOf (core.Through p (core.Element n false) 0 site) None) ForNothing))
    × (element_at text (core.Local 1 None) n site here ≡ breaks E18 here)

-- behind `n = strlen(p)` the bounds end at n, where they were lost too; another assignment takes them back. What isn't a text is refused where it
-- stands, and a text without bounds at the call
abbrev pub lengths : Type 0
lengths =
    let measured = assigned_by locals (core.SetLocal 0 (core.Length p site)) (entered 1 (Some (row_of 0)) (at_entry 2)) in
    ((held_at measured.held 1).bounds ≡ Some (upto 0))
    × (length_typed (Value text false p ForNothing) site here ≡ Passes (Gives Int (core.Length p site)))
    × (length_typed (Value text false (core.Local 1 None) ForNothing) site here ≡ breaks E13 here)
    × (length_typed (Value (Pointer modes.Checked kinds.Array Char) false p ForNothing) site here ≡ breaks E13 here)
    × (measures ((Value (Pointer modes.Checked kinds.Array Char) false p ForNothing, there) ∷ []) site here ≡ breaks E13 there)
    × (measures ((Value text false (core.Local 1 None) ForNothing, there) ∷ []) site here ≡ breaks E13 here)

-- where no bounds are written the end may be where a pointer stands: a local, a parameter or a result, and what stands in a cell. One at file level
-- whose bounds are unknown has none, and no address
abbrev pub unwritten : Type 0
unwritten =
    let cell = core.Direct 0 0 in
    (unwritten_bounds text ≡ Some (row_of 0)) × (unwritten_bounds (Pointer modes.Checked kinds.Array Char) ≡ None)
    × (name_typed scope (Object 0 text None) site ≡ Value text false (core.Load text cell (node (row_of 0))) (For (OfCell cell)))
    × (name_typed scope (Object 0 text (Some None)) site ≡ Value text false (core.Load text cell None) (For (OfUnknown 0)))
    × (address (name_typed scope (Object 0 text (Some None)) site) site here ≡ breaks E22 here)
    × (name_typed scope (Array 0 Char 3 true) site ≡ Value text false (core.AddressOf cell (node (row_of 2))) ForArray)

-- new memory has a cell more than its bounds, and so has an array: one of a single element is the zero alone
abbrev pub memory : Type 0
memory =
    let cells = record { type = Char; stride = 1; number = pos 0 } ∷ [] in
    let one_char = e.SizeOf (record { base = types.CharType here; stars = 0 }) here in
    (calloc_typed calloc_words.NtCalloc scope Char (Value Int false (constant 2) ForNothing) one_char site here
    ≡ plain text (core.Allocate (constant 2) cells terminators.Behind (node (row_of 2))))
    × (array_memory scope true Char 3 site here ≡ plain text (core.Allocate (constant 3) cells terminators.Last (node (row_of 2))))
    × (array_memory scope true Char 1 site here ≡ plain text (core.Allocate (constant 1) cells terminators.Last (node (row_of 0))))
    × (object_cells scope.given [] Char (Some 3) true (Constants []) here ≡ Passes (zeros_of 3 [] Char))
