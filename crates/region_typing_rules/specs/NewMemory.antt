-- The rules of allocations and of casts, in the order in which they are asked of a node behind its children.
use Rattle.std.specs.Prelude.{ℕ, nat_lt, Bool, true, false, not, ◌&&◌, List, length, pos}
use Rattle.std.specs.Prelude.{Option, Some, None, is_some}
use Rattle.ckc_text.specs.declared.place.Span.{Span}
use Rattle.ckc_text.specs.declared.code.Code.TheVariants.{E13, E15, E18}
use Rattle.ckc_tree.specs.declared.expr.BinaryOperator.TheVariants as binary
use Rattle.ckc_tree.specs.declared.expr.CastWord.{CastWord}
use Rattle.ckc_tree.specs.declared.expr.CastWord.TheVariants as cast_words
use Rattle.ckc_tree.specs.declared.expr.MallocWord.{MallocWord}
use Rattle.ckc_tree.specs.declared.expr.MallocWord.TheVariants as malloc_words
use Rattle.ckc_tree.specs.declared.expr.CallocWord.{CallocWord}
use Rattle.ckc_tree.specs.declared.expr.CallocWord.TheVariants as calloc_words
use Rattle.ckc_tree.specs.Expressions as e
use Rattle.ckc_tree.specs.Expressions.{Expression}
use Rattle.bounds_exprs.specs.Normal.{is_same}
use Rattle.pointer_modes.specs.declared.ctype.Mode.TheVariants as modes
use Rattle.pointer_modes.specs.declared.ctype.Kind.TheVariants as kinds
use Rattle.pointer_modes.specs.Types.{CType, Int, Char, Struct, Pointer, Structure}
use Rattle.pointer_modes.specs.Layout.{size_of}
use Rattle.ckc_core.specs.declared.program.Site.{Site}
use Rattle.act_words.specs.declared.operator.ArithmeticOperator.TheVariants as arithmetics
use Rattle.act_words.specs.declared.operator.Operator.TheVariants as operators
use Rattle.ckc_core.specs.declared.program.PointerBounds.{PointerBounds}
use Rattle.ckc_core.specs.declared.program.Terminator.{Terminator}
use Rattle.ckc_core.specs.declared.program.Terminator.TheVariants as terminators
use Rattle.ckc_core.specs.Core as core
use Rattle.ckc_core.specs.States.{same_type}
use Rattle.ckc_core.specs.Steps.{is_char}
use Rattle.ckc_core.specs.Meaning.{bounds_of}
use Rattle.bounds_exprs.specs.Normal.{constant as constant_term, is_same}
use Rattle.bounds_exprs.specs.declared.term.Bounds.{Bounds}
use Rattle.bounds_exprs.specs.declared.term.Term.{Term}
use Rattle.region_typing_rules.specs.Verdicts.{Verdict, Passes, Stops, passing, needs, breaks, picked}
use Rattle.region_typing_rules.specs.Scopes.{Scope, WrittenBounds, bounds_in}
use Rattle.region_typing_rules.specs.Readings.{term, based_bounds}
use Rattle.region_typing_rules.specs.Types.{type_named, is_number, is_row, pointer_converts}
use Rattle.region_typing_rules.specs.Cells.{cells_with}
use Rattle.region_typing_rules.specs.DeclaredBounds.{declared_bounds}
use Rattle.region_typing_rules.specs.Operands.{AStruct, Typed, Value, number, number_of, plain}
use Rattle.region_typing_rules.specs.Calls.{call_bounds}

-- ---- allocation

-- the size of a type: `sizeof(T)`
abbrev is_type : CType → Verdict CType → Bool
is_type t (Passes other) = same_type t other
is_type t (Stops stop) = false

abbrev pub is_size : Scope → CType → Expression → Bool
is_size s t (e.SizeOf type span) = is_type t (type_named s type)
is_size s t _ = false

abbrev pub first_factor : core.Expression → Option core.Expression
first_factor (core.Arithmetic (operators.Arithmetic arithmetics.Multiply) left right site) = Some left
first_factor _ = None

abbrev pub second_factor : core.Expression → Option core.Expression
second_factor (core.Arithmetic (operators.Arithmetic arithmetics.Multiply) left right site) = Some right
second_factor _ = None

-- the other factor where one is the size of the type: n of `n * sizeof(T)` and of `sizeof(T) * n`
abbrev pub factor_beside : Scope → CType → Expression → core.Expression → Option core.Expression
factor_beside s t (e.Binary binary.Multiply left right span) value =
    picked (is_size s t right) (first_factor value) (picked (is_size s t left) (second_factor value) None)
factor_beside s t _ value = None

abbrev or_other : Option core.Expression → Option core.Expression → Option core.Expression
or_other None other = other
or_other (Some count) other = Some count

-- how many elements a size is: n where it is n times the size of the type, and 1 where it is that size; each byte is a `char`
abbrev pub elements_in : Scope → CType → Expression → core.Expression → Option core.Expression
elements_in s t size value =
    or_other (factor_beside s t size value) (picked (is_size s t size) (Some (core.Number (pos 1))) (picked (is_char t) (Some value) None))

-- so many elements from the pointer on, where their number has a term
abbrev pub row_counted : List Structure → CType → (ended : Bool) → Option Term → Site → Option PointerBounds
row_counted structs t ended None site = None
row_counted structs t ended (Some n) site = Some (record {
  bounds = record { base = None; lo = constant_term (pos 0); hi = n };
  size = size_of structs t;
  terminated = ended;
  site = site;
})

-- new memory of so many elements, which have bytes, as all of a source have (E13)
abbrev pub allocation : Scope → CType → core.Expression → Site → Span → Verdict Typed
allocation s t count site span =
    needs (nat_lt 0 (size_of s.structs t)) E13 span
    (plain (Pointer modes.Checked kinds.Array t)
    (core.Allocate count (cells_with s.structs t (pos 0)) terminators.Absent (row_counted s.structs t false (term s.locals count) site)))

-- ended-are-numbers: new memory of so many numbers that a zero ends, and how many stand before it (E13)
abbrev pub ended_allocation : Scope → CType → core.Expression → Terminator → (before : Option Term) → Site → Span → Verdict Typed
ended_allocation s t count terminator before site span =
    needs (is_number t) E13 span
    (plain (Pointer modes.Checked kinds.Nt t)
    (core.Allocate count (cells_with s.structs t (pos 0)) terminator (row_counted s.structs t true before site)))

abbrev pub allocation_if : Scope → CType → Option core.Expression → Site → Span → Verdict Typed
allocation_if s t None site span = breaks E13 span
allocation_if s t (Some count) site span = allocation s t count site span

-- size-in-elements: the size is a number of elements of the type, each with its size, or of bytes that are `char`s (E13)
abbrev pub allocated_in : Scope → CType → Expression → Typed → Site → Span → Verdict Typed
allocated_in s t size a site span = number_of a span (λ value. allocation_if s t (elements_in s t size value) site span)

-- count-of-elements: a number of them, and the size of the type behind it (E13)
abbrev pub allocated_of : Scope → CType → Typed → Expression → Site → Span → Verdict Typed
allocated_of s t a size site span = number_of a span (λ count. needs (is_size s t size) E13 span (allocation s t count site span))

-- the same with a zero behind them
abbrev pub ended_of : Scope → CType → Typed → Expression → Site → Span → Verdict Typed
ended_of s t a size site span =
    number_of a span (λ count. needs (is_size s t size) E13 span (ended_allocation s t count terminators.Behind (term s.locals count) site span))

-- what gives tainted memory isn't a form of which rules speak here
abbrev pub malloc_typed : MallocWord → Scope → CType → Expression → Typed → Site → Span → Verdict Typed
malloc_typed malloc_words.Malloc s t size a site span = allocated_in s t size a site span
malloc_typed malloc_words.TMalloc s t size a site span = breaks E13 span

abbrev pub calloc_typed : CallocWord → Scope → CType → Typed → Expression → Site → Span → Verdict Typed
calloc_typed calloc_words.Calloc s t a size site span = allocated_of s t a size site span
calloc_typed calloc_words.NtCalloc s t a size site span = ended_of s t a size site span

-- ---- casts

-- a pointer becomes a checked one of the same mode and element, as its kind converts, where elements have bytes, as all of a source have; casts to
-- others aren't forms of which rules speak here
abbrev pub casts_to : List Structure → CType → CType → Bool
casts_to structs from Int = false
casts_to structs from Char = false
casts_to structs from (Struct number) = false
casts_to structs from (Pointer modes.Checked kind target) =
    pointer_converts from kind (Pointer modes.Checked kind target) && nat_lt 0 (size_of structs target)
casts_to structs from (Pointer modes.Tainted kind target) = false
casts_to structs from (Pointer modes.Raw kind target) = false

-- a pointer to one element takes no bounds, and others take them
abbrev pub takes : CType → WrittenBounds → Bool
takes to None = not (is_row to)
takes to (Some bounds) = is_row to

abbrev counts_from : ℕ → Option Bounds → Bool
counts_from q None = false
counts_from q (Some b) = is_same b.base (Some q)

-- a pointer has bounds with the base, where there is one
abbrev pub has_base : Option ℕ → core.Expression → Bool
has_base None value = true
has_base (Some q) value = counts_from q (based_bounds value)

abbrev pub base_in : Option Bounds → Option ℕ
base_in None = None
base_in (Some b) = b.base

-- cast-of-like: pointers of one mode and element, and bounds exactly for an array (E13). cast-has-bounds: the source has bounds, and those that are
-- written count from no base or from one of its own (E18)
abbrev pub cast_checked : Scope → CType → Typed → WrittenBounds → Site → Span → Verdict Typed
cast_checked s to (Value type zero value place) written site span =
    needs (casts_to s.structs type to && takes to written) E13 span
    (needs (is_some (bounds_of value) && has_base (base_in (bounds_in written)) value) E18 span
    (plain to (core.Cast value (call_bounds s.structs to (bounds_in written) site))))
cast_checked s to (AStruct number place) written site span = breaks E13 span

-- no-assumed-bounds: E15
abbrev pub cast_typed : CastWord → Scope → CType → Typed → WrittenBounds → Site → Span → Verdict Typed
cast_typed cast_words.Dynamic s to a written site span = cast_checked s to a written site span
cast_typed cast_words.Assume s to a written site span = breaks E15 span

-- the bounds that are written in a cast have no name for what it gives
abbrev pub cast_bounds : Scope → CType → e.Bounds → Verdict WrittenBounds
cast_bounds s to bounds = passing (declared_bounds s to (length s.locals) (Some bounds)) (λ b. Passes (Some b))
