-- How many elements new memory has, which bounds a cast may have, and what a local array is, where n is an `int` local and p is a pointer to `int`s: their
-- names have the numbers 0 and 1, and so have they.
use Rattle.std.specs.Prelude.{◌≡◌, ℕ, true, false, [], ◌∷◌, Option, Some, None, pos}
use Rattle.ckc_text.specs.declared.place.Span.{Span}
use Rattle.ckc_text.specs.declared.code.Code.TheVariants.{E08, E12, E13, E15, E16, E18}
use Rattle.ckc_tree.specs.declared.expr.BinaryOperator.TheVariants as binary
use Rattle.ckc_tree.specs.declared.expr.CastWord.TheVariants as cast_words
use Rattle.ckc_tree.specs.Types as types
use Rattle.ckc_tree.specs.Types.{TypeName}
use Rattle.ckc_tree.specs.Expressions as e
use Rattle.ckc_tree.specs.Expressions.{Expression}
use Rattle.ckc_tree.specs.declared.stmt.ArrayKind.TheVariants as array_kinds
use Rattle.ckc_tree.specs.Statements as s
use Rattle.ckc_tree.specs.Statements.{Declarator, Initializer}
use Rattle.ckc_names_rules.specs.declared.given.Given.{Given}
use Rattle.pointer_modes.specs.declared.ctype.Mode.TheVariants as modes
use Rattle.pointer_modes.specs.declared.ctype.Kind.TheVariants as kinds
use Rattle.pointer_modes.specs.Types.{CType, Int, Char, Pointer}
use Rattle.bounds_exprs.specs.declared.term.Term.{Term}
use Rattle.bounds_exprs.specs.declared.term.Bounds.{Bounds}
use Rattle.bounds_flow.specs.Flows.{at_entry}
use Rattle.act_words.specs.declared.operator.Operator.TheVariants as operators
use Rattle.act_words.specs.declared.operator.ArithmeticOperator.TheVariants as arithmetics
use Rattle.ckc_core.specs.declared.program.PointerBounds.{PointerBounds}
use Rattle.ckc_core.specs.declared.program.Terminator.TheVariants as terminators
use Rattle.ckc_core.specs.declared.program.Site.{Site}
use Rattle.ckc_core.specs.Core as core
use Rattle.region_typing_rules.specs.Verdicts.{Verdict, Passes, passing, breaks}
use Rattle.region_typing_rules.specs.Scopes.{Scope, Local}
use Rattle.region_typing_rules.specs.Readings.{based_bounds}
use Rattle.region_typing_rules.specs.Operands.{Typed, Value, ForArray, For, OfLocal, plain, is_array, name_typed}
use Rattle.region_typing_rules.specs.NewMemory.{elements_in, has_base, cast_typed}
use Rattle.region_typing_rules.specs.Statements.{both, assigned, declarator}
use Rattle.region_typing_rules.specs.Items.{nothing_known}

abbrev pub here : Span
here = record { from = 0; to = 0 }

abbrev pub site : Site
site = record { place = record { line = 1; col = 1 } }

abbrev given : Given
given = record { null = 100; next_input = 101; print_int = 102; putchar = 103; strlen = 105; main = 104 }

abbrev pub scope : Scope
scope = record (nothing_known given 0) {
  locals = Int ∷ Pointer modes.Checked kinds.Array Int ∷ [];
  visible = record { name = 1; local = 1 } ∷ record { name = 0; local = 0 } ∷ [];
  flow = at_entry 2;
}

abbrev pub name : ℕ → Expression
name number = e.Name (record { name = []; number = number; span = here })

-- ---- numbers of elements

abbrev pub number : ℕ → core.Expression
number k = core.Number (pos k)

abbrev times : core.Expression → core.Expression → core.Expression
times a b = core.Arithmetic (operators.Arithmetic arithmetics.Multiply) a b site

abbrev n : core.Expression
n = core.Local 0 None

-- `10 * sizeof(int)`, `sizeof(int) * n`, `sizeof(int)` and `10`
abbrev size_of_int : Expression
size_of_int = e.SizeOf (record { base = types.IntType here; stars = 0 }) here

abbrev ten_sizes : Expression
ten_sizes = e.Binary binary.Multiply (e.Number 10 here) size_of_int here

abbrev sizes : Expression
sizes = e.Binary binary.Multiply size_of_int (name 0) here

-- ten of ten sizes, n of n sizes, and one of one
abbrev pub factors : Type 0
factors =
    (elements_in scope Int ten_sizes (times (number 10) (number 4)) ≡ Some (number 10)) × (elements_in scope Int sizes (times (number 4) n) ≡ Some n)
    × (elements_in scope Int size_of_int (number 4) ≡ Some (number 1))

-- a number is as many `char`s, and so is any size; but it isn't a number of `int`s, and neither is a product without their size
abbrev pub bytes : Type 0
bytes =
    let product = e.Binary binary.Multiply (e.Number 10 here) (name 0) here in
    (elements_in scope Char (e.Number 10 here) (number 10) ≡ Some (number 10)) × (elements_in scope Char size_of_int (number 4) ≡ Some (number 4))
    × (elements_in scope Int (e.Number 10 here) (number 10) ≡ None) × (elements_in scope Int product (times (number 10) n) ≡ None)

-- ---- casts

abbrev pub term : Option ℕ → ℕ → Term
term var plus = record { var = var; plus = pos plus }

abbrev pub from_to : Option ℕ → Term → Term → Bounds
from_to base lo hi = record { base = base; lo = lo; hi = hi }

abbrev pub at_node : Bounds → Option PointerBounds
at_node b = Some (record { bounds = b; size = 4; terminated = false; site = site })

abbrev pub three : Bounds
three = from_to None (term None 0) (term None 3)

-- p with three elements, without bounds, and as it is cast to two elements from itself or from its place
abbrev p : core.Expression
p = core.Local 1 (at_node three)

abbrev unknown : core.Expression
unknown = core.Local 1 None

abbrev two_from : Option ℕ → Bounds
two_from base = from_to base (term None 0) (term None 2)

abbrev cast : Option ℕ → core.Expression
cast base = core.Cast p (at_node (two_from base))

-- a local pointer counts as its own base, and so may a cast of it; a cast of that has the base too, and one without a base has none
abbrev pub bases : Type 0
bases =
    (has_base (Some 1) p ≡ true) × (has_base (Some 1) (cast (Some 1)) ≡ true) × (has_base (Some 0) (cast (Some 1)) ≡ false)
    × (has_base (Some 1) (cast None) ≡ false) × (has_base None (cast None) ≡ true)
    × (based_bounds (cast (Some 1)) ≡ Some (two_from (Some 1))) × (has_base (Some 1) unknown ≡ false)

abbrev pub row : CType
row = Pointer modes.Checked kinds.Array Int

abbrev single : CType
single = Pointer modes.Checked kinds.One Int

abbrev of_local : core.Expression → Typed
of_local value = Value row false value (For (OfLocal 1))

-- one to a single element has no bounds of its own, and one to an array has those that are written; of a pointer without bounds there is none
abbrev pub casts : Type 0
casts =
    (cast_typed cast_words.Dynamic scope single (of_local p) None site here ≡ plain single (core.Cast p (at_node (from_to None (term None 0) (term None 1)))))
    × (cast_typed cast_words.Dynamic scope row (of_local p) (Some (Some (two_from (Some 1)))) site here ≡ plain row (cast (Some 1)))
    × (cast_typed cast_words.Dynamic scope row (of_local p) None site here ≡ breaks E13 here)
    × (cast_typed cast_words.Dynamic scope single (of_local p) (Some None) site here ≡ breaks E13 here)
    × (cast_typed cast_words.Dynamic scope row (of_local unknown) (Some (Some (two_from None))) site here ≡ breaks E18 here)
    × (cast_typed cast_words.Dynamic scope row (of_local p) (Some (Some (two_from (Some 0)))) site here ≡ breaks E18 here)
    × (cast_typed cast_words.Assume scope row (of_local p) (Some (Some (two_from None))) site here ≡ breaks E15 here)

-- ---- local arrays

-- where the local with the number 1 is an array, and another local may follow
abbrev with_one_array : Scope
with_one_array = record scope { arrays = 1 ∷ []; flow = at_entry 3 }

-- `a[n]`, with bounds and an initial value, or without
abbrev array : ℕ → Option e.Bounds → Option Initializer → Declarator
array length bounds initial = record {
  stars = 0;
  name = record { name = []; number = 2; span = here };
  array = Some (record { kind = array_kinds.Checked; length = length; span = here });
  bounds = bounds;
  initializer = initial;
  span = here;
}

abbrev becomes : Declarator → Verdict core.Statement
becomes d = passing (declarator (λ byte. record { line = 1; col = 1 }) with_one_array (types.IntType here) Int here d) (λ w. Passes w.0)

-- null, and then new memory of so many elements
abbrev three_made : core.Statement
three_made =
    let memory = core.Allocate (number 3) (record { type = Int; stride = 4; number = pos 0 } ∷ []) terminators.Absent (at_node three) in
    both (core.SetLocal 2 core.Null) (core.SetLocal 2 memory)

-- an array has a length that isn't too large, and neither bounds nor a value of its own. Its name stands for no place
abbrev pub arrays : Type 0
arrays =
    (becomes (array 3 None None) ≡ Passes three_made) × (becomes (array 0 None None) ≡ breaks E08 here) × (becomes (array 8193 None None) ≡ breaks E08 here)
    × (becomes (array 3 (Some (e.Count (e.Number 3 here) here)) None) ≡ breaks E16 here)
    × (becomes (array 3 None (Some (s.Value (e.Number 0 here)))) ≡ breaks E13 here)
    × (name_typed with_one_array (Local 1 row) site ≡ Value row false unknown ForArray)
    × (name_typed scope (Local 1 row) site ≡ Value row false unknown (For (OfLocal 1)))
    × (is_array (2 ∷ 1 ∷ []) 1 ≡ true) × (is_array (2 ∷ 1 ∷ []) 0 ≡ false)
    × (assigned (Value row false unknown ForArray) here (λ type place. Passes core.Nothing) ≡ breaks E12 here)
