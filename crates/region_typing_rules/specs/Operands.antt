-- What expressions are, and the rules of places, operators and conversions, in the order in which they are asked of a node behind its children.
use Rattle.std.specs.Prelude.{ℕ, suc, ◌+◌, ◌-◌, nat_lt, nat_le, Bool, true, false, not, ◌&&◌, ◌||◌, ◌==◌, List, [], ◌∷◌, length, pos}
use Rattle.std.specs.Prelude.{Option, Some, None, is_none, is_some}
use Rattle.ckc_text.specs.declared.place.Place.{Place}
use Rattle.ckc_text.specs.declared.place.Span.{Span}
use Rattle.ckc_text.specs.declared.code.Code.TheVariants.{E08, E10, E12, E13, E17, E18, E19, E22, E26}
use Rattle.ckc_tree.specs.declared.expr.UnaryOperator.{UnaryOperator}
use Rattle.ckc_tree.specs.declared.expr.UnaryOperator.TheVariants as unary
use Rattle.ckc_tree.specs.declared.expr.BinaryOperator.{BinaryOperator}
use Rattle.ckc_tree.specs.declared.expr.BinaryOperator.TheVariants as binary
use Rattle.bounds_exprs.specs.Normal.{is_same}
use Rattle.pointer_modes.specs.declared.ctype.Mode.{Mode}
use Rattle.pointer_modes.specs.declared.ctype.Mode.TheVariants as modes
use Rattle.pointer_modes.specs.declared.ctype.Kind.{Kind}
use Rattle.pointer_modes.specs.declared.ctype.Kind.TheVariants as kinds
use Rattle.pointer_modes.specs.Types.{CType, Int, Char, Struct, Pointer, Member, Structure, members_of}
use Rattle.pointer_modes.specs.Layout.{Cell, cells_of, size_of}
use Rattle.ckc_core.specs.declared.program.Site.{Site}
use Rattle.act_words.specs.declared.operator.Operator.{Operator}
use Rattle.act_words.specs.declared.operator.ArithmeticOperator.TheVariants as arithmetics
use Rattle.act_words.specs.declared.operator.BitwiseOperator.TheVariants as bits
use Rattle.act_words.specs.declared.operator.Operator.TheVariants as operators
use Rattle.act_words.specs.declared.operator.Comparison.{Comparison}
use Rattle.act_words.specs.declared.operator.Comparison.TheVariants as comparisons
use Rattle.ckc_core.specs.declared.program.Direction.{Direction}
use Rattle.ckc_core.specs.declared.program.Direction.TheVariants as directions
use Rattle.ckc_core.specs.declared.program.PointerBounds.{PointerBounds}
use Rattle.ckc_core.specs.Core as core
use Rattle.ckc_core.specs.Meaning.{bounds_of}
use Rattle.bounds_exprs.specs.Normal.{constant as constant_term, is_same}
use Rattle.bounds_exprs.specs.declared.term.Bounds.{Bounds}
use Rattle.bounds_flow.specs.Flows.{Knowledge, held_at}
use Rattle.bounds_flow.specs.Settling.{Finding, Meets, WasLost, Falls, bounds_find}
use Rattle.region_typing_rules.specs.Verdicts.{Verdict, Passes, passing, needs, breaks, picked}
use Rattle.region_typing_rules.specs.Scopes.{Scope, WrittenBounds, Named, Local, Object, Array, Nothing}
use Rattle.region_typing_rules.specs.Scopes.{members_named}
use Rattle.region_typing_rules.specs.Readings.{constant, sum_bounds, own_bounds, based_bounds, is_null, left_told}
use Rattle.region_typing_rules.specs.Knowing.{knowing}
use Rattle.region_typing_rules.specs.Types.{is_number, is_pointer, is_single, is_row, are_comparable}
use Rattle.region_typing_rules.specs.Types.{converts}
use Rattle.region_typing_rules.specs.DeclaredBounds.{row_of}
use Rattle.region_typing_rules.specs.Strings.{FoundText}

-- where a value may be stored: a local, a cell, a file-level pointer for which bounds are declared, or one that a zero ends and whose bounds are
-- declared as unknown
pub data Lvalue : Type 0 where
  OfLocal : (local : ℕ) → Lvalue
  OfCell : (place : core.Place) → Lvalue
  OfBounded : (object : ℕ) (bounds : Bounds) → Lvalue
  OfUnknown : (object : ℕ) → Lvalue

-- what an expression stands for beside its value: nothing, the name of an array, or where a value may be stored
pub data Standing : Type 0 where
  ForNothing : Standing
  ForArray : Standing
  For : (place : Lvalue) → Standing

-- what an expression is
pub data Typed : Type 0 where
  -- a value of a scalar type, which may be the constant 0, and what it stands for
  Value : (type : CType) (zero : Bool) (value : core.Expression) (place : Standing) → Typed
  -- a struct, which is a parameter, or stands at a place
  AStruct : (number : ℕ) (place : Lvalue) → Typed

-- what a call is: a value of a type, or a statement where it has no result
pub data Called : Type 0 where
  Gives : (type : CType) (value : core.Expression) → Called
  GivesNothing : (call : core.Statement) → Called

-- where the bytes of a source stand
abbrev pub Places : Type 0
Places = ℕ → Place

abbrev pub site_at : Places → Span → Site
site_at at span = record { place = at span.from }

-- ---- bounds

-- a checked pointer to one element has the ends 0 and 1; no other has its bounds by its type alone
abbrev pub bounds_by : Mode → Kind → PointerBounds → Option PointerBounds
bounds_by modes.Checked kinds.One p = Some p
bounds_by modes.Checked kinds.Array p = None
bounds_by modes.Checked kinds.Nt p = None
bounds_by modes.Tainted kind p = None
bounds_by modes.Raw kind p = None

-- the bounds of a value of a type, where it stands
abbrev pub bounds_at : List Structure → CType → Site → Option PointerBounds
bounds_at structs Int site = None
bounds_at structs Char site = None
bounds_at structs (Struct number) site = None
bounds_at structs (Pointer mode kind target) site =
    bounds_by mode kind
    (record {
      bounds = record { base = None; lo = constant_term (pos 0); hi = constant_term (pos 1) };
      size = size_of structs target;
      terminated = false;
      site = site;
    })

-- a value with bounds at its node
abbrev pub noted : Option PointerBounds → core.Expression → core.Expression
noted b (core.Number number) = core.Number number
noted b core.Null = core.Null
noted b (core.Local local bounds) = core.Local local b
noted b (core.Load type place bounds) = core.Load type place b
noted b (core.AddressOf place bounds) = core.AddressOf place b
noted b (core.Negate operand site) = core.Negate operand site
noted b (core.Complement operand) = core.Complement operand
noted b (core.Not operand) = core.Not operand
noted b (core.Arithmetic operator left right site) = core.Arithmetic operator left right site
noted b (core.Compare comparison left right) = core.Compare comparison left right
noted b (core.Same left right) = core.Same left right
noted b (core.AndAlso left right) = core.AndAlso left right
noted b (core.OrElse left right) = core.OrElse left right
noted b (core.LowByte operand) = core.LowByte operand
noted b (core.Call callee arguments bounds) = core.Call callee arguments b
noted b core.NextInput = core.NextInput
noted b (core.Sum pointer direction number site bounds) = core.Sum pointer direction number site b
noted b (core.Order comparison left right site) = core.Order comparison left right site
noted b (core.Allocate count element terminator bounds) = core.Allocate count element terminator b
noted b (core.Length pointer site) = core.Length pointer site
noted b (core.Cast pointer bounds) = core.Cast pointer b

-- bounds that its type gives a value; where it gives none, the node has those that it was built with
abbrev pub noted_if : Option PointerBounds → core.Expression → core.Expression
noted_if None value = value
noted_if (Some p) value = noted (Some p) value

abbrev pub with_bounds : List Structure → Site → Typed → Typed
with_bounds structs site (Value type zero value place) = Value type zero (noted_if (bounds_at structs type site) value) place
with_bounds structs site (AStruct number place) = AStruct number place

-- a checked pointer in a cell, where a zero may end what it leads to
abbrev pub in_cell_by : Mode → Kind → (ended : PointerBounds) → Option PointerBounds → Option PointerBounds
in_cell_by modes.Checked kinds.Nt ended other = Some ended
in_cell_by modes.Checked kinds.One ended other = other
in_cell_by modes.Checked kinds.Array ended other = other
in_cell_by modes.Tainted kind ended other = other
in_cell_by modes.Raw kind ended other = other

-- the bounds of a value of a type that stands in a cell: the end of a null-terminated pointer may be where it stands
abbrev pub cell_bounds : List Structure → CType → Site → Option PointerBounds
cell_bounds structs Int site = None
cell_bounds structs Char site = None
cell_bounds structs (Struct number) site = None
cell_bounds structs (Pointer mode kind target) site =
    in_cell_by mode kind (record { bounds = row_of 0; size = size_of structs target; terminated = true; site = site })
    (bounds_at structs (Pointer mode kind target) site)

abbrev pub with_cell_bounds : List Structure → Site → Typed → Typed
with_cell_bounds structs site (Value type zero value place) = Value type zero (noted_if (cell_bounds structs type site) value) place
with_cell_bounds structs site (AStruct number place) = AStruct number place

-- the bounds of one element
abbrev pub one_element : Bounds
one_element = row_of 1

abbrev or_based : Option Bounds → Option Bounds → Option Bounds
or_based None based = based
or_based (Some b) based = Some b

abbrev pub at_site : Site → Option PointerBounds → Option Bounds → Option PointerBounds
at_site site None bounds = None
at_site site (Some p) None = None
at_site site (Some p) (Some b) = Some (record { bounds = b; size = p.size; terminated = p.terminated; site = site })

-- the bounds of a sum: those without a base where there are any, and else those from a base
abbrev pub sum_node : List CType → Direction → core.Expression → core.Expression → Site → Option PointerBounds
sum_node types direction pointer number site =
    at_site site (bounds_of pointer) (or_based (sum_bounds direction (constant types number) (own_bounds pointer)) (based_bounds pointer))

-- an expression whose value may be a pointer, which begins at the site
abbrev pub bounded : Scope → Site → Verdict Typed → Verdict Typed
bounded s site verdict = passing verdict (λ t. Passes (with_bounds s.structs site t))

-- the same where it stands in a cell
abbrev pub in_cell : Scope → Site → Verdict Typed → Verdict Typed
in_cell s site verdict = passing verdict (λ t. Passes (with_cell_bounds s.structs site t))

abbrev pub plain : CType → core.Expression → Verdict Typed
plain type value = Passes (Value type false value ForNothing)

abbrev pub number : core.Expression → Verdict Typed
number value = plain Int value

-- ---- places

-- a scalar at a place is its value there, and a struct is the place
abbrev pub at_place : CType → core.Place → Typed
at_place Int place = Value Int false (core.Load Int place None) (For (OfCell place))
at_place Char place = Value Char false (core.Load Char place None) (For (OfCell place))
at_place (Pointer mode kind target) place = Value (Pointer mode kind target) false (core.Load (Pointer mode kind target) place None) (For (OfCell place))
at_place (Struct number) place = AStruct number (OfCell place)

-- the bounds in force of a pointer, at its node; a pointer to elements without bytes, which no source has, has none
abbrev pub in_force : List Structure → Kind → CType → Option Bounds → Site → Option PointerBounds
in_force structs kinds.Array target (Some b) site =
    picked (nat_lt 0 (size_of structs target)) (Some (record { bounds = b; size = size_of structs target; terminated = false; site = site })) None
in_force structs kinds.Array target None site = None
in_force structs kinds.One target bounds site = None
in_force structs kinds.Nt target (Some b) site = Some (record { bounds = b; size = size_of structs target; terminated = true; site = site })
in_force structs kinds.Nt target None site = None

-- whether a local is an array
abbrev pub is_array : List ℕ → ℕ → Bool
is_array [] local = false
is_array (array ∷ arrays) local = picked (local == array) true (is_array arrays local)

-- what a local stands for: the name of an array stands for no place
abbrev pub local_standing : Bool → ℕ → Standing
local_standing true local = ForArray
local_standing false local = For (OfLocal local)

abbrev pub local_typed : List Structure → Knowledge → ℕ → CType → Bool → Site → Typed
local_typed structs f local Int array site = Value Int false (core.Local local None) (local_standing array local)
local_typed structs f local Char array site = Value Char false (core.Local local None) (local_standing array local)
local_typed structs f local (Pointer mode kind target) array site =
    Value (Pointer mode kind target) false (core.Local local (in_force structs kind target (held_at f.held local).bounds site)) (local_standing array local)
local_typed structs f local (Struct number) array site = AStruct number (OfLocal local)

-- the name of an array is a pointer to its first element, with all of them but the zero that ends it
abbrev pub array_typed : List Structure → ℕ → CType → ℕ → (ended : Bool) → Site → Typed
array_typed structs object type length false site =
    Value (Pointer modes.Checked kinds.Array type) false
    (core.AddressOf (core.Direct object 0) (Some (record { bounds = row_of length; size = size_of structs type; terminated = false; site = site }))) ForArray
array_typed structs object type length true site =
    Value (Pointer modes.Checked kinds.Nt type) false
    (core.AddressOf (core.Direct object 0)
    (Some (record { bounds = row_of (length - 1); size = size_of structs type; terminated = true; site = site }))) ForArray

-- a string is a pointer to its first character, with all of them but the zero that ends it
abbrev pub text_value : List Structure → FoundText → Site → Typed
text_value structs t site =
    Value (Pointer modes.Checked kinds.Nt Char) false
    (core.AddressOf (core.Direct t.object 0) (Some (record { bounds = row_of t.length; size = size_of structs Char; terminated = true; site = site })))
    ForNothing

-- few-static-bytes: at most 32,768 up to its end (E08, at the string). A string that isn't listed among those of the program has no block (E13)
abbrev pub text_typed : List Structure → Option FoundText → Site → Span → Verdict Typed
text_typed structs None site span = breaks E13 span
text_typed structs (Some t) site span =
    needs (nat_le t.taken 32768) E08 span (Passes (text_value structs t site))

-- a file-level pointer with the bounds that are declared for it; no other type has any
abbrev pub pointer_typed : List Structure → ℕ → CType → Bounds → Site → Typed
pointer_typed structs object Int b site = at_place Int (core.Direct object 0)
pointer_typed structs object Char b site = at_place Char (core.Direct object 0)
pointer_typed structs object (Struct number) b site = at_place (Struct number) (core.Direct object 0)
pointer_typed structs object (Pointer mode kind target) b site =
    Value (Pointer mode kind target) false
    (core.Load (Pointer mode kind target) (core.Direct object 0) (in_force structs kind target (Some b) site)) (For (OfBounded object b))

-- a file-level pointer whose bounds are declared as unknown: one that a zero ends has none, and others are as without
abbrev pub unknown_typed : List Structure → ℕ → CType → Site → Typed
unknown_typed structs object Int site = at_place Int (core.Direct object 0)
unknown_typed structs object Char site = at_place Char (core.Direct object 0)
unknown_typed structs object (Struct number) site = at_place (Struct number) (core.Direct object 0)
unknown_typed structs object (Pointer mode kinds.One target) site = at_place (Pointer mode kinds.One target) (core.Direct object 0)
unknown_typed structs object (Pointer mode kinds.Array target) site = at_place (Pointer mode kinds.Array target) (core.Direct object 0)
unknown_typed structs object (Pointer mode kinds.Nt target) site =
    Value (Pointer mode kinds.Nt target) false (core.Load (Pointer mode kinds.Nt target) (core.Direct object 0) None) (For (OfUnknown object))

-- a file-level variable
abbrev pub object_typed : List Structure → ℕ → CType → WrittenBounds → Site → Typed
object_typed structs object type None site = with_cell_bounds structs site (at_place type (core.Direct object 0))
object_typed structs object type (Some None) site = unknown_typed structs object type site
object_typed structs object type (Some (Some b)) site = pointer_typed structs object type b site

abbrev pub name_typed : Scope → Named → Site → Typed
name_typed s (Local local type) site = local_typed s.structs s.flow local type (is_array s.arrays local) site
name_typed s (Object object type bounds) site = object_typed s.structs object type bounds site
name_typed s (Array object type length ended) site = array_typed s.structs object type length ended site
name_typed s Nothing site = Value Int true (core.Number (pos 0)) ForNothing

-- so many bytes behind a place, where checks name another expression
abbrev pub member_place : core.Place → ℕ → Site → core.Place
member_place (core.Direct object first) offset site = core.Direct object (first + offset)
member_place (core.Through pointer index first before) offset site = core.Through pointer index (first + offset) site

-- the place of a struct. A parameter that is one stands in no memory, and its function is refused behind its body (E13): until
-- then it stands behind a pointer that is none, which no core that has types holds
abbrev pub struct_place : Lvalue → Site → core.Place
struct_place (OfLocal local) site = core.Through (core.Local local None) core.First 0 site
struct_place (OfCell place) site = place
struct_place (OfBounded object bounds) site = core.Direct object 0
struct_place (OfUnknown object) site = core.Direct object 0

-- a member of a struct, where these are the names of its members: its number, and its type
abbrev pub member_from : ℕ → List ℕ → List Member → ℕ → Option (ℕ × CType)
member_from number [] members name = None
member_from number (other ∷ names) [] name = None
member_from number (other ∷ names) (m ∷ members) name = picked (name == other) (Some (number, m.ctype)) (member_from (suc number) names members name)

-- the byte place of a cell among others
abbrev pub offset_among : List Cell → ℕ → ℕ
offset_among [] cell = 0
offset_among (first ∷ cells) ℕ.zero = first.offset
offset_among (first ∷ cells) (suc cell) = offset_among cells cell

-- member-exists: E10
abbrev pub member_at : Scope → ℕ → core.Place → ℕ → Site → Span → Verdict Typed
member_at s struct place name site span = found (member_from 0 (members_named s struct) (members_of s.structs struct) name)
  where
    found : Option (ℕ × CType) → Verdict Typed
    found None = breaks E10 span
    found (Some m) = Passes (at_place m.1 (member_place place (offset_among (cells_of s.structs (Struct struct)) m.0) site))

-- member-of-struct: the left side of a dot is a struct (E13)
abbrev pub dotted : Scope → Typed → ℕ → Site → Span → Verdict Typed
dotted s (Value type zero value place) name site span = breaks E13 span
dotted s (AStruct number place) name site span = member_at s number (struct_place place site) name site span

-- pointer-has-bounds: E18
abbrev pub with_elements : {A : Type 0} → core.Expression → Span → Verdict A → Verdict A
with_elements value span next = needs (is_some (bounds_of value)) E18 span next

-- the element at which a pointer with bounds stands
abbrev pub first_element : core.Expression → Site → core.Place
first_element value site = core.Through value (core.Element (core.Number (pos 0)) false) 0 site

-- the same where that may be the zero at its upper end
abbrev pub first_or_end : core.Expression → Site → core.Place
first_or_end value site = core.Through value (core.Element (core.Number (pos 0)) true) 0 site

-- a pointer is asked for its bounds behind the member
abbrev pub pointed_by : Scope → CType → core.Expression → ℕ → Site → Span → Verdict Typed
pointed_by s (Pointer mode kinds.One (Struct number)) value name site span = member_at s number (core.Through value core.First 0 site) name site span
pointed_by s (Pointer mode kinds.Array (Struct number)) value name site span =
    passing (member_at s number (first_element value site) name site span) (λ t. with_elements value span (Passes t))
pointed_by s _ value name site span = breaks E13 span

-- member-of-struct: the left side of an arrow is a pointer to a struct (E13)
abbrev pub arrowed : Scope → Typed → ℕ → Site → Span → Verdict Typed
arrowed s (Value type zero value place) name site span = pointed_by s type value name site span
arrowed s (AStruct number place) name site span = breaks E13 span

abbrev pub pointed_at : CType → core.Expression → Site → Span → Verdict Typed
pointed_at (Pointer mode kinds.One target) value site span = Passes (at_place target (core.Through value core.First 0 site))
pointed_at (Pointer mode kinds.Array target) value site span = with_elements value span (Passes (at_place target (first_element value site)))
pointed_at (Pointer mode kinds.Nt target) value site span = with_elements value span (Passes (at_place target (first_or_end value site)))
pointed_at _ value site span = breaks E13 span

-- operand-is-pointer: E13. pointer-has-bounds: E18
abbrev pub dereferenced : Typed → Site → Span → Verdict Typed
dereferenced (Value type zero value place) site span = pointed_at type value site span
dereferenced (AStruct number place) site span = breaks E13 span

-- an element, but not what stands at the upper end of a null-terminated pointer
abbrev pub below_end : core.Index → core.Index
below_end core.First = core.First
below_end (core.Element number terminated) = core.Element number false

-- the same place, whose check names another expression, and lets no upper end through
abbrev pub checked_at : core.Place → Site → core.Place
checked_at (core.Direct object offset) site = core.Direct object offset
checked_at (core.Through pointer index offset before) site = core.Through pointer (below_end index) offset site

-- a pointer to a place, whose check names the address
abbrev pub pointer_to : CType → core.Place → Site → Typed
pointer_to type p site = Value (Pointer modes.Checked kinds.One type) false (core.AddressOf (checked_at p site) None) ForNothing

abbrev pub address_at : CType → Standing → Site → Span → Verdict Typed
address_at type ForNothing site span = breaks E12 span
address_at type ForArray site span = breaks E22 span
address_at type (For (OfLocal local)) site span = breaks E22 span
address_at type (For (OfCell place)) site span = Passes (pointer_to type place site)
address_at type (For (OfBounded object bounds)) site span = breaks E22 span
address_at type (For (OfUnknown object)) site span = breaks E22 span

-- address-of-place: a variable, an element or a member (E12). address-allowed: no local, no array, and no pointer for which bounds are
-- declared, or that a zero ends and whose bounds are declared as unknown (E22)
abbrev pub address : Typed → Site → Span → Verdict Typed
address (Value type zero value place) site span = address_at type place site span
address (AStruct number place) site span = address_at (Struct number) (For place) site span

-- ---- operators

-- a number, for an operator that takes numbers (E13)
abbrev pub number_of : {A : Type 0} → Typed → Span → (core.Expression → Verdict A) → Verdict A
number_of (Value type zero value place) span next = needs (is_number type) E13 span (next value)
number_of (AStruct number place) span next = breaks E13 span

-- a scalar, for a condition and for operators on truth (E13)
abbrev pub scalar_of : {A : Type 0} → Typed → Span → (core.Expression → Verdict A) → Verdict A
scalar_of (Value type zero value place) span next = next value
scalar_of (AStruct number place) span next = breaks E13 span

abbrev pub unary_typed : UnaryOperator → Typed → Site → Span → Verdict Typed
unary_typed unary.Deref t site span = dereferenced t site span
unary_typed unary.AddressOf t site span = address t site span
unary_typed unary.Negate t site span = number_of t span (λ v. number (core.Negate v site))
unary_typed unary.Not t site span = scalar_of t span (λ v. number (core.Not v))
unary_typed unary.Complement t site span = number_of t span (λ v. number (core.Complement v))

abbrev pub is_single_value : Typed → Bool
is_single_value (Value type zero value place) = is_single type
is_single_value (AStruct number place) = false

-- its bounds are unknown
abbrev pub lacks_bounds : Typed → Bool
lacks_bounds (Value type zero value place) = is_row type && is_none (bounds_of value)
lacks_bounds (AStruct number place) = false

-- no-arithmetic-on-ptr: E19. pointer-has-bounds: E18
abbrev pub without_ptr : {A : Type 0} → Typed → Typed → Span → Verdict A → Verdict A
without_ptr a b span next = needs (not (is_single_value a || is_single_value b)) E19 span (needs (not (lacks_bounds a || lacks_bounds b)) E18 span next)

-- operands-are-numbers: E13
abbrev pub two_numbers : {A : Type 0} → Typed → Typed → Span → (core.Expression → core.Expression → Verdict A) → Verdict A
two_numbers a b span next = number_of a span (λ v. number_of b span (λ w. next v w))

-- operands-are-scalars: E13
abbrev pub two_scalars : {A : Type 0} → Typed → Typed → Span → (core.Expression → core.Expression → Verdict A) → Verdict A
two_scalars a b span next = scalar_of a span (λ v. scalar_of b span (λ w. next v w))

abbrev pub operator_along : Direction → Operator
operator_along directions.Forward = operators.Arithmetic arithmetics.Add
operator_along directions.Backward = operators.Arithmetic arithmetics.Subtract

-- summands-are-numbers: both, or the second one beside a pointer (E13)
abbrev pub summed : Scope → Direction → Typed → Typed → Site → Span → Verdict Typed
summed s direction (Value (Pointer mode kind target) zero pointer place) b site span =
    number_of b span (λ w. plain (Pointer mode kind target) (core.Sum pointer direction w site (sum_node s.locals direction pointer w site)))
summed s direction a b site span = two_numbers a b span (λ v w. number (core.Arithmetic (operator_along direction) v w site))

abbrev pub sum_typed : Scope → Direction → Typed → Typed → Site → Span → Verdict Typed
sum_typed s direction a b site span = without_ptr a b span (summed s direction a b site span)

-- the constant 0 as a pointer, where the other one is one
abbrev pub as_pointer : Bool → core.Expression → core.Expression
as_pointer true value = core.Null
as_pointer false value = value

abbrev pub equated_values : CType → Bool → core.Expression → CType → Bool → core.Expression → Span → Verdict core.Expression
equated_values t z v u y w span = by_kind (is_number t && is_number u) (are_comparable t u) (is_pointer t && y) (is_pointer u && z)
  where
    by_kind : Bool → Bool → Bool → Bool → Verdict core.Expression
    by_kind true same left right = Passes (core.Compare comparisons.Equal v w)
    by_kind false true left right = Passes (core.Same v w)
    by_kind false false true right = Passes (core.Same v core.Null)
    by_kind false false false true = Passes (core.Same core.Null w)
    by_kind false false false false = breaks E13 span

-- equality-of-like: numbers, pointers of one mode and element, or a pointer and 0 (E13)
abbrev pub equated : Typed → Typed → Span → Verdict core.Expression
equated (Value t z v p) (Value u y w q) span = equated_values t z v u y w span
equated _ _ span = breaks E13 span

-- both bounds count from one base
abbrev pub have_one_base : Option Bounds → Option Bounds → Bool
have_one_base None other = false
have_one_base (Some b) None = false
have_one_base (Some b) (Some d) = is_same b.base d.base

-- two pointers with bounds that count from one base, where a local pointer counts itself; a `ptr` has none
abbrev pub are_related : CType → core.Expression → CType → core.Expression → Bool
are_related t v u w = is_row t && (is_row u && have_one_base (based_bounds v) (based_bounds w))

abbrev pub ordered_values : Comparison → CType → core.Expression → CType → core.Expression → Site → Span → Verdict Typed
ordered_values comparison t v u w site span = by_kind (is_number t && is_number u) (are_comparable t u)
  where
    by_kind : Bool → Bool → Verdict Typed
    by_kind true same = number (core.Compare comparison v w)
    by_kind false true = needs (are_related t v u w) E26 span (number (core.Order comparison v w site))
    by_kind false false = breaks E13 span

-- order-of-like: numbers, or pointers of one mode and element (E13). order-of-related: those have a common base (E26)
abbrev pub ordered : Comparison → Typed → Typed → Site → Span → Verdict Typed
ordered comparison (Value t z v p) (Value u y w q) site span = ordered_values comparison t v u w site span
ordered comparison _ _ site span = breaks E13 span

-- an element, or what stands at the upper end, of a null-terminated pointer
abbrev pub is_ended_element : core.Expression → Bool
is_ended_element (core.Load type (core.Through pointer (core.Element number true) offset site) bounds) = true
is_ended_element _ = false

-- a number that is compared with the constant 0: of such an element that tells whether it is the zero
abbrev pub zero_test : Typed → Typed → core.Expression → core.Expression
zero_test (Value t z v p) (Value u true w q) equal = picked (is_number t && is_ended_element v) (core.Not v) equal
zero_test a b equal = equal

abbrev pub arithmetic : Operator → Site → core.Expression → core.Expression → Verdict Typed
arithmetic operator site v w = number (core.Arithmetic operator v w site)

abbrev pub binary_typed : Scope → BinaryOperator → Typed → Typed → Site → Span → Verdict Typed
binary_typed s binary.Or a b site span = two_scalars a b span (λ v w. number (core.OrElse v w))
binary_typed s binary.And a b site span = two_scalars a b span (λ v w. number (core.AndAlso v w))
binary_typed s binary.BitOr a b site span = two_numbers a b span (arithmetic (operators.Bitwise bits.Or) site)
binary_typed s binary.BitXor a b site span = two_numbers a b span (arithmetic (operators.Bitwise bits.Xor) site)
binary_typed s binary.BitAnd a b site span = two_numbers a b span (arithmetic (operators.Bitwise bits.And) site)
binary_typed s binary.Equal a b site span = passing (equated a b span) number
binary_typed s binary.NotEqual a b site span = passing (equated a b span) (λ v. number (core.Not (zero_test a b v)))
binary_typed s binary.Less a b site span = ordered comparisons.Less a b site span
binary_typed s binary.LessEqual a b site span = ordered comparisons.LessEqual a b site span
binary_typed s binary.Greater a b site span = ordered comparisons.Greater a b site span
binary_typed s binary.GreaterEqual a b site span = ordered comparisons.GreaterEqual a b site span
binary_typed s binary.ShiftLeft a b site span = two_numbers a b span (arithmetic (operators.Arithmetic arithmetics.ShiftLeft) site)
binary_typed s binary.ShiftRight a b site span = two_numbers a b span (arithmetic (operators.Arithmetic arithmetics.ShiftRight) site)
binary_typed s binary.Add a b site span = sum_typed s directions.Forward a b site span
binary_typed s binary.Subtract a b site span = sum_typed s directions.Backward a b site span
binary_typed s binary.Multiply a b site span = two_numbers a b span (arithmetic (operators.Arithmetic arithmetics.Multiply) site)
binary_typed s binary.Divide a b site span = two_numbers a b span (arithmetic (operators.Arithmetic arithmetics.Divide) site)
binary_typed s binary.Remainder a b site span = two_numbers a b span (arithmetic (operators.Arithmetic arithmetics.Remainder) site)

-- what the right operand of an operator is typed in, by its left one: that of `&&`, and that of `||`, knows what the left one told
abbrev pub beside : BinaryOperator → Typed → Scope → Scope
beside operator (Value type zero value place) s = knowing (left_told operator s.locals value s.flow) s
beside operator (AStruct number place) s = s

abbrev pub element_at : CType → core.Expression → core.Expression → Site → Span → Verdict Typed
element_at (Pointer mode kinds.Array target) pointer number site span =
    with_elements pointer span (Passes (at_place target (core.Through pointer (core.Element number false) 0 site)))
element_at (Pointer mode kinds.Nt target) pointer number site span =
    with_elements pointer span (Passes (at_place target (core.Through pointer (core.Element number true) 0 site)))
element_at _ pointer number site span = breaks E19 span

-- operand-is-pointer with a number for an index (E13), no element of a `ptr` (E19), and pointer-has-bounds (E18)
abbrev pub indexed : Typed → Typed → Site → Span → Verdict Typed
indexed (Value t z v p) (Value u y w q) site span = needs (is_pointer t && is_number u) E13 span (element_at t v w site span)
indexed _ _ site span = breaks E13 span

-- ---- conversions

abbrev pub is_met : Finding → Bool
is_met Meets = true
is_met WasLost = false
is_met (Falls asked) = false

abbrev pub in_type : CType → Bool → core.Expression → core.Expression
in_type Int zero value = value
in_type Char zero value = core.LowByte value
in_type (Struct number) zero value = value
in_type (Pointer mode kind target) zero value = as_pointer zero value

-- the bounds that a pointer is asked for, where it becomes one of another kind
abbrev pub asked_as : Kind → Kind → Option Bounds
asked_as kinds.Array kinds.One = Some one_element
asked_as kinds.Nt kinds.One = Some one_element
asked_as kinds.One kinds.One = None
asked_as from kinds.Array = None
asked_as from kinds.Nt = None

abbrev pub asked_of : CType → CType → Option Bounds
asked_of (Pointer mode from target) (Pointer mode' to target') = asked_as from to
asked_of _ _ = None

-- the bounds of a pointer, without a base or with one, are entailed to lie around those that are asked for; null meets any
abbrev pub meets : Knowledge → core.Expression → Option Bounds → Bool
meets f value None = true
meets f value (Some asked) =
    is_null value || (is_met (bounds_find f.facts asked (own_bounds value)) || is_met (bounds_find f.facts asked (based_bounds value)))

-- bounds-are-met: E17
abbrev pub bounds_met : {A : Type 0} → Knowledge → Typed → CType → Span → Verdict A → Verdict A
bounds_met f (Value type zero value place) to span next = needs (zero || meets f value (asked_of type to)) E17 span next
bounds_met f (AStruct number place) to span next = next

-- a value as one of a type that it converts to (E13)
abbrev pub converted : {A : Type 0} → Typed → CType → Span → (core.Expression → Verdict A) → Verdict A
converted (Value type zero value place) to span next = needs (converts type zero to) E13 span (next (in_type to (zero && is_number type) value))
converted (AStruct number place) to span next = breaks E13 span
