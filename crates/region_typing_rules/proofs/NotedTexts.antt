-- A local whose bytes the walk counts has at its node the bounds that are in force.
use Rattle.std.proofs.Common.{◌≡◌, ℕ, ◌^◌, Bool, true, false, List, [], ◌∷◌, length, Option, Some, None, refl}
use Rattle.std.specs.Prelude.{◌==◌, nat_lt, ◌&&◌, is_some}
use Rattle.ckc_text.specs.declared.place.Span.{Span}
use Rattle.ckc_text.specs.declared.code.Code.TheVariants.{E04, E13, E14, E26}
use Rattle.ckc_tree.specs.declared.expr.CastWord.{CastWord}
use Rattle.ckc_tree.specs.declared.expr.UnaryOperator.{UnaryOperator}
use Rattle.ckc_tree.specs.declared.expr.UnaryOperator.TheVariants as unary
use Rattle.ckc_tree.specs.declared.expr.BinaryOperator.{BinaryOperator}
use Rattle.ckc_tree.specs.declared.expr.BinaryOperator.TheVariants as binary
use Rattle.ckc_tree.specs.Expressions as e
use Rattle.ckc_tree.specs.Expressions.{Expression}
use Rattle.pointer_modes.specs.declared.ctype.Kind.TheVariants as kinds
use Rattle.bounds_exprs.specs.declared.term.Bounds.{Bounds}
use Rattle.pointer_modes.specs.Types.{CType, Int, Char, Struct, Pointer, Structure, members_of}
use Rattle.pointer_modes.specs.Layout.{cells_of}
use Rattle.ckc_core.specs.declared.program.Site.{Site}
use Rattle.act_words.specs.declared.operator.Operator.{Operator}
use Rattle.act_words.specs.declared.operator.ArithmeticOperator.TheVariants as arithmetics
use Rattle.act_words.specs.declared.operator.BitwiseOperator.TheVariants as bits
use Rattle.act_words.specs.declared.operator.Operator.TheVariants as operators
use Rattle.act_words.specs.declared.operator.Comparison.{Comparison}
use Rattle.act_words.specs.declared.operator.Comparison.TheVariants as comparisons
use Rattle.ckc_core.specs.declared.program.Callee.{Callee}
use Rattle.ckc_core.specs.declared.program.Direction.{Direction}
use Rattle.ckc_core.specs.declared.program.Direction.TheVariants as directions
use Rattle.ckc_core.specs.Core as core
use Rattle.ckc_core.specs.Meaning.{bounds_of}
use Rattle.region_typing_rules.specs.Verdicts.{Verdict, Passes, passing}
use Rattle.region_typing_rules.specs.Scopes.{Scope, Signature, WrittenBounds, Named, Local, Object, Array, Nothing, named, function_named, members_named}
use Rattle.region_typing_rules.specs.Types.{converts, type_named, is_number, is_pointer, are_comparable}
use Rattle.region_typing_rules.specs.Operands.{Places, OfLocal, OfCell, OfBounded, OfUnknown, ForNothing, ForArray, For, Typed, Value, AStruct, Called, Gives, GivesNothing, site_at, with_bounds, with_cell_bounds, in_cell, number, at_place, local_typed, name_typed, object_typed, is_array}
use Rattle.region_typing_rules.specs.Operands.{struct_place, member_place, member_from, offset_among, member_at, dotted, with_elements, first_element, first_or_end, pointed_by, arrowed, pointed_at, dereferenced, address, scalar_of, unary_typed, two_numbers, two_scalars, operator_along, summed, sum_typed}
use Rattle.region_typing_rules.specs.Operands.{equated, zero_test, are_related, ordered_values, ordered, arithmetic, binary_typed, beside, element_at, indexed}
use Rattle.region_typing_rules.specs.Calls.{arguments_as, is_import, call_of, declared_callee, writes, is_text, length_typed, text_pointer, measures, predefined_call, called, with_result}
use Rattle.region_typing_rules.specs.NewMemory.{cast_typed, cast_bounds}
use Rattle.region_typing_rules.specs.Expressions.{constant_typed, typed, all_typed}
use Rattle.region_typing_rules.proofs.Knowledge.{crossing_promises}
use Rattle.region_typing_rules.proofs.Verdicts.{Promises, passing_promises, needs_promises, convertible_promises, promised_so, elements_promise, apart_promises, all_met_promise}
use Rattle.region_typing_rules.proofs.Kept.{passing_any}
use Rattle.region_typing_rules.proofs.Memory.{of_any, malloc_promises, calloc_promises, cast_promises}
use Rattle.std.proofs.Common.{sym, ap, ◌∙◌}
use Rattle.std.specs.List.{AllByRecursion}
use Rattle.std.proofs.lemmas.Bool.{and_parts}
use Rattle.std.proofs.lemmas.Option.{same_Some}
use Rattle.ckc_tree.specs.Statements as s
use Rattle.ckc_tree.specs.Statements.{Initializer, Assignment}
use Rattle.ckc_tree.specs.declared.stmt.StoreOperator.{StoreOperator}
use Rattle.ckc_tree.specs.declared.stmt.StoreOperator.TheVariants as stores
use Rattle.ckc_tree.specs.Expressions.{Expressions}
use Rattle.pointer_modes.specs.declared.ctype.Mode.TheVariants as modes
use Rattle.pointer_modes.specs.Layout.{size_of}
use Rattle.bounds_flow.specs.Flows.{held_at}
use Rattle.region_typing_rules.specs.Verdicts.{Stops, breaks}
use Rattle.ckc_text.specs.declared.code.Code.TheVariants.{E17, E18}
use Rattle.region_typing_rules.specs.DeclaredBounds.{unwritten_bounds}
use Rattle.region_typing_rules.specs.Operands.{Lvalue, bounded, bounds_at, cell_bounds, array_typed, converted, in_force, in_type, meets, noted_if, operator_along, sum_node}
use Rattle.region_typing_rules.specs.Statements.{assigned, assignment, declared_for, initialised, meets_declared, moved, one, step_of, store, stored, update, updated, updated_as}
use Rattle.region_typing_rules.proofs.Sources.{number_any, numbers_any}
use Rattle.region_typing_rules.proofs.Verdicts.{met_promises}
use Rattle.ckc_core.specs.declared.program.PointerBounds.{PointerBounds}
use Rattle.pointer_modes.specs.declared.ctype.Mode.{Mode}
use Rattle.region_typing_rules.proofs.TextBlocks.{any_text}
use Rattle.region_typing_rules.specs.Strings.{text_at}

-- ---- expressions that are no locals and no counts

abbrev IsOtherValue : core.Expression → Type 0
IsOtherValue (core.Local k b) = ⊥
IsOtherValue (core.Length pointer site) = ⊥
IsOtherValue _ = Unit {0}

abbrev IsOther : Typed → Type 0
IsOther (Value type zero value place) = IsOtherValue value
IsOther (AStruct number place) = Unit {0}

other_noted : (b : Option PointerBounds) (v : core.Expression) → IsOtherValue v → IsOtherValue (noted_if b v)
other_noted None v h = h
other_noted (Some p) (core.Local k b) h = h
other_noted (Some p) (core.Length pointer site) h = h
other_noted (Some p) v h = tt

with_cell_bounds_other : (structs : List Structure) (site : Site) (t : Typed) → IsOther t → IsOther (with_cell_bounds structs site t)
with_cell_bounds_other structs site (Value type zero value place) h = other_noted (cell_bounds structs type site) value h
with_cell_bounds_other structs site (AStruct number place) h = tt

in_cell_other : (s : Scope) (site : Site) (v : Verdict Typed) → Promises IsOther v → Promises IsOther (in_cell s site v)
in_cell_other s site v h = passing_promises IsOther IsOther v _ h (with_cell_bounds_other s.structs site)

at_place_other : (t : CType) (p : core.Place) → IsOther (at_place t p)
at_place_other Int p = tt
at_place_other Char p = tt
at_place_other (Struct number) p = tt
at_place_other (Pointer m k t) p = tt

object_other : (structs : List Structure) (k : ℕ) (t : CType) (bounds : WrittenBounds) (site : Site) → IsOther (object_typed structs k t bounds site)
object_other structs k t None site = with_cell_bounds_other structs site (at_place t (core.Direct k 0)) (at_place_other t (core.Direct k 0))
object_other structs k Int (Some None) site = tt
object_other structs k Char (Some None) site = tt
object_other structs k (Struct number) (Some None) site = tt
object_other structs k (Pointer m kinds.One t) (Some None) site = tt
object_other structs k (Pointer m kinds.Array t) (Some None) site = tt
object_other structs k (Pointer m kinds.Nt t) (Some None) site = tt
object_other structs k Int (Some (Some b)) site = tt
object_other structs k Char (Some (Some b)) site = tt
object_other structs k (Struct number) (Some (Some b)) site = tt
object_other structs k (Pointer m d t) (Some (Some b)) site = tt

address_other : (a : Typed) (site : Site) (span : Span) → Promises IsOther (address a site span)
address_other (Value type zero value ForNothing) site span = tt
address_other (Value type zero value ForArray) site span = tt
address_other (Value type zero value (For (OfLocal k))) site span = tt
address_other (Value type zero value (For (OfCell p))) site span = tt
address_other (Value type zero value (For (OfBounded k b))) site span = tt
address_other (Value type zero value (For (OfUnknown k))) site span = tt
address_other (AStruct number (OfLocal k)) site span = tt
address_other (AStruct number (OfCell p)) site span = tt
address_other (AStruct number (OfBounded k b)) site span = tt
address_other (AStruct number (OfUnknown k)) site span = tt

elements_other : (t : CType) (p : core.Place) (value : core.Expression) (span : Span) → Promises IsOther (with_elements value span (Passes (at_place t p)))
elements_other t p value span = elements_promise IsOther value span (Passes (at_place t p)) (at_place_other t p)

pointed_other : (t : CType) (value : core.Expression) (site : Site) (span : Span) → Promises IsOther (pointed_at t value site span)
pointed_other Int value site span = tt
pointed_other Char value site span = tt
pointed_other (Struct number) value site span = tt
pointed_other (Pointer m kinds.One t) value site span = at_place_other t (core.Through value core.First 0 site)
pointed_other (Pointer m kinds.Array t) value site span = elements_other t (first_element value site) value span
pointed_other (Pointer m kinds.Nt t) value site span = elements_other t (first_or_end value site) value span

dereferenced_other : (a : Typed) (site : Site) (span : Span) → Promises IsOther (dereferenced a site span)
dereferenced_other (Value type zero value place) site span = pointed_other type value site span
dereferenced_other (AStruct number place) site span = tt

member_at_other : (s : Scope) (struct : ℕ) (p : core.Place) (name : ℕ) (site : Site) (span : Span) → Promises IsOther (member_at s struct p name site span)
member_at_other s struct p name site span = by (member_from 0 (members_named s struct) (members_of s.structs struct) name) refl
  where
    by : (o : Option (ℕ × CType)) → member_from 0 (members_named s struct) (members_of s.structs struct) name ≡ o → Promises IsOther (member_at s struct p name site span)
    by None found = rw found tt
    by (Some m) found = rw found (at_place_other m.1 (member_place p (offset_among (cells_of s.structs (Struct struct)) m.0) site))

dotted_other : (s : Scope) (a : Typed) (name : ℕ) (site : Site) (span : Span) → Promises IsOther (dotted s a name site span)
dotted_other s (Value type zero value place) name site span = tt
dotted_other s (AStruct number place) name site span = member_at_other s number (struct_place place site) name site span

pointed_by_other : (s : Scope) (t : CType) (value : core.Expression) (name : ℕ) (site : Site) (span : Span) → Promises IsOther (pointed_by s t value name site span)
pointed_by_other s Int value name site span = tt
pointed_by_other s Char value name site span = tt
pointed_by_other s (Struct number) value name site span = tt
pointed_by_other s (Pointer m kinds.One Int) value name site span = tt
pointed_by_other s (Pointer m kinds.One Char) value name site span = tt
pointed_by_other s (Pointer m kinds.One (Struct number)) value name site span = member_at_other s number (core.Through value core.First 0 site) name site span
pointed_by_other s (Pointer m kinds.One (Pointer m' k' t)) value name site span = tt
pointed_by_other s (Pointer m kinds.Array Int) value name site span = tt
pointed_by_other s (Pointer m kinds.Array Char) value name site span = tt
pointed_by_other s (Pointer m kinds.Array (Struct number)) value name site span =
    passing_promises IsOther IsOther (member_at s number (first_element value site) name site span) _ (member_at_other s number (first_element value site) name site span) (λ t h. elements_promise IsOther value span (Passes t) h)
pointed_by_other s (Pointer m kinds.Array (Pointer m' k' t)) value name site span = tt
pointed_by_other s (Pointer m kinds.Nt t) value name site span = tt

arrowed_other : (s : Scope) (a : Typed) (name : ℕ) (site : Site) (span : Span) → Promises IsOther (arrowed s a name site span)
arrowed_other s (Value type zero value place) name site span = pointed_by_other s type value name site span
arrowed_other s (AStruct number place) name site span = tt

scalar_any : {A : Type 0} (Q : A → Type 0) (a : Typed) (span : Span) (next : core.Expression → Verdict A) → ((v : core.Expression) → Promises Q (next v)) → Promises Q (scalar_of a span next)
scalar_any Q (Value type zero value place) span next more = more value
scalar_any Q (AStruct number place) span next more = tt

unary_other : (operator : UnaryOperator) (a : Typed) (site : Site) (span : Span) → Promises IsOther (unary_typed operator a site span)
unary_other unary.Deref a site span = dereferenced_other a site span
unary_other unary.AddressOf a site span = address_other a site span
unary_other unary.Negate a site span = number_any IsOther a span (λ v. number (core.Negate v site)) (λ v. tt)
unary_other unary.Not a site span = scalar_any IsOther a span (λ v. number (core.Not v)) (λ v. tt)
unary_other unary.Complement a site span = number_any IsOther a span (λ v. number (core.Complement v)) (λ v. tt)

arithmetic_other : (a b : Typed) (operator : Operator) (site : Site) (span : Span) → Promises IsOther (two_numbers a b span (arithmetic operator site))
arithmetic_other a b operator site span = numbers_any IsOther a b span (arithmetic operator site) (λ v w. tt)

summed_other : (s : Scope) (direction : Direction) (a b : Typed) (site : Site) (span : Span) → Promises IsOther (summed s direction a b site span)
summed_other s direction (Value Int zero value place) b site span = arithmetic_other (Value Int zero value place) b (operator_along direction) site span
summed_other s direction (Value Char zero value place) b site span = arithmetic_other (Value Char zero value place) b (operator_along direction) site span
summed_other s direction (Value (Struct number) zero value place) b site span = tt
summed_other s direction (Value (Pointer m k t) zero value place) b site span = number_any IsOther b span _ (λ w. tt)
summed_other s direction (AStruct number place) b site span = tt

sum_other : (s : Scope) (direction : Direction) (a b : Typed) (site : Site) (span : Span) → Promises IsOther (sum_typed s direction a b site span)
sum_other s direction a b site span = apart_promises IsOther a b span (summed s direction a b site span) (summed_other s direction a b site span)

ordered_values_other : (comparison : Comparison) (t : CType) (v : core.Expression) (u : CType) (w : core.Expression) (site : Site) (span : Span) → Promises IsOther (ordered_values comparison t v u w site span)
ordered_values_other comparison t v u w site span = by (is_number t && is_number u) (are_comparable t u) refl refl
  where
    by : (numbers same : Bool) → (is_number t && is_number u) ≡ numbers → are_comparable t u ≡ same → Promises IsOther (ordered_values comparison t v u w site span)
    by true same h0 h1 = rw h0 tt
    by false true h0 h1 = rw (h0, h1) (needs_promises IsOther (are_related t v u w) E26 span (number (core.Order comparison v w site)) (λ yes. tt))
    by false false h0 h1 = rw (h0, h1) tt

ordered_other : (comparison : Comparison) (a b : Typed) (site : Site) (span : Span) → Promises IsOther (ordered comparison a b site span)
ordered_other comparison (Value t z v p) (Value u y w q) site span = ordered_values_other comparison t v u w site span
ordered_other comparison (Value t z v p) (AStruct k q) site span = tt
ordered_other comparison (AStruct k p) b site span = tt

scalars_other : (of : core.Expression → core.Expression → core.Expression) (a b : Typed) (span : Span) → ((v w : core.Expression) → IsOtherValue (of v w)) → Promises IsOther (two_scalars a b span (λ v w. number (of v w)))
scalars_other of a b span h = scalar_any IsOther a span _ (λ v. scalar_any IsOther b span _ (λ w. h v w))

equated_other : (a b : Typed) (span : Span) → Promises IsOtherValue (equated a b span)
equated_other (Value t z v p) (Value u y w q) span = by (is_number t && is_number u) (are_comparable t u) (is_pointer t && y) (is_pointer u && z) refl refl refl refl
  where
    by : (numbers same left right : Bool) → (is_number t && is_number u) ≡ numbers → are_comparable t u ≡ same → (is_pointer t && y) ≡ left → (is_pointer u && z) ≡ right → Promises IsOtherValue (equated (Value t z v p) (Value u y w q) span)
    by true same left right h0 h1 h2 h3 = rw h0 tt
    by false true left right h0 h1 h2 h3 = rw (h0, h1) tt
    by false false true right h0 h1 h2 h3 = rw (h0, h1, h2) tt
    by false false false true h0 h1 h2 h3 = rw (h0, h1, h2, h3) tt
    by false false false false h0 h1 h2 h3 = rw (h0, h1, h2, h3) tt
equated_other (Value t z v p) (AStruct k q) span = tt
equated_other (AStruct k p) b span = tt

binary_other : (s : Scope) (operator : BinaryOperator) (a b : Typed) (site : Site) (span : Span) → Promises IsOther (binary_typed s operator a b site span)
binary_other s binary.Or a b site span = scalars_other core.OrElse a b span (λ v w. tt)
binary_other s binary.And a b site span = scalars_other core.AndAlso a b span (λ v w. tt)
binary_other s binary.BitOr a b site span = arithmetic_other a b (operators.Bitwise bits.Or) site span
binary_other s binary.BitXor a b site span = arithmetic_other a b (operators.Bitwise bits.Xor) site span
binary_other s binary.BitAnd a b site span = arithmetic_other a b (operators.Bitwise bits.And) site span
binary_other s binary.Equal a b site span = passing_promises IsOtherValue IsOther (equated a b span) number (equated_other a b span) (λ v h. h)
binary_other s binary.NotEqual a b site span = passing_any IsOther (equated a b span) (λ v. number (core.Not (zero_test a b v))) (λ v. tt)
binary_other s binary.Less a b site span = ordered_other comparisons.Less a b site span
binary_other s binary.LessEqual a b site span = ordered_other comparisons.LessEqual a b site span
binary_other s binary.Greater a b site span = ordered_other comparisons.Greater a b site span
binary_other s binary.GreaterEqual a b site span = ordered_other comparisons.GreaterEqual a b site span
binary_other s binary.ShiftLeft a b site span = arithmetic_other a b (operators.Arithmetic arithmetics.ShiftLeft) site span
binary_other s binary.ShiftRight a b site span = arithmetic_other a b (operators.Arithmetic arithmetics.ShiftRight) site span
binary_other s binary.Add a b site span = sum_other s directions.Forward a b site span
binary_other s binary.Subtract a b site span = sum_other s directions.Backward a b site span
binary_other s binary.Multiply a b site span = arithmetic_other a b (operators.Arithmetic arithmetics.Multiply) site span
binary_other s binary.Divide a b site span = arithmetic_other a b (operators.Arithmetic arithmetics.Divide) site span
binary_other s binary.Remainder a b site span = arithmetic_other a b (operators.Arithmetic arithmetics.Remainder) site span

element_other : (t : CType) (v w : core.Expression) (site : Site) (span : Span) → Promises IsOther (element_at t v w site span)
element_other Int v w site span = tt
element_other Char v w site span = tt
element_other (Struct number) v w site span = tt
element_other (Pointer m kinds.One t) v w site span = tt
element_other (Pointer m kinds.Array t) v w site span = elements_other t (core.Through v (core.Element w false) 0 site) v span
element_other (Pointer m kinds.Nt t) v w site span = elements_other t (core.Through v (core.Element w true) 0 site) v span

indexed_other : (a b : Typed) (site : Site) (span : Span) → Promises IsOther (indexed a b site span)
indexed_other (Value t z v p) (Value u y w q) site span = needs_promises IsOther (is_pointer t && is_number u) E13 span _ (λ ok. element_other t v w site span)
indexed_other (Value t z v p) (AStruct k q) site span = tt
indexed_other (AStruct k p) b site span = tt

constant_other : (value : ℕ) (zero : Bool) (span : Span) → Promises IsOther (constant_typed value zero span)
constant_other value zero span = needs_promises IsOther (nat_lt value (2 ^ 31)) E04 span _ (λ low. tt)

cast_other : (word : CastWord) (s : Scope) (t : CType) (a : Typed) (written : WrittenBounds) (site : Site) (span : Span) → Promises IsOther (cast_typed word s t a written site span)
cast_other word s t a written site span = cast_promises IsOther word s t a written site span (of_any _ a (λ type value casts. tt))

-- ---- bounds at nodes

-- bounds at the node of a local are those that are in force
abbrev pub IsNotedNode : Scope → ℕ → Option PointerBounds → Type 0
IsNotedNode s k b = (p : PointerBounds) → b ≡ Some p → (d : Bounds) → (held_at s.flow.held k).bounds ≡ Some d → d ≡ p.bounds

-- of a null-terminated local, and of one whose bytes are counted
abbrev IsNotedValue : Scope → CType → core.Expression → Type 0
IsNotedValue s type (core.Local k b) = (m : Mode) (target : CType) → type ≡ Pointer m kinds.Nt target → IsNotedNode s k b
IsNotedValue s type (core.Length (core.Local k b) site) = IsNotedNode s k b
IsNotedValue s type _ = Unit {0}

abbrev IsNoted : Scope → Typed → Type 0
IsNoted s (Value type zero value place) = IsNotedValue s type value
IsNoted s (AStruct number place) = Unit {0}

abbrev IsNotedCall : Scope → Called → Type 0
IsNotedCall s (Gives type value) = IsNotedValue s type value
IsNotedCall s (GivesNothing call) = Unit {0}

value_noted : (s : Scope) (type : CType) (v : core.Expression) → IsOtherValue v → IsNotedValue s type v
value_noted s type (core.Local k b) h = absurd h
value_noted s type (core.Length pointer site) h = absurd h
value_noted s type v h = tt

all_noted : (s : Scope) (t : Typed) → IsOther t → IsNoted s t
all_noted s (Value type zero value place) h = value_noted s type value h
all_noted s (AStruct number place) h = tt

others_noted : (s : Scope) (v : Verdict Typed) → Promises IsOther v → Promises (IsNoted s) v
others_noted s v h = promised_so IsOther (IsNoted s) v h (all_noted s)

-- ---- names

ended_noted : (s : Scope) (k : ℕ) (t : CType) (site : Site) → IsNotedNode s k (in_force s.structs kinds.Nt t (held_at s.flow.held k).bounds site)
ended_noted s k t site = by (held_at s.flow.held k).bounds
  where
    by : (o : Option Bounds) (p : PointerBounds) → in_force s.structs kinds.Nt t o site ≡ Some p → (d : Bounds) → o ≡ Some d → d ≡ p.bounds
    by None p e d is = absurd (cc)
    by (Some b) p e d is =
        let first : b ≡ d = cc in
        let node : PointerBounds = record { bounds = b; size = size_of s.structs t; terminated = true; site = site } in
        sym first ∙ ap (λ (p : PointerBounds). p.bounds) (same_Some node p e)

local_noted : (s : Scope) (k : ℕ) (t : CType) (array : Bool) (site : Site) → IsNoted s (with_bounds s.structs site (local_typed s.structs s.flow k t array site))
local_noted s k Int array site = λ m target is. absurd (cc)
local_noted s k Char array site = λ m target is. absurd (cc)
local_noted s k (Struct number) array site = tt
local_noted s k (Pointer modes.Checked kinds.One t) array site = λ m target is. absurd (cc)
local_noted s k (Pointer modes.Checked kinds.Array t) array site = λ m target is. absurd (cc)
local_noted s k (Pointer modes.Checked kinds.Nt t) array site = λ m target is. ended_noted s k t site
local_noted s k (Pointer modes.Tainted kinds.One t) array site = λ m target is. absurd (cc)
local_noted s k (Pointer modes.Tainted kinds.Array t) array site = λ m target is. absurd (cc)
local_noted s k (Pointer modes.Tainted kinds.Nt t) array site = λ m target is. ended_noted s k t site
local_noted s k (Pointer modes.Raw kinds.One t) array site = λ m target is. absurd (cc)
local_noted s k (Pointer modes.Raw kinds.Array t) array site = λ m target is. absurd (cc)
local_noted s k (Pointer modes.Raw kinds.Nt t) array site = λ m target is. ended_noted s k t site

with_bounds_noted : (s : Scope) (site : Site) (t : Typed) → IsOther t → IsNoted s (with_bounds s.structs site t)
with_bounds_noted s site (Value type zero value place) h = value_noted s type (noted_if (bounds_at s.structs type site) value) (other_noted (bounds_at s.structs type site) value h)
with_bounds_noted s site (AStruct number place) h = tt

name_noted : (s : Scope) (site : Site) (x : Named) → IsNoted s (with_bounds s.structs site (name_typed s x site))
name_noted s site (Local k t) = local_noted s k t (is_array s.arrays k) site
name_noted s site (Object k t b) = with_bounds_noted s site (object_typed s.structs k t b site) (object_other s.structs k t b site)
name_noted s site (Array k t n false) = with_bounds_noted s site (array_typed s.structs k t n false site) tt
name_noted s site (Array k t n true) = with_bounds_noted s site (array_typed s.structs k t n true site) tt
name_noted s site Nothing = with_bounds_noted s site (name_typed s Nothing site) tt

-- ---- calls

text_ended : (t : CType) → is_text t ≡ true → (m : Mode) × (target : CType) × (t ≡ Pointer m kinds.Nt target)
text_ended (Pointer modes.Checked kinds.Nt Char) h = (modes.Checked, Char, refl)
text_ended t h = absurd (cc)

count_noted : (s : Scope) (type : CType) (v : core.Expression) (site : Site) (m : Mode) (target : CType) → type ≡ Pointer m kinds.Nt target → IsNotedValue s type v → IsNotedValue s Int (core.Length v site)
count_noted s type (core.Local k b) site m target is h = h m target is
count_noted s type v site m target is h = tt

length_noted : (s : Scope) (a : Typed) (site : Site) (span : Span) → IsNoted s a → Promises (IsNotedCall s) (length_typed a site span)
length_noted s (Value type zero value place) site span h =
    needs_promises (IsNotedCall s) (is_text type && is_some (bounds_of value)) E13 span _ (λ both.
    let text = text_ended type (and_parts (is_text type) (is_some (bounds_of value)) both).0 in
    count_noted s type value site text.0 text.1 text.2 h)
length_noted s (AStruct number place) site span h = tt

abbrev AreNoted : Scope → List (Typed × Span) → Type 0
AreNoted s arguments = AllByRecursion (λ (a : Typed × Span). IsNoted s a.0) arguments

measures_noted : (s : Scope) (arguments : List (Typed × Span)) (site : Site) (span : Span) → AreNoted s arguments → Promises (IsNotedCall s) (measures arguments site span)
measures_noted s [] site span h = tt
measures_noted s (a ∷ arguments) site span h = needs_promises (IsNotedCall s) (length (a ∷ arguments) == 1) E14 span _ (λ one. convertible_promises (IsNotedCall s) a.0 text_pointer a.1 (length_typed a.0 site span) (length_noted s a.0 site span h.0))

writes_noted : (s : Scope) (of : core.Expression → core.Statement) (arguments : List (Typed × Span)) (span : Span) → Promises (IsNotedCall s) (writes of arguments span)
writes_noted s of arguments span = needs_promises (IsNotedCall s) (length arguments == 1) E14 span _ (λ x. passing_any (IsNotedCall s) (arguments_as arguments (Int ∷ [])) _ (λ values. tt))

predefined_noted : (s : Scope) (name : ℕ) (arguments : List (Typed × Span)) (site : Site) (span : Span) → AreNoted s arguments → Promises (IsNotedCall s) (predefined_call s.given name arguments site span)
predefined_noted s name arguments site span h = by (name == s.given.next_input) (name == s.given.print_int) (name == s.given.putchar) (name == s.given.strlen) refl refl refl refl
  where
    by : (input print put measure : Bool) → (name == s.given.next_input) ≡ input → (name == s.given.print_int) ≡ print → (name == s.given.putchar) ≡ put → (name == s.given.strlen) ≡ measure
        → Promises (IsNotedCall s) (predefined_call s.given name arguments site span)
    by true print put measure h0 h1 h2 h3 = rw h0 (needs_promises (IsNotedCall s) (length arguments == 0) E14 span (Passes (Gives Int core.NextInput)) (λ none. tt))
    by false true put measure h0 h1 h2 h3 = rw (h0, h1) (writes_noted s core.Print arguments span)
    by false false true measure h0 h1 h2 h3 = rw (h0, h1, h2) (writes_noted s core.PutByte arguments span)
    by false false false true h0 h1 h2 h3 = rw (h0, h1, h2, h3) (measures_noted s arguments site span h)
    by false false false false h0 h1 h2 h3 = rw (h0, h1, h2, h3) tt

call_noted : (s : Scope) (result : Option CType) (bounds : Option Bounds) (callee : Callee) (values : core.Arguments) (site : Site) → IsNotedCall s (call_of s.structs result bounds callee values site)
call_noted s (Some t) bounds callee values site = tt
call_noted s None bounds callee values site = tt

called_noted : (s : Scope) (o : Option Signature) (name : ℕ) (arguments : List (Typed × Span)) (site : Site) (span : Span) → AreNoted s arguments → Promises (IsNotedCall s) (called s o name arguments site span)
called_noted s None name arguments site span h = predefined_noted s name arguments site span h
called_noted s (Some f) name arguments site span h =
    needs_promises (IsNotedCall s) (length f.parameters == length arguments) E14 span _
    (λ many. crossing_promises (IsNotedCall s) (is_import f) arguments _
    (passing_any (IsNotedCall s) (arguments_as arguments f.parameters) _ (λ values. all_met_promise (IsNotedCall s) s.flow _ _ arguments f.parameters f.bounds _
    (call_noted s f.result _ (declared_callee s f site) values site))))

with_result_noted : (s : Scope) (c : Called) (span : Span) → IsNotedCall s c → Promises (IsNoted s) (with_result c span)
with_result_noted s (Gives type value) span h = h
with_result_noted s (GivesNothing call) span h = tt

-- ---- the walk

mutual
  typed_noted : (at : Places) (s : Scope) (x : Expression) → Promises (IsNoted s) (typed at s x)
  typed_noted at s (e.Number value span) = others_noted s (constant_typed value (value == 0) span) (constant_other value (value == 0) span)
  typed_noted at s (e.Character value span) = others_noted s (constant_typed value false span) (constant_other value false span)
  typed_noted at s (e.Text bytes span) = any_text (IsNoted s) s.structs (text_at s.strings span.from) (site_at at span) span (λ t. tt)
  typed_noted at s (e.Name name) = by (named s name.number)
    where
      by : (v : Verdict Named) → Promises (IsNoted s) (bounded s (site_at at name.span) (passing v (λ n. Passes (name_typed s n (site_at at name.span)))))
      by (Passes x) = name_noted s (site_at at name.span) x
      by (Stops stop) = tt
  typed_noted at s (e.Call callee arguments span) =
      passing_promises (AreNoted s) (IsNoted s) (all_typed at s arguments) _ (arguments_noted at s arguments)
      (λ ts h. passing_promises (IsNotedCall s) (IsNoted s) (called s (function_named s.functions callee.number) callee.number ts (site_at at span) span) _
      (called_noted s (function_named s.functions callee.number) callee.number ts (site_at at span) span h) (λ c k. with_result_noted s c span k))
  typed_noted at s (e.SizeOf type span) = passing_any (IsNoted s) (type_named s type) _ (λ t. tt)
  typed_noted at s (e.Cast word type operand span) =
      others_noted s (typed at s (e.Cast word type operand span))
      (passing_any IsOther (type_named s type) _ (λ t. passing_any IsOther (typed at s operand) _ (λ a. cast_other word s t a None (site_at at span) span)))
  typed_noted at s (e.BoundedCast word type operand bounds span) =
      others_noted s (typed at s (e.BoundedCast word type operand bounds span))
      (passing_any IsOther (type_named s type) _ (λ t. passing_any IsOther (typed at s operand) _ (λ a. passing_any IsOther (cast_bounds s t bounds) _ (λ written. cast_other word s t a written (site_at at span) span))))
  typed_noted at s (e.Malloc word type size span) =
      others_noted s (typed at s (e.Malloc word type size span))
      (passing_any IsOther (type_named s type) _ (λ t. passing_any IsOther (typed at s size) _ (λ a. malloc_promises IsOther s t (site_at at span) span word size a (of_any _ a (λ type value number count is bytes. tt)))))
  typed_noted at s (e.Calloc word type count size span) =
      others_noted s (typed at s (e.Calloc word type count size span))
      (passing_any IsOther (type_named s type) _ (λ t. passing_any IsOther (typed at s count) _ (λ a. passing_any IsOther (typed at s size) _
      (λ b. calloc_promises IsOther s t (site_at at span) span word a size (of_any _ a (λ type value number ended may. tt))))))
  typed_noted at s (e.Index base index span) =
      others_noted s (typed at s (e.Index base index span))
      (in_cell_other s (site_at at span) _ (passing_any IsOther (typed at s base) _ (λ a. passing_any IsOther (typed at s index) _ (λ b. indexed_other a b (site_at at span) span))))
  typed_noted at s (e.Dot base member span) =
      others_noted s (typed at s (e.Dot base member span)) (in_cell_other s (site_at at span) _ (passing_any IsOther (typed at s base) _ (λ a. dotted_other s a member.number (site_at at span) span)))
  typed_noted at s (e.Arrow base member span) =
      others_noted s (typed at s (e.Arrow base member span)) (in_cell_other s (site_at at span) _ (passing_any IsOther (typed at s base) _ (λ a. arrowed_other s a member.number (site_at at span) span)))
  typed_noted at s (e.Unary operator operand span) =
      others_noted s (typed at s (e.Unary operator operand span)) (in_cell_other s (site_at at span) _ (passing_any IsOther (typed at s operand) _ (λ a. unary_other operator a (site_at at span) span)))
  typed_noted at s (e.Binary operator left right span) =
      others_noted s (typed at s (e.Binary operator left right span))
      (passing_any IsOther (typed at s left) _ (λ a. passing_any IsOther (typed at (beside operator a s) right) _ (λ b. binary_other s operator a b (site_at at span) span)))

  arguments_noted : (at : Places) (s : Scope) (xs : Expressions) → Promises (AreNoted s) (all_typed at s xs)
  arguments_noted at s e.NoMore = tt
  arguments_noted at s (e.Then first others) =
      passing_promises (IsNoted s) (AreNoted s) (typed at s first) _ (typed_noted at s first)
      (λ t h. passing_promises (AreNoted s) (AreNoted s) (all_typed at s others) _ (arguments_noted at s others) (λ ts hs. (h, hs)))

-- ---- assignments

-- where a count of a local is assigned, its bounds are those that are in force
abbrev pub IsNotedLength : Scope → core.Expression → Type 0
IsNotedLength s (core.Length (core.Local k b) site) = IsNotedNode s k b
IsNotedLength s _ = Unit {0}

abbrev pub IsNotedStatement : Scope → core.Statement → Type 0
IsNotedStatement s (core.SetLocal local value) = IsNotedLength s value
IsNotedStatement s _ = Unit {0}

noted_length : (s : Scope) (type : CType) (v : core.Expression) → IsNotedValue s type v → IsNotedLength s v
noted_length s type (core.Length (core.Local k b) site) h = h
noted_length s type v h = tt

in_type_noted : (s : Scope) (type to : CType) (zero : Bool) (v : core.Expression) → IsNotedValue s type v → IsNotedLength s (in_type to zero v)
in_type_noted s type Int zero v h = noted_length s type v h
in_type_noted s type Char zero v h = tt
in_type_noted s type (Struct number) zero v h = noted_length s type v h
in_type_noted s type (Pointer m k target) true v h = tt
in_type_noted s type (Pointer m k target) false v h = noted_length s type v h

converted_noted : {A : Type 0} (Q : A → Type 0) (s : Scope) (t : Typed) (to : CType) (span : Span) (next : core.Expression → Verdict A) → IsNoted s t → ((v : core.Expression) → IsNotedLength s v → Promises Q (next v)) → Promises Q (converted t to span next)
converted_noted Q s (Value type zero value place) to span next h more = needs_promises Q (converts type zero to) E13 span _ (λ ok. more (in_type to (zero && is_number type) value) (in_type_noted s type to (zero && is_number type) value h))
converted_noted Q s (AStruct number place) to span next h more = tt

store_noted : (s : Scope) (place : Lvalue) (type : CType) (v : core.Expression) → IsNotedLength s v → IsNotedStatement s (store place type v)
store_noted s (OfLocal k) type v h = h
store_noted s (OfCell p) type v h = tt
store_noted s (OfBounded k b) type v h = tt
store_noted s (OfUnknown k) type v h = tt

update_noted : (s : Scope) (place : Lvalue) (type : CType) (operator : Operator) (v : core.Expression) (site : Site) → IsNotedStatement s (update place type operator v site)
update_noted s (OfLocal k) type operator v site = tt
update_noted s (OfCell p) type operator v site = tt
update_noted s (OfBounded k b) type operator v site = tt
update_noted s (OfUnknown k) type operator v site = tt

assigned_any : (Q : core.Statement → Type 0) (t : Typed) (span : Span) (next : CType → Lvalue → Verdict core.Statement) → ((type : CType) (place : Lvalue) → Promises Q (next type place)) → Promises Q (assigned t span next)
assigned_any Q (Value type zero value ForNothing) span next more = tt
assigned_any Q (Value type zero value ForArray) span next more = tt
assigned_any Q (Value type zero value (For place)) span next more = more type place
assigned_any Q (AStruct number place) span next more = tt

module _ (g : Scope) where
  abbrev Noted : core.Statement → Type 0
  Noted = IsNotedStatement g

  moved_noted : (place : Lvalue) (type : CType) (pointer : core.Expression) (direction : Direction) (v : core.Expression) (site : Site) (b : Option PointerBounds) (span : Span) → Promises Noted (moved g.flow place type (core.Sum pointer direction v site b) span)
  moved_noted (OfLocal k) type pointer direction v site b span = tt
  moved_noted (OfCell p) type pointer direction v site b span = needs_promises Noted (meets g.flow (core.Sum pointer direction v site b) (unwritten_bounds type)) E17 span (breaks E18 span) (λ met. tt)
  moved_noted (OfBounded k c) type pointer direction v site b span = needs_promises Noted (meets g.flow (core.Sum pointer direction v site b) (Some c)) E17 span _ (λ met. tt)
  moved_noted (OfUnknown k) type pointer direction v site b span = tt

  updated_as_noted : (direction : Direction) (type : CType) (place : Lvalue) (t right : Typed) (site : Site) (span : Span) → Promises Noted (updated_as g direction type place t right site span)
  updated_as_noted direction (Pointer m k to) place (Value u zero pointer old) right site span = number_any Noted right span _ (λ v. moved_noted place (Pointer m k to) pointer direction v site (sum_node g.locals direction pointer v site) span)
  updated_as_noted direction (Pointer m k to) place (AStruct n old) right site span = tt
  updated_as_noted direction Int place t right site span = numbers_any Noted t right span _ (λ old v. update_noted g place Int (operator_along direction) v site)
  updated_as_noted direction Char place t right site span = numbers_any Noted t right span _ (λ old v. update_noted g place Char (operator_along direction) v site)
  updated_as_noted direction (Struct n) place t right site span = numbers_any Noted t right span _ (λ old v. update_noted g place (Struct n) (operator_along direction) v site)

  updated_noted : (at : Places) (direction : Direction) (t right : Typed) (span : Span) → Promises Noted (updated at g direction t right span)
  updated_noted at direction t right span = assigned_any Noted t span _ (λ type place. apart_promises Noted t right span _ (updated_as_noted direction type place t right (site_at at span) span))

  stored_noted : (at : Places) (operator : StoreOperator) (t right : Typed) (span : Span) → IsNoted g right → Promises Noted (stored at g operator t right span)
  stored_noted at stores.Set t right span h =
      assigned_any Noted t span _ (λ type place. converted_noted Noted g right type span _ h (λ v is. needs_promises Noted (meets_declared g.flow (declared_for place type) right type) E17 span _ (λ met. store_noted g place type v is)))
  stored_noted at stores.Add t right span h = updated_noted at directions.Forward t right span
  stored_noted at stores.Subtract t right span h = updated_noted at directions.Backward t right span

pub assignment_noted : (at : Places) (g : Scope) (a : Assignment) → Promises (IsNotedStatement g) (assignment at g a)
assignment_noted at g (s.Store operator target value span) =
    passing_any (IsNotedStatement g) (typed at g target) _ (λ a. passing_promises (IsNoted g) (IsNotedStatement g) (typed at g value) _ (typed_noted at g value) (λ b h. stored_noted g at operator a b span h))
assignment_noted at g (s.Step operator side target span) = passing_any (IsNotedStatement g) (typed at g target) _ (λ a. updated_noted g at (step_of operator) a one span)

pub initialised_noted : (at : Places) (g : Scope) (o : Option Initializer) (type : CType) (local : ℕ) (span : Span) → Promises (IsNotedStatement g) (initialised at g o type local span)
initialised_noted at g None type local span = tt
initialised_noted at g (Some (s.Value value)) type local span =
    passing_promises (IsNoted g) (IsNotedStatement g) (typed at g value) _ (typed_noted at g value)
    (λ t h. converted_noted (IsNotedStatement g) g t type span _ h (λ v is. met_promises (IsNotedStatement g) g.flow t type span _ is))
initialised_noted at g (Some (s.Constants constants list)) type local span = tt
