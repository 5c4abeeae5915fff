-- The expressions of a core have few nodes, by how many the tree has that they come from.
use Rattle.std.proofs.Common.{◌≡◌, ℕ, ◌+◌, ◌*◌, ◌<◌, ◌≤◌, ◌^◌, Bool, true, false, List, [], ◌∷◌, length, Option, Some, None, refl, ap, arith}
use Rattle.std.specs.Prelude.{◌==◌, nat_lt, ◌&&◌, is_some}
use Rattle.ckc_text.specs.declared.place.Span.{Span}
use Rattle.ckc_text.specs.declared.code.Code.TheVariants.{E04, E13, E14, E26}
use Rattle.ckc_tree.specs.declared.expr.CastWord.{CastWord}
use Rattle.ckc_tree.specs.declared.expr.MallocWord.{MallocWord}
use Rattle.ckc_tree.specs.declared.expr.CallocWord.{CallocWord}
use Rattle.ckc_tree.specs.declared.expr.UnaryOperator.{UnaryOperator}
use Rattle.ckc_tree.specs.declared.expr.UnaryOperator.TheVariants as unary
use Rattle.ckc_tree.specs.declared.expr.BinaryOperator.{BinaryOperator}
use Rattle.ckc_tree.specs.declared.expr.BinaryOperator.TheVariants as binary
use Rattle.ckc_tree.specs.Expressions as e
use Rattle.ckc_tree.specs.Expressions.{Expression, Expressions}
use Rattle.ckc_tree.specs.Weights as tree
use Rattle.bounds_flow.specs.Flows.{Knowledge}
use Rattle.pointer_modes.specs.declared.ctype.Kind.TheVariants as kinds
use Rattle.bounds_exprs.specs.declared.term.Bounds.{Bounds}
use Rattle.pointer_modes.specs.Types.{CType, Int, Char, Struct, Pointer, Structure, members_of}
use Rattle.pointer_modes.specs.Layout.{cells_of}
use Rattle.ckc_core.specs.declared.program.Site.{Site}
use Rattle.act_words.specs.declared.operator.Operator.{Operator}
use Rattle.act_words.specs.declared.operator.ArithmeticOperator.TheVariants as arithmetics
use Rattle.act_words.specs.declared.operator.BitwiseOperator.TheVariants as bits
use Rattle.act_words.specs.declared.operator.Operator.TheVariants as operators
use Rattle.act_words.specs.declared.operator.Comparison.{Comparison}
use Rattle.act_words.specs.declared.operator.Comparison.TheVariants as comparisons
use Rattle.ckc_core.specs.declared.program.Callee.{Callee}
use Rattle.ckc_core.specs.declared.program.PointerBounds.{PointerBounds}
use Rattle.ckc_core.specs.declared.program.Direction.{Direction}
use Rattle.ckc_core.specs.declared.program.Direction.TheVariants as directions
use Rattle.ckc_core.specs.Core as core
use Rattle.ckc_core.specs.Meaning.{bounds_of}
use Rattle.ckc_core.specs.Weights.{expression_weight, arguments_weight, place_weight, statement_weight}
use Rattle.ckc_names_rules.specs.declared.given.Given.{Given}
use Rattle.region_typing_rules.specs.Verdicts.{Verdict, Passes, passing, picked}
use Rattle.region_typing_rules.specs.Scopes.{Scope, Signature, WrittenBounds, Named, Local, Object, Array, Nothing, named, function_named, members_named}
use Rattle.region_typing_rules.specs.Types.{type_named, is_number, is_pointer, are_comparable, converts}
use Rattle.region_typing_rules.specs.Operands.{Places, OfLocal, OfCell, OfBounded, OfUnknown, Standing, ForNothing, ForArray, For, Typed, Value, AStruct, Called, Gives, GivesNothing, site_at, bounds_at, noted, noted_if, with_bounds, cell_bounds, with_cell_bounds, sum_node, bounded, in_cell, plain, number, at_place, local_typed, name_typed, object_typed, member_place, member_from, offset_among, member_at, dotted, first_element, first_or_end, pointed_by, arrowed, pointed_at, dereferenced, pointer_to, address, number_of, scalar_of, unary_typed, two_numbers, two_scalars, operator_along, summed, sum_typed, as_pointer, equated_values, equated, is_ended_element, zero_test, are_related, ordered_values, ordered, arithmetic, binary_typed, beside, element_at, indexed, in_type, converted, is_array, local_standing}
use Rattle.region_typing_rules.specs.Calls.{arguments_as, is_import, call_of, declared_callee, first_of, writes, is_text, length_typed, text_pointer, measures, predefined_call, called, with_result}
use Rattle.region_typing_rules.specs.NewMemory.{malloc_typed, calloc_typed, cast_typed, cast_bounds}
use Rattle.region_typing_rules.specs.Expressions.{typed, all_typed, call_typed}
use Rattle.region_typing_rules.proofs.Knowledge.{crossing_promises}
use Rattle.region_typing_rules.proofs.Kept.{passing_any}
use Rattle.region_typing_rules.proofs.Memory.{IsCount, OfBytes, OfOne, OfLeft, OfRight, malloc_promises, calloc_promises, cast_promises}
use Rattle.region_typing_rules.proofs.Verdicts.{Promises, passing_promises, needs_promises, convertible_promises, anything_promised, promised_so, elements_promise, apart_promises, all_met_promise}
use Rattle.region_typing_rules.proofs.TextBlocks.{any_text}
use Rattle.region_typing_rules.specs.Strings.{text_at}

-- ---- what an expression is has fewer nodes

abbrev pub LightPlace : ℕ → Standing → Type 0
LightPlace n ForNothing = Unit {0}
LightPlace n ForArray = Unit {0}
LightPlace n (For (OfLocal k)) = Unit {0}
LightPlace n (For (OfCell p)) = place_weight p < n
LightPlace n (For (OfBounded k b)) = place_weight (core.Direct k 0) < n
LightPlace n (For (OfUnknown k)) = place_weight (core.Direct k 0) < n

abbrev pub Light : ℕ → Typed → Type 0
Light n (Value type zero value place) = (expression_weight value < n) × LightPlace n place
Light n (AStruct number place) = LightPlace n (For place)

abbrev pub LightCall : ℕ → Called → Type 0
LightCall n (Gives type value) = expression_weight value < n
LightCall n (GivesNothing call) = statement_weight call < n

abbrev pub IsLight : ℕ → core.Expression → Type 0
IsLight n v = expression_weight v < n

light_place_more : (n m : ℕ) (place : Standing) → n ≤ m → LightPlace n place → LightPlace m place
light_place_more n m ForNothing le h = tt
light_place_more n m ForArray le h = tt
light_place_more n m (For (OfLocal k)) le h = tt
light_place_more n m (For (OfCell p)) le h = omega arith
light_place_more n m (For (OfBounded k b)) le h = omega arith
light_place_more n m (For (OfUnknown k)) le h = omega arith

light_more : (n m : ℕ) (t : Typed) → n ≤ m → Light n t → Light m t
light_more n m (Value type zero value place) le h = let first = h.0 in (omega arith, light_place_more n m place le h.1)
light_more n m (AStruct number place) le h = light_place_more n m (For place) le h

-- bounds are no nodes
noted_light : (b : Option PointerBounds) (v : core.Expression) → expression_weight (noted b v) ≡ expression_weight v
noted_light b (core.Number number) = refl
noted_light b core.Null = refl
noted_light b (core.Local local bounds) = refl
noted_light b (core.Load type place bounds) = refl
noted_light b (core.AddressOf place bounds) = refl
noted_light b (core.Negate operand site) = refl
noted_light b (core.Complement operand) = refl
noted_light b (core.Not operand) = refl
noted_light b (core.Arithmetic operator left right site) = refl
noted_light b (core.Compare comparison left right) = refl
noted_light b (core.Same left right) = refl
noted_light b (core.AndAlso left right) = refl
noted_light b (core.OrElse left right) = refl
noted_light b (core.LowByte operand) = refl
noted_light b (core.Call callee arguments bounds) = refl
noted_light b core.NextInput = refl
noted_light b (core.Sum pointer direction number site bounds) = refl
noted_light b (core.Order comparison left right site) = refl
noted_light b (core.Allocate count element terminator bounds) = refl
noted_light b (core.Length pointer site) = refl
noted_light b (core.Cast pointer bounds) = refl

noted_if_light : (b : Option PointerBounds) (v : core.Expression) → expression_weight (noted_if b v) ≡ expression_weight v
noted_if_light None v = refl
noted_if_light (Some p) v = noted_light (Some p) v

with_bounds_light : (n : ℕ) (s : Scope) (site : Site) (t : Typed) → Light n t → Light n (with_bounds s.structs site t)
with_bounds_light n s site (Value type zero value place) h = let first = h.0 in (omega (arith, noted_if_light (bounds_at s.structs type site) value), h.1)
with_bounds_light n s site (AStruct number place) h = h

with_cell_bounds_light : (n : ℕ) (structs : List Structure) (site : Site) (t : Typed) → Light n t → Light n (with_cell_bounds structs site t)
with_cell_bounds_light n structs site (Value type zero value place) h = let first = h.0 in (omega (arith, noted_if_light (cell_bounds structs type site) value), h.1)
with_cell_bounds_light n structs site (AStruct number place) h = h

in_cell_light : (n : ℕ) (s : Scope) (site : Site) (v : Verdict Typed) → Promises (Light n) v → Promises (Light n) (in_cell s site v)
in_cell_light n s site v h = passing_promises (Light n) (Light n) v _ h (with_cell_bounds_light n s.structs site)

bounded_light : (n : ℕ) (s : Scope) (site : Site) (v : Verdict Typed) → Promises (Light n) v → Promises (Light n) (bounded s site v)
bounded_light n s site v h = passing_promises (Light n) (Light n) v _ h (with_bounds_light n s site)

-- ---- places

at_place_light : (n : ℕ) (t : CType) (p : core.Place) → place_weight p + 1 < n → Light n (at_place t p)
at_place_light n Int p h = (omega arith, omega arith)
at_place_light n Char p h = (omega arith, omega arith)
at_place_light n (Struct number) p h = omega arith
at_place_light n (Pointer m k t) p h = (omega arith, omega arith)

standing_light : (n k : ℕ) (array : Bool) → LightPlace n (local_standing array k)
standing_light n k true = tt
standing_light n k false = tt

local_light : (n : ℕ) (structs : List Structure) (f : Knowledge) (k : ℕ) (t : CType) (array : Bool) (site : Site) → 1 < n → Light n (local_typed structs f k t array site)
local_light n structs f k Int array site h = (h, standing_light n k array)
local_light n structs f k Char array site h = (h, standing_light n k array)
local_light n structs f k (Struct number) array site h = tt
local_light n structs f k (Pointer m d t) array site h = (h, standing_light n k array)

object_light : (n : ℕ) (structs : List Structure) (k : ℕ) (t : CType) (bounds : WrittenBounds) (site : Site) → 2 < n → Light n (object_typed structs k t bounds site)
object_light n structs k t None site h = with_cell_bounds_light n structs site (at_place t (core.Direct k 0)) (at_place_light n t (core.Direct k 0) (omega arith))
object_light n structs k Int (Some None) site h = (omega arith, omega arith)
object_light n structs k Char (Some None) site h = (omega arith, omega arith)
object_light n structs k (Struct number) (Some None) site h = omega arith
object_light n structs k (Pointer m kinds.One t) (Some None) site h = (omega arith, omega arith)
object_light n structs k (Pointer m kinds.Array t) (Some None) site h = (omega arith, omega arith)
object_light n structs k (Pointer m kinds.Nt t) (Some None) site h = (omega arith, omega arith)
object_light n structs k Int (Some (Some b)) site h = (omega arith, omega arith)
object_light n structs k Char (Some (Some b)) site h = (omega arith, omega arith)
object_light n structs k (Struct number) (Some (Some b)) site h = omega arith
object_light n structs k (Pointer m d t) (Some (Some b)) site h = (omega arith, omega arith)

name_light : (n : ℕ) (s : Scope) (x : Named) (site : Site) → 2 < n → Light n (name_typed s x site)
name_light n s (Local k t) site h = local_light n s.structs s.flow k t (is_array s.arrays k) site (omega arith)
name_light n s (Object k t b) site h = object_light n s.structs k t b site h
name_light n s (Array k t length false) site h = (omega arith, tt)
name_light n s (Array k t length true) site h = (omega arith, tt)
name_light n s Nothing site h = (omega arith, tt)

member_weight : (p : core.Place) (offset : ℕ) (site : Site) → place_weight (member_place p offset site) ≡ place_weight p
member_weight (core.Direct object first) offset site = refl
member_weight (core.Through pointer index first before) offset site = refl

pointer_light : (n : ℕ) (t : CType) (p : core.Place) (site : Site) → place_weight p < n → Light n (pointer_to t p site)
pointer_light n t (core.Direct object offset) site h = (h, tt)
pointer_light n t (core.Through pointer core.First offset before) site h = (h, tt)
pointer_light n t (core.Through pointer (core.Element number terminated) offset before) site h = (h, tt)

address_light : (n : ℕ) (a : Typed) (site : Site) (span : Span) → Light n a → Promises (Light n) (address a site span)
address_light n (Value type zero value ForNothing) site span h = tt
address_light n (Value type zero value ForArray) site span h = tt
address_light n (Value type zero value (For (OfLocal k))) site span h = tt
address_light n (Value type zero value (For (OfCell p))) site span h = pointer_light n type p site h.1
address_light n (Value type zero value (For (OfBounded k b))) site span h = tt
address_light n (Value type zero value (For (OfUnknown k))) site span h = tt
address_light n (AStruct number (OfLocal k)) site span h = tt
address_light n (AStruct number (OfCell p)) site span h = pointer_light n (Struct number) p site h
address_light n (AStruct number (OfBounded k b)) site span h = tt
address_light n (AStruct number (OfUnknown k)) site span h = tt

pointed_light : (n : ℕ) (t : CType) (value : core.Expression) (site : Site) (span : Span) → IsLight n value → Promises (Light (n + 3)) (pointed_at t value site span)
pointed_light n Int value site span h = tt
pointed_light n Char value site span h = tt
pointed_light n (Struct number) value site span h = tt
pointed_light n (Pointer m kinds.One t) value site span h = at_place_light (n + 3) t (core.Through value core.First 0 site) (omega arith)
pointed_light n (Pointer m kinds.Array t) value site span h = elements_promise (Light (n + 3)) value span _ (at_place_light (n + 3) t (first_element value site) (omega arith))
pointed_light n (Pointer m kinds.Nt t) value site span h = elements_promise (Light (n + 3)) value span _ (at_place_light (n + 3) t (first_or_end value site) (omega arith))

dereferenced_light : (n : ℕ) (a : Typed) (site : Site) (span : Span) → Light n a → Promises (Light (n + 3)) (dereferenced a site span)
dereferenced_light n (Value type zero value place) site span h = pointed_light n type value site span h.0
dereferenced_light n (AStruct number place) site span h = tt

member_at_light : (n : ℕ) (s : Scope) (struct : ℕ) (p : core.Place) (name : ℕ) (site : Site) (span : Span) → place_weight p + 1 < n → Promises (Light n) (member_at s struct p name site span)
member_at_light n s struct p name site span h = by (member_from 0 (members_named s struct) (members_of s.structs struct) name) refl
  where
    by : (o : Option (ℕ × CType)) → member_from 0 (members_named s struct) (members_of s.structs struct) name ≡ o → Promises (Light n) (member_at s struct p name site span)
    by None found = rw found tt
    by (Some m) found =
        let offset = offset_among (cells_of s.structs (Struct struct)) m.0 in
        rw found (at_place_light n m.1 (member_place p offset site) (omega (arith, member_weight p offset site)))

dotted_light : (n : ℕ) (s : Scope) (a : Typed) (name : ℕ) (site : Site) (span : Span) → 2 ≤ n → Light n a → Promises (Light (n + 2)) (dotted s a name site span)
dotted_light n s (Value type zero value place) name site span two h = tt
dotted_light n s (AStruct number (OfLocal k)) name site span two h = member_at_light (n + 2) s number (core.Through (core.Local k None) core.First 0 site) name site span (omega arith)
dotted_light n s (AStruct number (OfCell p)) name site span two h = member_at_light (n + 2) s number p name site span (omega arith)
dotted_light n s (AStruct number (OfBounded k b)) name site span two h = member_at_light (n + 2) s number (core.Direct k 0) name site span (omega arith)
dotted_light n s (AStruct number (OfUnknown k)) name site span two h = member_at_light (n + 2) s number (core.Direct k 0) name site span (omega arith)

pointed_by_light : (n : ℕ) (s : Scope) (t : CType) (value : core.Expression) (name : ℕ) (site : Site) (span : Span) → IsLight n value → Promises (Light (n + 3)) (pointed_by s t value name site span)
pointed_by_light n s Int value name site span h = tt
pointed_by_light n s Char value name site span h = tt
pointed_by_light n s (Struct number) value name site span h = tt
pointed_by_light n s (Pointer m kinds.One Int) value name site span h = tt
pointed_by_light n s (Pointer m kinds.One Char) value name site span h = tt
pointed_by_light n s (Pointer m kinds.One (Pointer m' k' t)) value name site span h = tt
pointed_by_light n s (Pointer m kinds.One (Struct number)) value name site span h = member_at_light (n + 3) s number (core.Through value core.First 0 site) name site span (omega arith)
pointed_by_light n s (Pointer m kinds.Array Int) value name site span h = tt
pointed_by_light n s (Pointer m kinds.Array Char) value name site span h = tt
pointed_by_light n s (Pointer m kinds.Array (Pointer m' k' t)) value name site span h = tt
pointed_by_light n s (Pointer m kinds.Array (Struct number)) value name site span h =
    passing_promises (Light (n + 3)) (Light (n + 3)) (member_at s number (first_element value site) name site span) _ (member_at_light (n + 3) s number (first_element value site) name site span (omega arith))
    (λ t light. elements_promise (Light (n + 3)) value span (Passes t) light)
pointed_by_light n s (Pointer m kinds.Nt t) value name site span h = tt

arrowed_light : (n : ℕ) (s : Scope) (a : Typed) (name : ℕ) (site : Site) (span : Span) → Light n a → Promises (Light (n + 3)) (arrowed s a name site span)
arrowed_light n s (Value type zero value place) name site span h = pointed_by_light n s type value name site span h.0
arrowed_light n s (AStruct number place) name site span h = tt

-- ---- operators

pub number_of_light : {A : Type 0} (Q : A → Type 0) (n : ℕ) (a : Typed) (span : Span) (next : core.Expression → Verdict A) → Light n a → ((v : core.Expression) → IsLight n v → Promises Q (next v)) → Promises Q (number_of a span next)
number_of_light Q n (Value type zero value place) span next h more = needs_promises Q (is_number type) E13 span (next value) (λ yes. more value h.0)
number_of_light Q n (AStruct number place) span next h more = tt

pub scalar_of_light : {A : Type 0} (Q : A → Type 0) (n : ℕ) (a : Typed) (span : Span) (next : core.Expression → Verdict A) → Light n a → ((v : core.Expression) → IsLight n v → Promises Q (next v)) → Promises Q (scalar_of a span next)
scalar_of_light Q n (Value type zero value place) span next h more = more value h.0
scalar_of_light Q n (AStruct number place) span next h more = tt

unary_light : (n : ℕ) (operator : UnaryOperator) (a : Typed) (site : Site) (span : Span) → Light n a → Promises (Light (n + 3)) (unary_typed operator a site span)
unary_light n unary.Deref a site span h = dereferenced_light n a site span h
unary_light n unary.AddressOf a site span h = promised_so (Light n) (Light (n + 3)) (address a site span) (address_light n a site span h) (λ t. light_more n (n + 3) t (omega arith))
unary_light n unary.Negate a site span h = number_of_light (Light (n + 3)) n a span (λ v. number (core.Negate v site)) h (λ v light. (omega arith, tt))
unary_light n unary.Not a site span h = scalar_of_light (Light (n + 3)) n a span (λ v. number (core.Not v)) h (λ v light. (omega arith, tt))
unary_light n unary.Complement a site span h = number_of_light (Light (n + 3)) n a span (λ v. number (core.Complement v)) h (λ v light. (omega arith, tt))

pub two_light : {A : Type 0} (Q : A → Type 0) (n m : ℕ) (a b : Typed) (span : Span) (next : core.Expression → core.Expression → Verdict A) → Light n a → Light m b → ((v w : core.Expression) → IsLight n v → IsLight m w → Promises Q (next v w)) → Promises Q (two_numbers a b span next)
two_light Q n m a b span next ha hb more = number_of_light Q n a span _ ha (λ v light. number_of_light Q m b span _ hb (λ w light'. more v w light light'))

module _ (n m : ℕ) (a b : Typed) (span : Span) (ha : Light n a) (hb : Light m b) where
  arithmetic_light : (operator : Operator) (site : Site) → Promises (Light (n + m + 2)) (two_numbers a b span (arithmetic operator site))
  arithmetic_light operator site = two_light (Light (n + m + 2)) n m a b span (arithmetic operator site) ha hb (λ v w light light'. (omega arith, tt))

  truths_light : (of : core.Expression → core.Expression → core.Expression) → ((v w : core.Expression) → expression_weight (of v w) ≡ 1 + expression_weight v + expression_weight w) → Promises (Light (n + m + 2)) (two_scalars a b span (λ v w. number (of v w)))
  truths_light of h = scalar_of_light (Light (n + m + 2)) n a span _ ha (λ v light. scalar_of_light (Light (n + m + 2)) m b span _ hb (λ w light'. (omega (arith, h v w), tt)))

summed_light : (n m : ℕ) (s : Scope) (direction : Direction) (a b : Typed) (site : Site) (span : Span) → Light n a → Light m b → Promises (Light (n + m + 2)) (summed s direction a b site span)
summed_light n m s direction (Value (Pointer mode k t) zero pointer place) b site span ha hb =
    let light = ha.0 in
    number_of_light (Light (n + m + 2)) m b span (λ w. plain (Pointer mode k t) (core.Sum pointer direction w site (sum_node s.locals direction pointer w site))) hb (λ w light'. (omega arith, tt))
summed_light n m s direction (Value Int zero value place) b site span ha hb = arithmetic_light n m (Value Int zero value place) b span ha hb (operator_along direction) site
summed_light n m s direction (Value Char zero value place) b site span ha hb = arithmetic_light n m (Value Char zero value place) b span ha hb (operator_along direction) site
summed_light n m s direction (Value (Struct k) zero value place) b site span ha hb = tt
summed_light n m s direction (AStruct k place) b site span ha hb = tt

sum_light : (n m : ℕ) (s : Scope) (direction : Direction) (a b : Typed) (site : Site) (span : Span) → Light n a → Light m b → Promises (Light (n + m + 2)) (sum_typed s direction a b site span)
sum_light n m s direction a b site span ha hb = apart_promises (Light (n + m + 2)) a b span _ (summed_light n m s direction a b site span ha hb)

equated_values_light : (n m : ℕ) (t : CType) (z : Bool) (v : core.Expression) (u : CType) (y : Bool) (w : core.Expression) (span : Span) → IsLight n v → IsLight m w → Promises (IsLight (n + m + 1)) (equated_values t z v u y w span)
equated_values_light n m t z v u y w span hv hw = by (is_number t && is_number u) (are_comparable t u) (is_pointer t && y) (is_pointer u && z) refl refl refl refl
  where
    by : (numbers same left right : Bool) → (is_number t && is_number u) ≡ numbers → are_comparable t u ≡ same → (is_pointer t && y) ≡ left → (is_pointer u && z) ≡ right → Promises (IsLight (n + m + 1)) (equated_values t z v u y w span)
    by true same left right h0 h1 h2 h3 = rw h0 (omega arith)
    by false true left right h0 h1 h2 h3 = rw (h0, h1) (omega arith)
    by false false true right h0 h1 h2 h3 = rw (h0, h1, h2) (omega arith)
    by false false false true h0 h1 h2 h3 = rw (h0, h1, h2, h3) (omega arith)
    by false false false false h0 h1 h2 h3 = rw (h0, h1, h2, h3) tt

equated_light : (n m : ℕ) (a b : Typed) (span : Span) → 2 ≤ n → 2 ≤ m → Light n a → Light m b → Promises (IsLight (n + m + 1)) (equated a b span)
equated_light n m (Value t z v p) (Value u y w q) span one one' ha hb = equated_values_light n m t z v u y w span ha.0 hb.0
equated_light n m (Value t z v p) (AStruct k q) span one one' ha hb = tt
equated_light n m (AStruct k p) b span one one' ha hb = tt

ordered_values_light : (n m : ℕ) (comparison : Comparison) (t : CType) (v : core.Expression) (u : CType) (w : core.Expression) (site : Site) (span : Span) → IsLight n v → IsLight m w → Promises (Light (n + m + 2)) (ordered_values comparison t v u w site span)
ordered_values_light n m comparison t v u w site span hv hw = by (is_number t && is_number u) (are_comparable t u) refl refl
  where
    by : (numbers same : Bool) → (is_number t && is_number u) ≡ numbers → are_comparable t u ≡ same → Promises (Light (n + m + 2)) (ordered_values comparison t v u w site span)
    by true same h0 h1 = rw h0 (omega arith, tt)
    by false true h0 h1 = rw (h0, h1) (needs_promises (Light (n + m + 2)) (are_related t v u w) E26 span (number (core.Order comparison v w site)) (λ yes. (omega arith, tt)))
    by false false h0 h1 = rw (h0, h1) tt

ordered_light : (n m : ℕ) (comparison : Comparison) (a b : Typed) (site : Site) (span : Span) → Light n a → Light m b → Promises (Light (n + m + 2)) (ordered comparison a b site span)
ordered_light n m comparison (Value t z v p) (Value u y w q) site span ha hb = ordered_values_light n m comparison t v u w site span ha.0 hb.0
ordered_light n m comparison (Value t z v p) (AStruct k q) site span ha hb = tt
ordered_light n m comparison (AStruct k p) b site span ha hb = tt

-- whether an element is the zero takes no more than a comparison with 0
zero_test_light : (n m : ℕ) (a b : Typed) (equal : core.Expression) → Light n a → IsLight (n + m + 1) equal → IsLight (n + m + 1) (zero_test a b equal)
zero_test_light n m (Value t z v p) (Value u true w q) equal h light = by (is_number t && is_ended_element v)
  where
    by : (test : Bool) → IsLight (n + m + 1) (picked test (core.Not v) equal)
    by true = let first = h.0 in omega arith
    by false = light
zero_test_light n m (Value t z v p) (Value u false w q) equal h light = light
zero_test_light n m (Value t z v p) (AStruct k q) equal h light = light
zero_test_light n m (AStruct k p) b equal h light = light

binary_light : (n m : ℕ) (s : Scope) (operator : BinaryOperator) (a b : Typed) (site : Site) (span : Span) → 2 ≤ n → 2 ≤ m → Light n a → Light m b → Promises (Light (n + m + 2)) (binary_typed s operator a b site span)
binary_light n m s binary.Or a b site span two two' ha hb = truths_light n m a b span ha hb core.OrElse (λ v w. refl)
binary_light n m s binary.And a b site span two two' ha hb = truths_light n m a b span ha hb core.AndAlso (λ v w. refl)
binary_light n m s binary.BitOr a b site span two two' ha hb = arithmetic_light n m a b span ha hb (operators.Bitwise bits.Or) site
binary_light n m s binary.BitXor a b site span two two' ha hb = arithmetic_light n m a b span ha hb (operators.Bitwise bits.Xor) site
binary_light n m s binary.BitAnd a b site span two two' ha hb = arithmetic_light n m a b span ha hb (operators.Bitwise bits.And) site
binary_light n m s binary.Equal a b site span two two' ha hb = passing_promises (IsLight (n + m + 1)) (Light (n + m + 2)) (equated a b span) number (equated_light n m a b span two two' ha hb) (λ v light. (omega arith, tt))
binary_light n m s binary.NotEqual a b site span two two' ha hb = passing_promises (IsLight (n + m + 1)) (Light (n + m + 2)) (equated a b span) (λ v. number (core.Not (zero_test a b v))) (equated_light n m a b span two two' ha hb)
    (λ v light. let test = zero_test_light n m a b v ha light in (omega arith, tt))
binary_light n m s binary.Less a b site span two two' ha hb = ordered_light n m comparisons.Less a b site span ha hb
binary_light n m s binary.LessEqual a b site span two two' ha hb = ordered_light n m comparisons.LessEqual a b site span ha hb
binary_light n m s binary.Greater a b site span two two' ha hb = ordered_light n m comparisons.Greater a b site span ha hb
binary_light n m s binary.GreaterEqual a b site span two two' ha hb = ordered_light n m comparisons.GreaterEqual a b site span ha hb
binary_light n m s binary.ShiftLeft a b site span two two' ha hb = arithmetic_light n m a b span ha hb (operators.Arithmetic arithmetics.ShiftLeft) site
binary_light n m s binary.ShiftRight a b site span two two' ha hb = arithmetic_light n m a b span ha hb (operators.Arithmetic arithmetics.ShiftRight) site
binary_light n m s binary.Add a b site span two two' ha hb = sum_light n m s directions.Forward a b site span ha hb
binary_light n m s binary.Subtract a b site span two two' ha hb = sum_light n m s directions.Backward a b site span ha hb
binary_light n m s binary.Multiply a b site span two two' ha hb = arithmetic_light n m a b span ha hb (operators.Arithmetic arithmetics.Multiply) site
binary_light n m s binary.Divide a b site span two two' ha hb = arithmetic_light n m a b span ha hb (operators.Arithmetic arithmetics.Divide) site
binary_light n m s binary.Remainder a b site span two two' ha hb = arithmetic_light n m a b span ha hb (operators.Arithmetic arithmetics.Remainder) site

element_light : (n m : ℕ) (t : CType) (pointer number : core.Expression) (site : Site) (span : Span) → IsLight n pointer → IsLight m number → Promises (Light (n + m + 2)) (element_at t pointer number site span)
element_light n m Int pointer number site span hp hn = tt
element_light n m Char pointer number site span hp hn = tt
element_light n m (Struct k) pointer number site span hp hn = tt
element_light n m (Pointer mode kinds.One t) pointer number site span hp hn = tt
element_light n m (Pointer mode kinds.Array t) pointer number site span hp hn =
    elements_promise (Light (n + m + 2)) pointer span _ (at_place_light (n + m + 2) t (core.Through pointer (core.Element number false) 0 site) (omega arith))
element_light n m (Pointer mode kinds.Nt t) pointer number site span hp hn =
    elements_promise (Light (n + m + 2)) pointer span _ (at_place_light (n + m + 2) t (core.Through pointer (core.Element number true) 0 site) (omega arith))

indexed_light : (n m : ℕ) (a b : Typed) (site : Site) (span : Span) → Light n a → Light m b → Promises (Light (n + m + 2)) (indexed a b site span)
indexed_light n m (Value t z v p) (Value u y w q) site span ha hb = needs_promises (Light (n + m + 2)) (is_pointer t && is_number u) E13 span _ (λ x. element_light n m t v w site span ha.0 hb.0)
indexed_light n m (Value t z v p) (AStruct k q) site span ha hb = tt
indexed_light n m (AStruct k p) b site span ha hb = tt

-- ---- conversions and calls

as_pointer_light : (n : ℕ) (test : Bool) (value : core.Expression) → 2 ≤ n → IsLight n value → IsLight n (as_pointer test value)
as_pointer_light n true value two h = omega arith
as_pointer_light n false value two h = h

in_type_light : (n : ℕ) (to : CType) (test : Bool) (value : core.Expression) → 2 ≤ n → IsLight n value → IsLight (n + 1) (in_type to test value)
in_type_light n Int test value two h = omega arith
in_type_light n Char test value two h = omega arith
in_type_light n (Struct k) test value two h = omega arith
in_type_light n (Pointer m k t) test value two h = let light = as_pointer_light n test value two h in omega arith

pub converted_light : {A : Type 0} (Q : A → Type 0) (n : ℕ) (a : Typed) (to : CType) (span : Span) (next : core.Expression → Verdict A) → 2 ≤ n → Light n a → ((v : core.Expression) → IsLight (n + 1) v → Promises Q (next v)) → Promises Q (converted a to span next)
converted_light Q n (Value type zero value place) to span next two h more =
    needs_promises Q (converts type zero to) E13 span _ (λ x. more (in_type to (zero && is_number type) value) (in_type_light n to (zero && is_number type) value two h.0))
converted_light Q n (AStruct number place) to span next two h more = tt

-- five nodes for each node of an argument
abbrev pub AllLight : Expressions → List (Typed × Span) → Type 0
AllLight e.NoMore [] = Unit {0}
AllLight e.NoMore (a ∷ arguments) = ⊥
AllLight (e.Then first others) [] = ⊥
AllLight (e.Then first others) (a ∷ arguments) = Light (5 * tree.expression_weight first) a.0 × AllLight others arguments

pub node_there : (x : Expression) → 1 ≤ tree.expression_weight x
node_there (e.Number value span) = omega arith
node_there (e.Character value span) = omega arith
node_there (e.Text bytes span) = omega arith
node_there (e.Name name) = omega arith
node_there (e.Call callee arguments span) = omega arith
node_there (e.SizeOf type span) = omega arith
node_there (e.Cast word type operand span) = omega arith
node_there (e.BoundedCast word type operand bounds span) = omega arith
node_there (e.Malloc word type size span) = omega arith
node_there (e.Calloc word type count size span) = omega arith
node_there (e.Index base index span) = omega arith
node_there (e.Dot base member span) = omega arith
node_there (e.Arrow base member span) = omega arith
node_there (e.Unary operator operand span) = omega arith
node_there (e.Binary operator left right span) = omega arith

abbrev AreLight : Expressions → core.Arguments → Type 0
AreLight xs values = arguments_weight values ≤ 5 * tree.expressions_weight xs

arguments_light : (xs : Expressions) (arguments : List (Typed × Span)) (ts : List CType) → AllLight xs arguments → Promises (AreLight xs) (arguments_as arguments ts)
arguments_light e.NoMore [] ts all = omega arith
arguments_light e.NoMore (a ∷ arguments) ts all = absurd all
arguments_light (e.Then first others) [] ts all = absurd all
arguments_light (e.Then first others) (a ∷ arguments) [] all = omega arith
arguments_light (e.Then first others) (a ∷ arguments) (t ∷ ts) all =
    converted_light (AreLight (e.Then first others)) (5 * tree.expression_weight first) a.0 t a.1 _ (omega (arith, node_there first)) all.0
    (λ v light. passing_promises (AreLight others) (AreLight (e.Then first others)) (arguments_as arguments ts) _ (arguments_light others arguments ts all.1) (λ rest h. omega arith))

call_light : (n : ℕ) (result : Option CType) (bounds : Option Bounds) (callee : Callee) (values : core.Arguments) (site : Site) (structs : List Structure) → arguments_weight values ≤ n → LightCall (n + 2) (call_of structs result bounds callee values site)
call_light n (Some t) bounds callee values site structs h = omega arith
call_light n None bounds callee values site structs h = omega arith

first_light : (n : ℕ) (of : core.Expression → core.Statement) (values : core.Arguments) → ((v : core.Expression) → statement_weight (of v) ≡ 1 + expression_weight v) → arguments_weight values ≤ n → statement_weight (first_of of values) < n + 2
first_light n of core.Done same h = omega arith
first_light n of (core.More v others) same h = omega (arith, same v)

writes_light : (xs : Expressions) (of : core.Expression → core.Statement) (arguments : List (Typed × Span)) (span : Span) → ((v : core.Expression) → statement_weight (of v) ≡ 1 + expression_weight v) → AllLight xs arguments → Promises (LightCall (5 * tree.expressions_weight xs + 2)) (writes of arguments span)
writes_light xs of arguments span same all =
    let n = 5 * tree.expressions_weight xs in
    needs_promises (LightCall (n + 2)) (length arguments == 1) E14 span _
    (λ x. passing_promises (AreLight xs) (LightCall (n + 2)) (arguments_as arguments (Int ∷ [])) _ (arguments_light xs arguments (Int ∷ []) all) (λ values h. first_light n of values same h))

call_more : (n m : ℕ) (c : Called) → n ≤ m → LightCall n c → LightCall m c
call_more n m (Gives type value) le h = omega arith
call_more n m (GivesNothing call) le h = omega arith

length_light : (n : ℕ) (a : Typed) (site : Site) (span : Span) → Light n a → Promises (LightCall (n + 2)) (length_typed a site span)
length_light n (Value type zero value place) site span h =
    let light = h.0 in
    needs_promises (LightCall (n + 2)) (is_text type && is_some (bounds_of value)) E13 span (Passes (Gives Int (core.Length value site))) (λ text. omega arith)
length_light n (AStruct number place) site span h = tt

measures_light : (xs : Expressions) (arguments : List (Typed × Span)) (site : Site) (span : Span) → AllLight xs arguments → Promises (LightCall (5 * tree.expressions_weight xs + 2)) (measures arguments site span)
measures_light xs [] site span all = tt
measures_light e.NoMore (a ∷ arguments) site span all = absurd all
measures_light (e.Then first others) (a ∷ arguments) site span all =
    let n = 5 * tree.expression_weight first in
    let m = 5 * tree.expressions_weight (e.Then first others) + 2 in
    needs_promises (LightCall m) (length (a ∷ arguments) == 1) E14 span _
    (λ one. convertible_promises (LightCall m) a.0 text_pointer a.1 (length_typed a.0 site span)
    (promised_so (LightCall (n + 2)) (LightCall m) (length_typed a.0 site span) (length_light n a.0 site span all.0) (λ c. call_more (n + 2) m c (omega arith))))

predefined_light : (xs : Expressions) (given : Given) (name : ℕ) (arguments : List (Typed × Span)) (site : Site) (span : Span) → AllLight xs arguments → Promises (LightCall (5 * tree.expressions_weight xs + 2)) (predefined_call given name arguments site span)
predefined_light xs given name arguments site span all = by (name == given.next_input) (name == given.print_int) (name == given.putchar) (name == given.strlen) refl refl refl refl
  where
    by : (input print put measure : Bool) → (name == given.next_input) ≡ input → (name == given.print_int) ≡ print → (name == given.putchar) ≡ put → (name == given.strlen) ≡ measure
        → Promises (LightCall (5 * tree.expressions_weight xs + 2)) (predefined_call given name arguments site span)
    by true print put measure h0 h1 h2 h3 = rw h0 (needs_promises (LightCall (5 * tree.expressions_weight xs + 2)) (length arguments == 0) E14 span (Passes (Gives Int core.NextInput)) (λ none. omega arith))
    by false true put measure h0 h1 h2 h3 = rw (h0, h1) (writes_light xs core.Print arguments span (λ v. refl) all)
    by false false true measure h0 h1 h2 h3 = rw (h0, h1, h2) (writes_light xs core.PutByte arguments span (λ v. refl) all)
    by false false false true h0 h1 h2 h3 = rw (h0, h1, h2, h3) (measures_light xs arguments site span all)
    by false false false false h0 h1 h2 h3 = rw (h0, h1, h2, h3) tt

with_result_light : (n : ℕ) (c : Called) (span : Span) → LightCall n c → Promises (Light n) (with_result c span)
with_result_light n (Gives type value) span h = (h, tt)
with_result_light n (GivesNothing call) span h = tt

called_light : (s : Scope) (xs : Expressions) (o : Option Signature) (name : ℕ) (arguments : List (Typed × Span)) (site : Site) (span : Span) → AllLight xs arguments → Promises (LightCall (5 * tree.expressions_weight xs + 2)) (called s o name arguments site span)
called_light s xs None name arguments site span all = predefined_light xs s.given name arguments site span all
called_light s xs (Some f) name arguments site span all =
    let n = 5 * tree.expressions_weight xs in
    needs_promises (LightCall (n + 2)) (length f.parameters == length arguments) E14 span _
    (λ many. crossing_promises (LightCall (n + 2)) (is_import f) arguments _
    (passing_promises (AreLight xs) (LightCall (n + 2)) (arguments_as arguments f.parameters) _ (arguments_light xs arguments f.parameters all)
    (λ values h. all_met_promise (LightCall (n + 2)) s.flow _ _ arguments f.parameters f.bounds _ (call_light n f.result _ (declared_callee s f site) values site s.structs h))))

-- ---- allocation and casts

count_light : (n : ℕ) (size count : core.Expression) → 2 ≤ n → IsLight n size → IsCount size count → IsLight n count
count_light n size _ two h OfBytes = h
count_light n size _ two h OfOne = omega arith
count_light n size _ two h (OfLeft product) = let same = ap expression_weight product in omega arith
count_light n size _ two h (OfRight product) = let same = ap expression_weight product in omega arith

malloc_light : (n all : ℕ) (word : MallocWord) (s : Scope) (t : CType) (size : Expression) (a : Typed) (site : Site) (span : Span) → 2 ≤ n → n + 1 ≤ all → Light n a → Promises (Light all) (malloc_typed word s t size a site span)
malloc_light n all word s t size (Value type zero value place) site span two more h =
    malloc_promises (Light all) s t site span word size (Value type zero value place) (λ number count is bytes. let light = count_light n value count two h.0 is in (omega arith, tt))
malloc_light n all word s t size (AStruct number place) site span two more h = malloc_promises (Light all) s t site span word size (AStruct number place) tt

calloc_light : (n all : ℕ) (word : CallocWord) (s : Scope) (t : CType) (a : Typed) (size : Expression) (site : Site) (span : Span) → n + 1 ≤ all → Light n a → Promises (Light all) (calloc_typed word s t a size site span)
calloc_light n all word s t (Value type zero value place) size site span more h =
    calloc_promises (Light all) s t site span word (Value type zero value place) size (λ number ended may. let light = h.0 in (omega arith, tt))
calloc_light n all word s t (AStruct number place) size site span more h = calloc_promises (Light all) s t site span word (AStruct number place) size tt

cast_light : (n all : ℕ) (word : CastWord) (s : Scope) (t : CType) (a : Typed) (written : WrittenBounds) (site : Site) (span : Span) → n + 1 ≤ all → Light n a → Promises (Light all) (cast_typed word s t a written site span)
cast_light n all word s t (Value type zero value place) written site span more h =
    cast_promises (Light all) word s t (Value type zero value place) written site span (λ casts. let light = h.0 in (omega arith, tt))
cast_light n all word s t (AStruct number place) written site span more h = cast_promises (Light all) word s t (AStruct number place) written site span tt

-- ---- the walk

mutual
  -- fewer than five nodes for each node of the tree
  pub typed_light : (at : Places) (s : Scope) (x : Expression) → Promises (Light (5 * tree.expression_weight x)) (typed at s x)
  typed_light at s (e.Number value span) = needs_promises (Light 5) (nat_lt value (2 ^ 31)) E04 span _ (λ low. (omega arith, tt))
  typed_light at s (e.Character value span) = needs_promises (Light 5) (nat_lt value (2 ^ 31)) E04 span _ (λ low. (omega arith, tt))
  typed_light at s (e.Text bytes span) = any_text (Light 5) s.structs (text_at s.strings span.from) (site_at at span) span (λ t. (omega arith, tt))
  typed_light at s (e.Name name) = bounded_light 5 s (site_at at name.span) (passing (named s name.number) (λ x. Passes (name_typed s x (site_at at name.span)))) (passing_promises (λ (x : Named). Unit {0}) (Light 5) (named s name.number) _ (anything_promised (named s name.number)) (λ x _. name_light 5 s x (site_at at name.span) (omega arith)))
  typed_light at s (e.Call callee arguments span) =
      let n = 5 * tree.expressions_weight arguments in
      let all = 5 * tree.expression_weight (e.Call callee arguments span) in
      passing_promises (AllLight arguments) (Light all) (all_typed at s arguments) _ (all_light at s arguments)
      (λ ts light. passing_promises (LightCall (n + 2)) (Light all) (called s (function_named s.functions callee.number) callee.number ts (site_at at span) span) _
      (called_light s arguments (function_named s.functions callee.number) callee.number ts (site_at at span) span light)
      (λ c h. promised_so (Light (n + 2)) (Light all) (with_result c span) (with_result_light (n + 2) c span h) (λ t. light_more (n + 2) all t (omega arith))))
  typed_light at s (e.SizeOf type span) =
      passing_promises (λ (t : CType). Unit {0}) (Light (5 * tree.expression_weight (e.SizeOf type span))) (type_named s type) _ (anything_promised (type_named s type)) (λ t _. (omega arith, tt))
  typed_light at s (e.Cast word type operand span) =
      let n = 5 * tree.expression_weight operand in
      let all = 5 * tree.expression_weight (e.Cast word type operand span) in
      passing_any (Light all) (type_named s type) _ (λ t. passing_promises (Light n) (Light all) (typed at s operand) _ (typed_light at s operand)
      (λ a h. cast_light n all word s t a None (site_at at span) span (omega arith) h))
  typed_light at s (e.BoundedCast word type operand bounds span) =
      let n = 5 * tree.expression_weight operand in
      let all = 5 * tree.expression_weight (e.BoundedCast word type operand bounds span) in
      passing_any (Light all) (type_named s type) _ (λ t. passing_promises (Light n) (Light all) (typed at s operand) _ (typed_light at s operand)
      (λ a h. passing_any (Light all) (cast_bounds s t bounds) _ (λ written. cast_light n all word s t a written (site_at at span) span (omega arith) h)))
  typed_light at s (e.Malloc word type size span) =
      let n = 5 * tree.expression_weight size in
      let all = 5 * tree.expression_weight (e.Malloc word type size span) in
      passing_any (Light all) (type_named s type) _ (λ t. passing_promises (Light n) (Light all) (typed at s size) _ (typed_light at s size)
      (λ a h. malloc_light n all word s t size a (site_at at span) span (omega (arith, node_there size)) (omega arith) h))
  typed_light at s (e.Calloc word type count size span) =
      let n = 5 * tree.expression_weight count in
      let all = 5 * tree.expression_weight (e.Calloc word type count size span) in
      passing_any (Light all) (type_named s type) _ (λ t. passing_promises (Light n) (Light all) (typed at s count) _ (typed_light at s count)
      (λ a h. passing_any (Light all) (typed at s size) _ (λ b. calloc_light n all word s t a size (site_at at span) span (omega arith) h)))
  typed_light at s (e.Index base index span) =
      let n = 5 * tree.expression_weight base in
      let m = 5 * tree.expression_weight index in
      let all = 5 * tree.expression_weight (e.Index base index span) in
      in_cell_light all s (site_at at span) (passing (typed at s base) (λ a. passing (typed at s index) (λ b. indexed a b (site_at at span) span)))
      (passing_promises (Light n) (Light all) (typed at s base) _ (typed_light at s base)
      (λ a ha. passing_promises (Light m) (Light all) (typed at s index) _ (typed_light at s index)
      (λ b hb. promised_so (Light (n + m + 2)) (Light all) (indexed a b (site_at at span) span) (indexed_light n m a b (site_at at span) span ha hb) (λ t. light_more (n + m + 2) all t (omega arith)))))
  typed_light at s (e.Dot base member span) =
      let n = 5 * tree.expression_weight base in
      let all = 5 * tree.expression_weight (e.Dot base member span) in
      in_cell_light all s (site_at at span) (passing (typed at s base) (λ a. dotted s a member.number (site_at at span) span)) (passing_promises (Light n) (Light all) (typed at s base) _ (typed_light at s base)
      (λ a light. promised_so (Light (n + 2)) (Light all) (dotted s a member.number (site_at at span) span) (dotted_light n s a member.number (site_at at span) span (omega (arith, node_there base)) light) (λ t. light_more (n + 2) all t (omega arith))))
  typed_light at s (e.Arrow base member span) =
      let n = 5 * tree.expression_weight base in
      let all = 5 * tree.expression_weight (e.Arrow base member span) in
      in_cell_light all s (site_at at span) (passing (typed at s base) (λ a. arrowed s a member.number (site_at at span) span)) (passing_promises (Light n) (Light all) (typed at s base) _ (typed_light at s base)
      (λ a light. promised_so (Light (n + 3)) (Light all) (arrowed s a member.number (site_at at span) span) (arrowed_light n s a member.number (site_at at span) span light) (λ t. light_more (n + 3) all t (omega arith))))
  typed_light at s (e.Unary operator operand span) =
      let n = 5 * tree.expression_weight operand in
      let all = 5 * tree.expression_weight (e.Unary operator operand span) in
      in_cell_light all s (site_at at span) (passing (typed at s operand) (λ a. unary_typed operator a (site_at at span) span)) (passing_promises (Light n) (Light all) (typed at s operand) _ (typed_light at s operand)
      (λ a light. promised_so (Light (n + 3)) (Light all) (unary_typed operator a (site_at at span) span) (unary_light n operator a (site_at at span) span light) (λ t. light_more (n + 3) all t (omega arith))))
  typed_light at s (e.Binary operator left right span) =
      let n = 5 * tree.expression_weight left in
      let m = 5 * tree.expression_weight right in
      let all = 5 * tree.expression_weight (e.Binary operator left right span) in
      passing_promises (Light n) (Light all) (typed at s left) _ (typed_light at s left)
      (λ a ha. passing_promises (Light m) (Light all) (typed at (beside operator a s) right) _ (typed_light at (beside operator a s) right)
      (λ b hb. promised_so (Light (n + m + 2)) (Light all) (binary_typed s operator a b (site_at at span) span)
      (binary_light n m s operator a b (site_at at span) span (omega (arith, node_there left)) (omega (arith, node_there right)) ha hb) (λ t. light_more (n + m + 2) all t (omega arith))))

  all_light : (at : Places) (s : Scope) (xs : Expressions) → Promises (AllLight xs) (all_typed at s xs)
  all_light at s e.NoMore = tt
  all_light at s (e.Then first others) =
      passing_promises (Light (5 * tree.expression_weight first)) (AllLight (e.Then first others)) (typed at s first) _ (typed_light at s first)
      (λ t light. passing_promises (AllLight others) (AllLight (e.Then first others)) (all_typed at s others) _ (all_light at s others) (λ ts lights. (light, lights)))

pub call_typed_light : (at : Places) (s : Scope) (x : Expression) → Promises (LightCall (5 * tree.expression_weight x)) (call_typed at s x)
call_typed_light at s (e.Call callee arguments span) =
    let n = 5 * tree.expressions_weight arguments in
    let all = 5 * tree.expression_weight (e.Call callee arguments span) in
    passing_promises (AllLight arguments) (LightCall all) (all_typed at s arguments) _ (all_light at s arguments)
    (λ ts light. promised_so (LightCall (n + 2)) (LightCall all) (called s (function_named s.functions callee.number) callee.number ts (site_at at span) span)
    (called_light s arguments (function_named s.functions callee.number) callee.number ts (site_at at span) span light) (λ c. call_more (n + 2) all c (omega arith)))
call_typed_light at s (e.Number value span) = tt
call_typed_light at s (e.Character value span) = tt
call_typed_light at s (e.Text bytes span) = tt
call_typed_light at s (e.Name name) = tt
call_typed_light at s (e.SizeOf type span) = tt
call_typed_light at s (e.Cast word type operand span) = tt
call_typed_light at s (e.BoundedCast word type operand bounds span) = tt
call_typed_light at s (e.Malloc word type size span) = tt
call_typed_light at s (e.Calloc word type count size span) = tt
call_typed_light at s (e.Index base index span) = tt
call_typed_light at s (e.Dot base member span) = tt
call_typed_light at s (e.Arrow base member span) = tt
call_typed_light at s (e.Unary operator operand span) = tt
call_typed_light at s (e.Binary operator left right span) = tt
