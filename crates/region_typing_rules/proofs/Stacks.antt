-- The parts of a core take few words of the stack, by the height of the tree that they come from.
use Rattle.std.proofs.Common.{◌≡◌, ℕ, ◌+◌, ◌*◌, ◌≤◌, ◌^◌, Bool, true, false, List, [], ◌∷◌, length, Option, Some, None, refl, ap, arith}
use Rattle.std.specs.Prelude.{◌==◌, nat_lt, ◌&&◌, is_some}
use Rattle.std.specs.List.{AllByRecursion}
use Rattle.std.proofs.lemmas.Bool.{ltb-true, ltb-false}
use Rattle.ckc_text.specs.declared.place.Span.{Span}
use Rattle.ckc_text.specs.declared.code.Code.TheVariants.{E04, E13, E14, E26}
use Rattle.ckc_tree.specs.declared.expr.CastWord.{CastWord}
use Rattle.ckc_tree.specs.declared.expr.MallocWord.{MallocWord}
use Rattle.ckc_tree.specs.declared.expr.CallocWord.{CallocWord}
use Rattle.ckc_tree.specs.declared.expr.UnaryOperator.{UnaryOperator}
use Rattle.ckc_tree.specs.declared.expr.UnaryOperator.TheVariants as unary
use Rattle.ckc_tree.specs.declared.expr.BinaryOperator.{BinaryOperator}
use Rattle.ckc_tree.specs.declared.expr.BinaryOperator.TheVariants as binary
use Rattle.ckc_tree.specs.Expressions as e
use Rattle.ckc_tree.specs.Expressions.{Expression, Expressions}
use Rattle.ckc_tree.specs.Heights.{Reach, deeper, ◌beside◌, inside, around, type_reach, expression_reach, expressions_reach, bounds_reach}
use Rattle.bounds_flow.specs.Flows.{Knowledge}
use Rattle.pointer_modes.specs.declared.ctype.Kind.TheVariants as kinds
use Rattle.bounds_exprs.specs.declared.term.Bounds.{Bounds}
use Rattle.pointer_modes.specs.Types.{CType, Int, Char, Struct, Pointer, Structure, members_of}
use Rattle.pointer_modes.specs.Layout.{cells_of}
use Rattle.ckc_core.specs.declared.program.Site.{Site}
use Rattle.act_words.specs.declared.operator.Operator.{Operator}
use Rattle.act_words.specs.declared.operator.ArithmeticOperator.TheVariants as arithmetics
use Rattle.act_words.specs.declared.operator.BitwiseOperator.TheVariants as bits
use Rattle.act_words.specs.declared.operator.Operator.TheVariants as operators
use Rattle.act_words.specs.declared.operator.Comparison.{Comparison}
use Rattle.act_words.specs.declared.operator.Comparison.TheVariants as comparisons
use Rattle.ckc_core.specs.declared.program.Callee.{Callee}
use Rattle.ckc_core.specs.declared.program.PointerBounds.{PointerBounds}
use Rattle.ckc_core.specs.declared.program.Direction.{Direction}
use Rattle.ckc_core.specs.declared.program.Direction.TheVariants as directions
use Rattle.ckc_core.specs.Core as core
use Rattle.ckc_core.specs.Meaning.{bounds_of}
use Rattle.ckc_core.specs.Stacks.{offset_stack, expression_stack, arguments_stack, place_stack, statement_stack}
use Rattle.ckc_names_rules.specs.declared.given.Given.{Given}
use Rattle.region_typing_rules.specs.Verdicts.{Verdict, Passes, passing, picked}
use Rattle.region_typing_rules.specs.Scopes.{Scope, Signature, WrittenBounds, Named, Local, Object, Array, Nothing, named, function_named, members_named}
use Rattle.region_typing_rules.specs.Types.{type_named, is_number, is_pointer, are_comparable, converts}
use Rattle.region_typing_rules.specs.Operands.{Places, OfLocal, OfCell, OfBounded, OfUnknown, Standing, ForNothing, ForArray, For, Typed, Value, AStruct, Called, Gives, GivesNothing, site_at, bounds_at, noted, noted_if, with_bounds, cell_bounds, with_cell_bounds, sum_node, bounded, in_cell, plain, number, at_place, local_typed, name_typed, object_typed, member_place, member_from, offset_among, member_at, dotted, first_element, first_or_end, pointed_by, arrowed, pointed_at, dereferenced, pointer_to, address, number_of, scalar_of, unary_typed, two_numbers, two_scalars, operator_along, summed, sum_typed, as_pointer, equated_values, equated, is_ended_element, zero_test, are_related, ordered_values, ordered, arithmetic, binary_typed, beside as right_scope, element_at, indexed, in_type, converted, is_array, local_standing}
use Rattle.region_typing_rules.specs.Calls.{arguments_as, is_import, call_of, declared_callee, first_of, writes, is_text, length_typed, text_pointer, measures, predefined_call, called, with_result}
use Rattle.region_typing_rules.specs.NewMemory.{malloc_typed, calloc_typed, cast_typed, cast_bounds}
use Rattle.region_typing_rules.specs.Expressions.{typed, all_typed, call_typed}
use Rattle.region_typing_rules.proofs.RightOperands.{in_right}
use Rattle.region_typing_rules.proofs.Knowledge.{crossing_promises}
use Rattle.region_typing_rules.proofs.Kept.{passing_any}
use Rattle.region_typing_rules.proofs.Memory.{IsCount, OfBytes, OfOne, OfLeft, OfRight, malloc_promises, calloc_promises, cast_promises}
use Rattle.region_typing_rules.proofs.Verdicts.{Promises, passing_promises, needs_promises, convertible_promises, anything_promised, promised_so, elements_promise, apart_promises, all_met_promise}
use Rattle.region_typing_rules.proofs.Signatures.{named_has}
use Rattle.region_typing_rules.proofs.TextBlocks.{any_text}
use Rattle.region_typing_rules.specs.Strings.{text_at}

-- ---- heights

pub beside_first : (a b : Reach) → a.height ≤ (a beside b).height
beside_first a b = by (nat_lt a.height b.height) refl
  where
    by : (test : Bool) → nat_lt a.height b.height ≡ test → a.height ≤ (deeper test a b).height
    by true h = let low = ltb-true a.height b.height h in omega arith
    by false h = omega arith

pub beside_second : (a b : Reach) → b.height ≤ (a beside b).height
beside_second a b = by (nat_lt a.height b.height) refl
  where
    by : (test : Bool) → nat_lt a.height b.height ≡ test → b.height ≤ (deeper test a b).height
    by true h = omega arith
    by false h = ltb-false a.height b.height h

pub around_higher : (start : ℕ) (parts : Reach) → (around start parts).height ≡ parts.height + 1
around_higher start parts = by parts.height
  where
    by : (n : ℕ) → (inside start n parts.start).height ≡ n + 1
    by ℕ.zero = refl
    by (ℕ.suc n) = omega arith

-- an expression is a node
pub some_reach : (x : Expression) → 1 ≤ (expression_reach x).height
some_reach (e.Number value span) = omega arith
some_reach (e.Character value span) = omega arith
some_reach (e.Text bytes span) = omega arith
some_reach (e.Name name) = omega arith
some_reach (e.Call callee arguments span) = omega (arith, around_higher span.from (expressions_reach arguments))
some_reach (e.SizeOf type span) = omega (arith, around_higher span.from (type_reach type.base))
some_reach (e.Cast word type operand span) = omega (arith, around_higher span.from (type_reach type.base beside expression_reach operand))
some_reach (e.BoundedCast word type operand bounds span) = omega (arith, around_higher span.from (type_reach type.base beside expression_reach operand beside bounds_reach bounds))
some_reach (e.Malloc word type size span) = omega (arith, around_higher span.from (type_reach type.base beside expression_reach size))
some_reach (e.Calloc word type count size span) = omega (arith, around_higher span.from (type_reach type.base beside expression_reach count beside expression_reach size))
some_reach (e.Index base index span) = omega (arith, around_higher span.from (expression_reach base beside expression_reach index))
some_reach (e.Dot base member span) = omega (arith, around_higher span.from (expression_reach base))
some_reach (e.Arrow base member span) = omega (arith, around_higher span.from (expression_reach base))
some_reach (e.Unary operator operand span) = omega (arith, around_higher span.from (expression_reach operand))
some_reach (e.Binary operator left right span) = omega (arith, around_higher span.from (expression_reach left beside expression_reach right))

-- ---- what an expression is takes so many words at most

abbrev pub LowPlace : ℕ → Standing → Type 0
LowPlace n ForNothing = Unit {0}
LowPlace n ForArray = Unit {0}
LowPlace n (For (OfLocal k)) = Unit {0}
LowPlace n (For (OfCell p)) = place_stack p ≤ n
LowPlace n (For (OfBounded k b)) = place_stack (core.Direct k 0) ≤ n
LowPlace n (For (OfUnknown k)) = place_stack (core.Direct k 0) ≤ n

abbrev pub Low : ℕ → Typed → Type 0
Low n (Value type zero value place) = (expression_stack value ≤ n) × LowPlace n place
Low n (AStruct number place) = LowPlace n (For place)

abbrev pub LowCall : ℕ → Called → Type 0
LowCall n (Gives type value) = expression_stack value ≤ n
LowCall n (GivesNothing call) = statement_stack call ≤ n

abbrev pub IsLow : ℕ → core.Expression → Type 0
IsLow n v = expression_stack v ≤ n

low_place_more : (n m : ℕ) (place : Standing) → n ≤ m → LowPlace n place → LowPlace m place
low_place_more n m ForNothing le h = tt
low_place_more n m ForArray le h = tt
low_place_more n m (For (OfLocal k)) le h = tt
low_place_more n m (For (OfCell p)) le h = omega arith
low_place_more n m (For (OfBounded k b)) le h = omega arith
low_place_more n m (For (OfUnknown k)) le h = omega arith

pub low_more : (n m : ℕ) (t : Typed) → n ≤ m → Low n t → Low m t
low_more n m (Value type zero value place) le h = let first = h.0 in (omega arith, low_place_more n m place le h.1)
low_more n m (AStruct number place) le h = low_place_more n m (For place) le h

-- bounds are no code
noted_low : (b : Option PointerBounds) (v : core.Expression) → expression_stack (noted b v) ≡ expression_stack v
noted_low b (core.Number number) = refl
noted_low b core.Null = refl
noted_low b (core.Local local bounds) = refl
noted_low b (core.Load type place bounds) = refl
noted_low b (core.AddressOf place bounds) = refl
noted_low b (core.Negate operand site) = refl
noted_low b (core.Complement operand) = refl
noted_low b (core.Not operand) = refl
noted_low b (core.Arithmetic operator left right site) = refl
noted_low b (core.Compare comparison left right) = refl
noted_low b (core.Same left right) = refl
noted_low b (core.AndAlso left right) = refl
noted_low b (core.OrElse left right) = refl
noted_low b (core.LowByte operand) = refl
noted_low b (core.Call callee arguments bounds) = refl
noted_low b core.NextInput = refl
noted_low b (core.Sum pointer direction number site bounds) = refl
noted_low b (core.Order comparison left right site) = refl
noted_low b (core.Allocate count element terminator bounds) = refl
noted_low b (core.Length pointer site) = refl
noted_low b (core.Cast pointer bounds) = refl

noted_if_low : (b : Option PointerBounds) (v : core.Expression) → expression_stack (noted_if b v) ≡ expression_stack v
noted_if_low None v = refl
noted_if_low (Some p) v = noted_low (Some p) v

with_bounds_low : (n : ℕ) (s : Scope) (site : Site) (t : Typed) → Low n t → Low n (with_bounds s.structs site t)
with_bounds_low n s site (Value type zero value place) h = let first = h.0 in (omega (arith, noted_if_low (bounds_at s.structs type site) value), h.1)
with_bounds_low n s site (AStruct number place) h = h

with_cell_bounds_low : (n : ℕ) (structs : List Structure) (site : Site) (t : Typed) → Low n t → Low n (with_cell_bounds structs site t)
with_cell_bounds_low n structs site (Value type zero value place) h = let first = h.0 in (omega (arith, noted_if_low (cell_bounds structs type site) value), h.1)
with_cell_bounds_low n structs site (AStruct number place) h = h

in_cell_low : (n : ℕ) (s : Scope) (site : Site) (v : Verdict Typed) → Promises (Low n) v → Promises (Low n) (in_cell s site v)
in_cell_low n s site v h = passing_promises (Low n) (Low n) v _ h (with_cell_bounds_low n s.structs site)

bounded_low : (n : ℕ) (s : Scope) (site : Site) (v : Verdict Typed) → Promises (Low n) v → Promises (Low n) (bounded s site v)
bounded_low n s site v h = passing_promises (Low n) (Low n) v _ h (with_bounds_low n s site)

offset_low : (k : ℕ) → offset_stack k ≤ 2
offset_low ℕ.zero = omega arith
offset_low (ℕ.suc k) = omega arith

-- ---- places

at_place_low : (n : ℕ) (t : CType) (p : core.Place) → place_stack p ≤ n → Low n (at_place t p)
at_place_low n Int p h = (h, h)
at_place_low n Char p h = (h, h)
at_place_low n (Struct number) p h = h
at_place_low n (Pointer m k t) p h = (h, h)

standing_low : (n k : ℕ) (array : Bool) → LowPlace n (local_standing array k)
standing_low n k true = tt
standing_low n k false = tt

local_low : (n : ℕ) (structs : List Structure) (f : Knowledge) (k : ℕ) (t : CType) (array : Bool) (site : Site) → 1 ≤ n → Low n (local_typed structs f k t array site)
local_low n structs f k Int array site h = (h, standing_low n k array)
local_low n structs f k Char array site h = (h, standing_low n k array)
local_low n structs f k (Struct number) array site h = tt
local_low n structs f k (Pointer m d t) array site h = (h, standing_low n k array)

object_low : (n : ℕ) (structs : List Structure) (k : ℕ) (t : CType) (bounds : WrittenBounds) (site : Site) → 2 ≤ n → Low n (object_typed structs k t bounds site)
object_low n structs k t None site h = with_cell_bounds_low n structs site (at_place t (core.Direct k 0)) (at_place_low n t (core.Direct k 0) (omega arith))
object_low n structs k Int (Some None) site h = (omega arith, omega arith)
object_low n structs k Char (Some None) site h = (omega arith, omega arith)
object_low n structs k (Struct number) (Some None) site h = omega arith
object_low n structs k (Pointer m kinds.One t) (Some None) site h = (omega arith, omega arith)
object_low n structs k (Pointer m kinds.Array t) (Some None) site h = (omega arith, omega arith)
object_low n structs k (Pointer m kinds.Nt t) (Some None) site h = (omega arith, omega arith)
object_low n structs k Int (Some (Some b)) site h = (omega arith, omega arith)
object_low n structs k Char (Some (Some b)) site h = (omega arith, omega arith)
object_low n structs k (Struct number) (Some (Some b)) site h = omega arith
object_low n structs k (Pointer m d t) (Some (Some b)) site h = (omega arith, omega arith)

name_low : (n : ℕ) (s : Scope) (x : Named) (site : Site) → 2 ≤ n → Low n (name_typed s x site)
name_low n s (Local k t) site h = local_low n s.structs s.flow k t (is_array s.arrays k) site (omega arith)
name_low n s (Object k t b) site h = object_low n s.structs k t b site h
name_low n s (Array k t length false) site h = (omega arith, tt)
name_low n s (Array k t length true) site h = (omega arith, tt)
name_low n s Nothing site h = (omega arith, tt)

member_place_low : (n : ℕ) (p : core.Place) (offset : ℕ) (site : Site) → 2 ≤ n → place_stack p ≤ n → place_stack (member_place p offset site) ≤ n
member_place_low n (core.Direct object first) offset site two h = omega (arith, offset_low (first + offset))
member_place_low n (core.Through pointer index first before) offset site two h = omega (arith, offset_low (first + offset))

pointer_low : (n : ℕ) (t : CType) (p : core.Place) (site : Site) → place_stack p ≤ n → Low n (pointer_to t p site)
pointer_low n t (core.Direct object offset) site h = (h, tt)
pointer_low n t (core.Through pointer core.First offset before) site h = (h, tt)
pointer_low n t (core.Through pointer (core.Element number terminated) offset before) site h = (h, tt)

address_low : (n : ℕ) (a : Typed) (site : Site) (span : Span) → Low n a → Promises (Low n) (address a site span)
address_low n (Value type zero value ForNothing) site span h = tt
address_low n (Value type zero value ForArray) site span h = tt
address_low n (Value type zero value (For (OfLocal k))) site span h = tt
address_low n (Value type zero value (For (OfCell p))) site span h = pointer_low n type p site h.1
address_low n (Value type zero value (For (OfBounded k b))) site span h = tt
address_low n (Value type zero value (For (OfUnknown k))) site span h = tt
address_low n (AStruct number (OfLocal k)) site span h = tt
address_low n (AStruct number (OfCell p)) site span h = pointer_low n (Struct number) p site h
address_low n (AStruct number (OfBounded k b)) site span h = tt
address_low n (AStruct number (OfUnknown k)) site span h = tt

pointed_low : (n : ℕ) (t : CType) (value : core.Expression) (site : Site) (span : Span) → 6 ≤ n → IsLow n value → Promises (Low n) (pointed_at t value site span)
pointed_low n Int value site span six h = tt
pointed_low n Char value site span six h = tt
pointed_low n (Struct number) value site span six h = tt
pointed_low n (Pointer m kinds.One t) value site span six h = at_place_low n t (core.Through value core.First 0 site) (omega arith)
pointed_low n (Pointer m kinds.Array t) value site span six h = elements_promise (Low n) value span _ (at_place_low n t (first_element value site) (omega arith))
pointed_low n (Pointer m kinds.Nt t) value site span six h = elements_promise (Low n) value span _ (at_place_low n t (first_or_end value site) (omega arith))

dereferenced_low : (n : ℕ) (a : Typed) (site : Site) (span : Span) → 6 ≤ n → Low n a → Promises (Low n) (dereferenced a site span)
dereferenced_low n (Value type zero value place) site span six h = pointed_low n type value site span six h.0
dereferenced_low n (AStruct number place) site span six h = tt

member_at_low : (n : ℕ) (s : Scope) (struct : ℕ) (p : core.Place) (name : ℕ) (site : Site) (span : Span) → 2 ≤ n → place_stack p ≤ n → Promises (Low n) (member_at s struct p name site span)
member_at_low n s struct p name site span two h = by (member_from 0 (members_named s struct) (members_of s.structs struct) name) refl
  where
    by : (o : Option (ℕ × CType)) → member_from 0 (members_named s struct) (members_of s.structs struct) name ≡ o → Promises (Low n) (member_at s struct p name site span)
    by None found = rw found tt
    by (Some m) found = rw found (at_place_low n m.1 _ (member_place_low n p (offset_among (cells_of s.structs (Struct struct)) m.0) site two h))

dotted_low : (n : ℕ) (s : Scope) (a : Typed) (name : ℕ) (site : Site) (span : Span) → 2 ≤ n → Low n a → Promises (Low n) (dotted s a name site span)
dotted_low n s (Value type zero value place) name site span two h = tt
dotted_low n s (AStruct number (OfLocal k)) name site span two h = member_at_low n s number (core.Through (core.Local k None) core.First 0 site) name site span two (omega arith)
dotted_low n s (AStruct number (OfCell p)) name site span two h = member_at_low n s number p name site span two h
dotted_low n s (AStruct number (OfBounded k b)) name site span two h = member_at_low n s number (core.Direct k 0) name site span two h
dotted_low n s (AStruct number (OfUnknown k)) name site span two h = member_at_low n s number (core.Direct k 0) name site span two h

pointed_by_low : (n : ℕ) (s : Scope) (t : CType) (value : core.Expression) (name : ℕ) (site : Site) (span : Span) → 6 ≤ n → IsLow n value → Promises (Low n) (pointed_by s t value name site span)
pointed_by_low n s Int value name site span six h = tt
pointed_by_low n s Char value name site span six h = tt
pointed_by_low n s (Struct number) value name site span six h = tt
pointed_by_low n s (Pointer m kinds.One Int) value name site span six h = tt
pointed_by_low n s (Pointer m kinds.One Char) value name site span six h = tt
pointed_by_low n s (Pointer m kinds.One (Pointer m' k' t)) value name site span six h = tt
pointed_by_low n s (Pointer m kinds.One (Struct number)) value name site span six h = member_at_low n s number (core.Through value core.First 0 site) name site span (omega arith) (omega arith)
pointed_by_low n s (Pointer m kinds.Array Int) value name site span six h = tt
pointed_by_low n s (Pointer m kinds.Array Char) value name site span six h = tt
pointed_by_low n s (Pointer m kinds.Array (Pointer m' k' t)) value name site span six h = tt
pointed_by_low n s (Pointer m kinds.Array (Struct number)) value name site span six h =
    passing_promises (Low n) (Low n) (member_at s number (first_element value site) name site span) _ (member_at_low n s number (first_element value site) name site span (omega arith) (omega arith))
    (λ t low. elements_promise (Low n) value span (Passes t) low)
pointed_by_low n s (Pointer m kinds.Nt t) value name site span six h = tt

arrowed_low : (n : ℕ) (s : Scope) (a : Typed) (name : ℕ) (site : Site) (span : Span) → 6 ≤ n → Low n a → Promises (Low n) (arrowed s a name site span)
arrowed_low n s (Value type zero value place) name site span six h = pointed_by_low n s type value name site span six h.0
arrowed_low n s (AStruct number place) name site span six h = tt

-- ---- operators

pub number_of_low : {A : Type 0} (Q : A → Type 0) (n : ℕ) (a : Typed) (span : Span) (next : core.Expression → Verdict A) → Low n a → ((v : core.Expression) → IsLow n v → Promises Q (next v)) → Promises Q (number_of a span next)
number_of_low Q n (Value type zero value place) span next h more = needs_promises Q (is_number type) E13 span (next value) (λ yes. more value h.0)
number_of_low Q n (AStruct number place) span next h more = tt

pub scalar_of_low : {A : Type 0} (Q : A → Type 0) (n : ℕ) (a : Typed) (span : Span) (next : core.Expression → Verdict A) → Low n a → ((v : core.Expression) → IsLow n v → Promises Q (next v)) → Promises Q (scalar_of a span next)
scalar_of_low Q n (Value type zero value place) span next h more = more value h.0
scalar_of_low Q n (AStruct number place) span next h more = tt

unary_low : (n : ℕ) (operator : UnaryOperator) (a : Typed) (site : Site) (span : Span) → 6 ≤ n → Low n a → Promises (Low n) (unary_typed operator a site span)
unary_low n unary.Deref a site span six h = dereferenced_low n a site span six h
unary_low n unary.AddressOf a site span six h = address_low n a site span h
unary_low n unary.Negate a site span six h = number_of_low (Low n) n a span (λ v. number (core.Negate v site)) h (λ v low. (low, tt))
unary_low n unary.Not a site span six h = scalar_of_low (Low n) n a span (λ v. number (core.Not v)) h (λ v low. (low, tt))
unary_low n unary.Complement a site span six h = number_of_low (Low n) n a span (λ v. number (core.Complement v)) h (λ v low. (low, tt))

pub two_low : {A : Type 0} (Q : A → Type 0) (n : ℕ) (a b : Typed) (span : Span) (next : core.Expression → core.Expression → Verdict A) → Low n a → Low n b → ((v w : core.Expression) → IsLow n v → IsLow n w → Promises Q (next v w)) → Promises Q (two_numbers a b span next)
two_low Q n a b span next ha hb more = number_of_low Q n a span _ ha (λ v low. number_of_low Q n b span _ hb (λ w low'. more v w low low'))

arithmetic_low : (n : ℕ) (operator : Operator) (a b : Typed) (site : Site) (span : Span) → Low n a → Low n b → Promises (Low (n + 1)) (two_numbers a b span (arithmetic operator site))
arithmetic_low n operator a b site span ha hb = two_low (Low (n + 1)) n a b span (arithmetic operator site) ha hb (λ v w low low'. (omega arith, tt))

summed_low : (n : ℕ) (s : Scope) (direction : Direction) (a b : Typed) (site : Site) (span : Span) → 6 ≤ n → Low n a → Low n b → Promises (Low (n + 1)) (summed s direction a b site span)
summed_low n s direction (Value (Pointer m k t) zero pointer place) b site span six ha hb =
    let low = ha.0 in
    number_of_low (Low (n + 1)) n b span (λ w. plain (Pointer m k t) (core.Sum pointer direction w site (sum_node s.locals direction pointer w site))) hb (λ w low'. (omega arith, tt))
summed_low n s direction (Value Int zero value place) b site span six ha hb = arithmetic_low n (operator_along direction) (Value Int zero value place) b site span ha hb
summed_low n s direction (Value Char zero value place) b site span six ha hb = arithmetic_low n (operator_along direction) (Value Char zero value place) b site span ha hb
summed_low n s direction (Value (Struct k) zero value place) b site span six ha hb = tt
summed_low n s direction (AStruct k place) b site span six ha hb = tt

sum_low : (n : ℕ) (s : Scope) (direction : Direction) (a b : Typed) (site : Site) (span : Span) → 6 ≤ n → Low n a → Low n b → Promises (Low (n + 1)) (sum_typed s direction a b site span)
sum_low n s direction a b site span six ha hb = apart_promises (Low (n + 1)) a b span _ (summed_low n s direction a b site span six ha hb)

truths_low : (n : ℕ) (of : core.Expression → core.Expression → core.Expression) (a b : Typed) (span : Span) → Low n a → Low n b → ((v w : core.Expression) → IsLow n v → IsLow n w → IsLow (n + 1) (of v w)) → Promises (Low (n + 1)) (two_scalars a b span (λ v w. number (of v w)))
truths_low n of a b span ha hb h = scalar_of_low (Low (n + 1)) n a span _ ha (λ v low. scalar_of_low (Low (n + 1)) n b span _ hb (λ w low'. (h v w low low', tt)))

equated_low : (n : ℕ) (t : CType) (z : Bool) (v : core.Expression) (u : CType) (y : Bool) (w : core.Expression) (span : Span) → 2 ≤ n → IsLow n v → IsLow n w → Promises (IsLow (n + 1)) (equated_values t z v u y w span)
equated_low n t z v u y w span two hv hw = by (is_number t && is_number u) (are_comparable t u) (is_pointer t && y) (is_pointer u && z) refl refl refl refl
  where
    by : (numbers same left right : Bool) → (is_number t && is_number u) ≡ numbers → are_comparable t u ≡ same → (is_pointer t && y) ≡ left → (is_pointer u && z) ≡ right → Promises (IsLow (n + 1)) (equated_values t z v u y w span)
    by true same left right h0 h1 h2 h3 = rw h0 (omega arith)
    by false true left right h0 h1 h2 h3 = rw (h0, h1) (omega arith)
    by false false true right h0 h1 h2 h3 = rw (h0, h1, h2) (omega arith)
    by false false false true h0 h1 h2 h3 = rw (h0, h1, h2, h3) (omega arith)
    by false false false false h0 h1 h2 h3 = rw (h0, h1, h2, h3) tt

equal_low : (n : ℕ) (a b : Typed) (span : Span) → 2 ≤ n → Low n a → Low n b → Promises (IsLow (n + 1)) (equated a b span)
equal_low n (Value t z v p) (Value u y w q) span two ha hb = equated_low n t z v u y w span two ha.0 hb.0
equal_low n (Value t z v p) (AStruct k q) span two ha hb = tt
equal_low n (AStruct k p) b span two ha hb = tt

ordered_low : (n : ℕ) (comparison : Comparison) (t : CType) (v : core.Expression) (u : CType) (w : core.Expression) (site : Site) (span : Span) → 6 ≤ n → IsLow n v → IsLow n w → Promises (Low (n + 1)) (ordered_values comparison t v u w site span)
ordered_low n comparison t v u w site span six hv hw = by (is_number t && is_number u) (are_comparable t u) refl refl
  where
    by : (numbers same : Bool) → (is_number t && is_number u) ≡ numbers → are_comparable t u ≡ same → Promises (Low (n + 1)) (ordered_values comparison t v u w site span)
    by true same h0 h1 = rw h0 (omega arith, tt)
    by false true h0 h1 = rw (h0, h1) (needs_promises (Low (n + 1)) (are_related t v u w) E26 span (number (core.Order comparison v w site)) (λ yes. (omega arith, tt)))
    by false false h0 h1 = rw (h0, h1) tt

order_low : (n : ℕ) (comparison : Comparison) (a b : Typed) (site : Site) (span : Span) → 6 ≤ n → Low n a → Low n b → Promises (Low (n + 1)) (ordered comparison a b site span)
order_low n comparison (Value t z v p) (Value u y w q) site span six ha hb = ordered_low n comparison t v u w site span six ha.0 hb.0
order_low n comparison (Value t z v p) (AStruct k q) site span six ha hb = tt
order_low n comparison (AStruct k p) b site span six ha hb = tt

-- whether an element is the zero takes no more than a comparison with 0
zero_test_low : (n : ℕ) (a b : Typed) (equal : core.Expression) → Low n a → IsLow (n + 1) equal → IsLow (n + 1) (zero_test a b equal)
zero_test_low n (Value t z v p) (Value u true w q) equal h low = by (is_number t && is_ended_element v)
  where
    by : (test : Bool) → IsLow (n + 1) (picked test (core.Not v) equal)
    by true = let first = h.0 in omega arith
    by false = low
zero_test_low n (Value t z v p) (Value u false w q) equal h low = low
zero_test_low n (Value t z v p) (AStruct k q) equal h low = low
zero_test_low n (AStruct k p) b equal h low = low

binary_low : (n : ℕ) (s : Scope) (operator : BinaryOperator) (a b : Typed) (site : Site) (span : Span) → 6 ≤ n → Low n a → Low n b → Promises (Low (n + 1)) (binary_typed s operator a b site span)
binary_low n s binary.Or a b site span six ha hb = truths_low n core.OrElse a b span ha hb (λ v w low low'. omega arith)
binary_low n s binary.And a b site span six ha hb = truths_low n core.AndAlso a b span ha hb (λ v w low low'. omega arith)
binary_low n s binary.BitOr a b site span six ha hb = arithmetic_low n (operators.Bitwise bits.Or) a b site span ha hb
binary_low n s binary.BitXor a b site span six ha hb = arithmetic_low n (operators.Bitwise bits.Xor) a b site span ha hb
binary_low n s binary.BitAnd a b site span six ha hb = arithmetic_low n (operators.Bitwise bits.And) a b site span ha hb
binary_low n s binary.Equal a b site span six ha hb = passing_promises (IsLow (n + 1)) (Low (n + 1)) (equated a b span) number (equal_low n a b span (omega arith) ha hb) (λ v low. (low, tt))
binary_low n s binary.NotEqual a b site span six ha hb = passing_promises (IsLow (n + 1)) (Low (n + 1)) (equated a b span) (λ v. number (core.Not (zero_test a b v))) (equal_low n a b span (omega arith) ha hb)
    (λ v low. (zero_test_low n a b v ha low, tt))
binary_low n s binary.Less a b site span six ha hb = order_low n comparisons.Less a b site span six ha hb
binary_low n s binary.LessEqual a b site span six ha hb = order_low n comparisons.LessEqual a b site span six ha hb
binary_low n s binary.Greater a b site span six ha hb = order_low n comparisons.Greater a b site span six ha hb
binary_low n s binary.GreaterEqual a b site span six ha hb = order_low n comparisons.GreaterEqual a b site span six ha hb
binary_low n s binary.ShiftLeft a b site span six ha hb = arithmetic_low n (operators.Arithmetic arithmetics.ShiftLeft) a b site span ha hb
binary_low n s binary.ShiftRight a b site span six ha hb = arithmetic_low n (operators.Arithmetic arithmetics.ShiftRight) a b site span ha hb
binary_low n s binary.Add a b site span six ha hb = sum_low n s directions.Forward a b site span six ha hb
binary_low n s binary.Subtract a b site span six ha hb = sum_low n s directions.Backward a b site span six ha hb
binary_low n s binary.Multiply a b site span six ha hb = arithmetic_low n (operators.Arithmetic arithmetics.Multiply) a b site span ha hb
binary_low n s binary.Divide a b site span six ha hb = arithmetic_low n (operators.Arithmetic arithmetics.Divide) a b site span ha hb
binary_low n s binary.Remainder a b site span six ha hb = arithmetic_low n (operators.Arithmetic arithmetics.Remainder) a b site span ha hb

element_low : (n : ℕ) (t : CType) (pointer number : core.Expression) (site : Site) (span : Span) → 6 ≤ n → IsLow n pointer → IsLow n number → Promises (Low (n + 1)) (element_at t pointer number site span)
element_low n Int pointer number site span six hp hn = tt
element_low n Char pointer number site span six hp hn = tt
element_low n (Struct k) pointer number site span six hp hn = tt
element_low n (Pointer m kinds.One t) pointer number site span six hp hn = tt
element_low n (Pointer m kinds.Array t) pointer number site span six hp hn =
    elements_promise (Low (n + 1)) pointer span _ (at_place_low (n + 1) t (core.Through pointer (core.Element number false) 0 site) (omega arith))
element_low n (Pointer m kinds.Nt t) pointer number site span six hp hn =
    elements_promise (Low (n + 1)) pointer span _ (at_place_low (n + 1) t (core.Through pointer (core.Element number true) 0 site) (omega arith))

indexed_low : (n : ℕ) (a b : Typed) (site : Site) (span : Span) → 6 ≤ n → Low n a → Low n b → Promises (Low (n + 1)) (indexed a b site span)
indexed_low n (Value t z v p) (Value u y w q) site span six ha hb = needs_promises (Low (n + 1)) (is_pointer t && is_number u) E13 span _ (λ x. element_low n t v w site span six ha.0 hb.0)
indexed_low n (Value t z v p) (AStruct k q) site span six ha hb = tt
indexed_low n (AStruct k p) b site span six ha hb = tt

-- ---- conversions and calls

as_pointer_low : (n : ℕ) (test : Bool) (value : core.Expression) → 1 ≤ n → IsLow n value → IsLow n (as_pointer test value)
as_pointer_low n true value one h = one
as_pointer_low n false value one h = h

in_type_low : (n : ℕ) (to : CType) (test : Bool) (value : core.Expression) → 1 ≤ n → IsLow n value → IsLow n (in_type to test value)
in_type_low n Int test value one h = h
in_type_low n Char test value one h = h
in_type_low n (Struct k) test value one h = h
in_type_low n (Pointer m k t) test value one h = as_pointer_low n test value one h

pub converted_low : {A : Type 0} (Q : A → Type 0) (n : ℕ) (a : Typed) (to : CType) (span : Span) (next : core.Expression → Verdict A) → 1 ≤ n → Low n a → ((v : core.Expression) → IsLow n v → Promises Q (next v)) → Promises Q (converted a to span next)
converted_low Q n (Value type zero value place) to span next one h more =
    needs_promises Q (converts type zero to) E13 span _ (λ x. more (in_type to (zero && is_number type) value) (in_type_low n to (zero && is_number type) value one h.0))
converted_low Q n (AStruct number place) to span next one h more = tt

abbrev pub AllLow : ℕ → List (Typed × Span) → Type 0
AllLow n [] = Unit {0}
AllLow n (a ∷ arguments) = Low n a.0 × AllLow n arguments

all_low_more : (n m : ℕ) (arguments : List (Typed × Span)) → n ≤ m → AllLow n arguments → AllLow m arguments
all_low_more n m [] le h = tt
all_low_more n m (a ∷ arguments) le h = (low_more n m a.0 le h.0, all_low_more n m arguments le h.1)

arguments_low : (n : ℕ) (arguments : List (Typed × Span)) (ts : List CType) → 1 ≤ n → AllLow n arguments → Promises (λ (values : core.Arguments). arguments_stack values ≤ n + length ts) (arguments_as arguments ts)
arguments_low n [] ts one all = omega arith
arguments_low n (a ∷ arguments) [] one all = omega arith
arguments_low n (a ∷ arguments) (t ∷ ts) one all =
    converted_low (λ (values : core.Arguments). arguments_stack values ≤ n + length (t ∷ ts)) n a.0 t a.1 _ one all.0
    (λ v low. passing_promises (λ (values : core.Arguments). arguments_stack values ≤ n + length ts) (λ (values : core.Arguments). arguments_stack values ≤ n + length (t ∷ ts)) (arguments_as arguments ts) _ (arguments_low n arguments ts one all.1)
    (λ others h. omega arith))

call_low : (n : ℕ) (result : Option CType) (bounds : Option Bounds) (callee : Callee) (values : core.Arguments) (site : Site) (structs : List Structure) → 1 ≤ n → arguments_stack values ≤ n → LowCall n (call_of structs result bounds callee values site)
call_low n (Some t) bounds callee values site structs one h = omega arith
call_low n None bounds callee values site structs one h = h

first_low : (n : ℕ) (of : core.Expression → core.Statement) (values : core.Arguments) → ((v : core.Expression) → statement_stack (of v) ≡ expression_stack v) → arguments_stack values ≤ n → statement_stack (first_of of values) ≤ n
first_low n of core.Done same h = omega arith
first_low n of (core.More v others) same h = omega (arith, same v)

writes_low : (n : ℕ) (of : core.Expression → core.Statement) (arguments : List (Typed × Span)) (span : Span) → ((v : core.Expression) → statement_stack (of v) ≡ expression_stack v) → 1 ≤ n → AllLow n arguments → Promises (LowCall (n + 16)) (writes of arguments span)
writes_low n of arguments span same one all =
    needs_promises (LowCall (n + 16)) (length arguments == 1) E14 span _
    (λ x. passing_promises (λ (values : core.Arguments). arguments_stack values ≤ n + 1) (LowCall (n + 16)) (arguments_as arguments (Int ∷ [])) _ (arguments_low n arguments (Int ∷ []) one all) (λ values h. first_low (n + 16) of values same (omega arith)))

length_low : (n : ℕ) (a : Typed) (site : Site) (span : Span) → Low n a → Promises (LowCall (n + 16)) (length_typed a site span)
length_low n (Value type zero value place) site span h =
    let low = h.0 in
    needs_promises (LowCall (n + 16)) (is_text type && is_some (bounds_of value)) E13 span (Passes (Gives Int (core.Length value site))) (λ text. omega arith)
length_low n (AStruct number place) site span h = tt

measures_low : (n : ℕ) (arguments : List (Typed × Span)) (site : Site) (span : Span) → AllLow n arguments → Promises (LowCall (n + 16)) (measures arguments site span)
measures_low n [] site span all = tt
measures_low n (a ∷ arguments) site span all = needs_promises (LowCall (n + 16)) (length (a ∷ arguments) == 1) E14 span _ (λ one. convertible_promises (LowCall (n + 16)) a.0 text_pointer a.1 (length_typed a.0 site span) (length_low n a.0 site span all.0))

predefined_low : (n : ℕ) (given : Given) (name : ℕ) (arguments : List (Typed × Span)) (site : Site) (span : Span) → 1 ≤ n → AllLow n arguments → Promises (LowCall (n + 16)) (predefined_call given name arguments site span)
predefined_low n given name arguments site span one all = by (name == given.next_input) (name == given.print_int) (name == given.putchar) (name == given.strlen) refl refl refl refl
  where
    by : (input print put measure : Bool) → (name == given.next_input) ≡ input → (name == given.print_int) ≡ print → (name == given.putchar) ≡ put → (name == given.strlen) ≡ measure
        → Promises (LowCall (n + 16)) (predefined_call given name arguments site span)
    by true print put measure h0 h1 h2 h3 = rw h0 (needs_promises (LowCall (n + 16)) (length arguments == 0) E14 span (Passes (Gives Int core.NextInput)) (λ none. omega arith))
    by false true put measure h0 h1 h2 h3 = rw (h0, h1) (writes_low n core.Print arguments span (λ v. refl) one all)
    by false false true measure h0 h1 h2 h3 = rw (h0, h1, h2) (writes_low n core.PutByte arguments span (λ v. refl) one all)
    by false false false true h0 h1 h2 h3 = rw (h0, h1, h2, h3) (measures_low n arguments site span all)
    by false false false false h0 h1 h2 h3 = rw (h0, h1, h2, h3) tt

-- ---- allocation and casts

count_low : (n : ℕ) (size count : core.Expression) → 1 ≤ n → IsLow n size → IsCount size count → IsLow n count
count_low n size _ some h OfBytes = h
count_low n size _ some h OfOne = some
count_low n size _ some h (OfLeft product) = let same = ap expression_stack product in omega arith
count_low n size _ some h (OfRight product) = let same = ap expression_stack product in omega arith

malloc_low : (n : ℕ) (word : MallocWord) (s : Scope) (t : CType) (size : Expression) (a : Typed) (site : Site) (span : Span) → 1 ≤ n → Low n a → Promises (Low n) (malloc_typed word s t size a site span)
malloc_low n word s t size (Value type zero value place) site span some h =
    malloc_promises (Low n) s t site span word size (Value type zero value place) (λ number count is bytes. (count_low n value count some h.0 is, tt))
malloc_low n word s t size (AStruct number place) site span some h = malloc_promises (Low n) s t site span word size (AStruct number place) tt

calloc_low : (n : ℕ) (word : CallocWord) (s : Scope) (t : CType) (a : Typed) (size : Expression) (site : Site) (span : Span) → Low n a → Promises (Low n) (calloc_typed word s t a size site span)
calloc_low n word s t (Value type zero value place) size site span h = calloc_promises (Low n) s t site span word (Value type zero value place) size (λ number ended may. (h.0, tt))
calloc_low n word s t (AStruct number place) size site span h = calloc_promises (Low n) s t site span word (AStruct number place) size tt

cast_low : (n : ℕ) (word : CastWord) (s : Scope) (t : CType) (a : Typed) (written : WrittenBounds) (site : Site) (span : Span) → 7 ≤ n → Low n a → Promises (Low n) (cast_typed word s t a written site span)
cast_low n word s t (Value type zero value place) written site span seven h =
    cast_promises (Low n) word s t (Value type zero value place) written site span (λ casts. let low = h.0 in (omega arith, tt))
cast_low n word s t (AStruct number place) written site span seven h = cast_promises (Low n) word s t (AStruct number place) written site span tt

call_more : (n m : ℕ) (c : Called) → n ≤ m → LowCall n c → LowCall m c
call_more n m (Gives type value) le h = omega arith
call_more n m (GivesNothing call) le h = omega arith

-- few parameters
abbrev pub HasFew : Signature → Type 0
HasFew f = length f.parameters ≤ 16

with_result_low : (n : ℕ) (c : Called) (span : Span) → LowCall n c → Promises (Low n) (with_result c span)
with_result_low n (Gives type value) span h = (h, tt)
with_result_low n (GivesNothing call) span h = tt

module _ (s : Scope) (few : AllByRecursion HasFew s.functions) where
  called_low : (n : ℕ) (o : Option Signature) (name : ℕ) (arguments : List (Typed × Span)) (site : Site) (span : Span) → function_named s.functions name ≡ o → 1 ≤ n → AllLow n arguments → Promises (LowCall (n + 16)) (called s o name arguments site span)
  called_low n None name arguments site span found one all = predefined_low n s.given name arguments site span one all
  called_low n (Some f) name arguments site span found one all =
      needs_promises (LowCall (n + 16)) (length f.parameters == length arguments) E14 span _
      (λ many. crossing_promises (LowCall (n + 16)) (is_import f) arguments _
      (passing_promises (λ (values : core.Arguments). arguments_stack values ≤ n + length f.parameters) (LowCall (n + 16)) (arguments_as arguments f.parameters) _ (arguments_low n arguments f.parameters one all)
      (λ values h. let least = named_has HasFew s.functions name f few found in
      all_met_promise (LowCall (n + 16)) s.flow _ _ arguments f.parameters f.bounds _ (call_low (n + 16) f.result _ (declared_callee s f site) values site s.structs (omega arith) (omega arith)))))

-- ---- the walk

mutual
  -- 17 words for each node on the way to the deepest one
  pub typed_low : (s : Scope) (few : AllByRecursion HasFew s.functions) (at : Places) (x : Expression) (n : ℕ) → 17 * (expression_reach x).height ≤ n → Promises (Low n) (typed at s x)
  typed_low s few at (e.Number value span) n h = needs_promises (Low n) (nat_lt value (2 ^ 31)) E04 span _ (λ low. (omega arith, tt))
  typed_low s few at (e.Character value span) n h = needs_promises (Low n) (nat_lt value (2 ^ 31)) E04 span _ (λ low. (omega arith, tt))
  typed_low s few at (e.Text bytes span) n h = any_text (Low n) s.structs (text_at s.strings span.from) (site_at at span) span (λ t. (omega arith, tt))
  typed_low s few at (e.Name name) n h = bounded_low n s (site_at at name.span) (passing (named s name.number) (λ x. Passes (name_typed s x (site_at at name.span)))) (passing_promises (λ (x : Named). Unit {0}) (Low n) (named s name.number) _ (anything_promised (named s name.number)) (λ x _. name_low n s x (site_at at name.span) (omega arith)))
  typed_low s few at (e.Call callee arguments span) n h =
      let parts = expressions_reach arguments in
      let higher = around_higher span.from parts in
      let m = 17 * parts.height + 1 in
      let room : m + 16 ≤ n = omega arith in
      passing_promises (AllLow m) (Low n) (all_typed at s arguments) _ (all_low s few at arguments m (omega arith))
      (λ ts low. passing_promises (LowCall (m + 16)) (Low n) (called s (function_named s.functions callee.number) callee.number ts (site_at at span) span) _
      (called_low s few m (function_named s.functions callee.number) callee.number ts (site_at at span) span refl (omega arith) low)
      (λ c h'. promised_so (Low (m + 16)) (Low n) (with_result c span) (with_result_low (m + 16) c span h') (λ t. low_more (m + 16) n t room)))
  typed_low s few at (e.SizeOf type span) n h =
      let higher = around_higher span.from (type_reach type.base) in
      passing_promises (λ (t : CType). Unit {0}) (Low n) (type_named s type) _ (anything_promised (type_named s type)) (λ t _. (omega arith, tt))
  typed_low s few at (e.Cast word type operand span) n h =
      let higher = around_higher span.from (type_reach type.base beside expression_reach operand) in
      let deep = beside_second (type_reach type.base) (expression_reach operand) in
      passing_any (Low n) (type_named s type) _ (λ t. passing_promises (Low n) (Low n) (typed at s operand) _ (typed_low s few at operand n (omega arith))
      (λ a low. cast_low n word s t a None (site_at at span) span (omega arith) low))
  typed_low s few at (e.BoundedCast word type operand bounds span) n h =
      let parts = type_reach type.base beside expression_reach operand in
      let higher = around_higher span.from (parts beside bounds_reach bounds) in
      let deep = beside_second (type_reach type.base) (expression_reach operand) in
      let wide = beside_first parts (bounds_reach bounds) in
      passing_any (Low n) (type_named s type) _ (λ t. passing_promises (Low n) (Low n) (typed at s operand) _ (typed_low s few at operand n (omega arith))
      (λ a low. passing_any (Low n) (cast_bounds s t bounds) _ (λ written. cast_low n word s t a written (site_at at span) span (omega arith) low)))
  typed_low s few at (e.Malloc word type size span) n h =
      let higher = around_higher span.from (type_reach type.base beside expression_reach size) in
      let deep = beside_second (type_reach type.base) (expression_reach size) in
      passing_any (Low n) (type_named s type) _ (λ t. passing_promises (Low n) (Low n) (typed at s size) _ (typed_low s few at size n (omega arith))
      (λ a low. malloc_low n word s t size a (site_at at span) span (omega arith) low))
  typed_low s few at (e.Calloc word type count size span) n h =
      let parts = type_reach type.base beside expression_reach count in
      let higher = around_higher span.from (parts beside expression_reach size) in
      let deep = beside_second (type_reach type.base) (expression_reach count) in
      let wide = beside_first parts (expression_reach size) in
      passing_any (Low n) (type_named s type) _ (λ t. passing_promises (Low n) (Low n) (typed at s count) _ (typed_low s few at count n (omega arith))
      (λ a low. passing_any (Low n) (typed at s size) _ (λ b. calloc_low n word s t a size (site_at at span) span low)))
  typed_low s few at (e.Index base index span) n h =
      let first = expression_reach base in
      let second = expression_reach index in
      let higher = around_higher span.from (first beside second) in
      let one = beside_first first second in
      let two = beside_second first second in
      let m = 17 * (first beside second).height + 6 in
      let room : m + 1 ≤ n = omega arith in
      in_cell_low n s (site_at at span) (passing (typed at s base) (λ a. passing (typed at s index) (λ b. indexed a b (site_at at span) span)))
      (passing_promises (Low m) (Low n) (typed at s base) _ (typed_low s few at base m (omega arith))
      (λ a ha. passing_promises (Low m) (Low n) (typed at s index) _ (typed_low s few at index m (omega arith))
      (λ b hb. promised_so (Low (m + 1)) (Low n) (indexed a b (site_at at span) span) (indexed_low m a b (site_at at span) span (omega arith) ha hb) (λ t. low_more (m + 1) n t room))))
  typed_low s few at (e.Dot base member span) n h =
      let higher = around_higher span.from (expression_reach base) in
      in_cell_low n s (site_at at span) (passing (typed at s base) (λ a. dotted s a member.number (site_at at span) span)) (passing_promises (Low n) (Low n) (typed at s base) _ (typed_low s few at base n (omega arith)) (λ a low. dotted_low n s a member.number (site_at at span) span (omega arith) low))
  typed_low s few at (e.Arrow base member span) n h =
      let higher = around_higher span.from (expression_reach base) in
      in_cell_low n s (site_at at span) (passing (typed at s base) (λ a. arrowed s a member.number (site_at at span) span)) (passing_promises (Low n) (Low n) (typed at s base) _ (typed_low s few at base n (omega arith)) (λ a low. arrowed_low n s a member.number (site_at at span) span (omega arith) low))
  typed_low s few at (e.Unary operator operand span) n h =
      let higher = around_higher span.from (expression_reach operand) in
      in_cell_low n s (site_at at span) (passing (typed at s operand) (λ a. unary_typed operator a (site_at at span) span)) (passing_promises (Low n) (Low n) (typed at s operand) _ (typed_low s few at operand n (omega arith)) (λ a low. unary_low n operator a (site_at at span) span (omega arith) low))
  typed_low s few at (e.Binary operator left right span) n h =
      let first = expression_reach left in
      let second = expression_reach right in
      let higher = around_higher span.from (first beside second) in
      let one = beside_first first second in
      let two = beside_second first second in
      let m = 17 * (first beside second).height + 6 in
      let room : m + 1 ≤ n = omega arith in
      passing_promises (Low m) (Low n) (typed at s left) _ (typed_low s few at left m (omega arith))
      (λ a ha. passing_promises (Low m) (Low n) (typed at (right_scope operator a s) right) _ (typed_low (right_scope operator a s) (in_right (λ s. AllByRecursion HasFew s.functions) operator a s (λ f. few)) at right m (omega arith))
      (λ b hb. promised_so (Low (m + 1)) (Low n) (binary_typed s operator a b (site_at at span) span) (binary_low m s operator a b (site_at at span) span (omega arith) ha hb) (λ t. low_more (m + 1) n t room)))

  all_low : (s : Scope) (few : AllByRecursion HasFew s.functions) (at : Places) (xs : Expressions) (n : ℕ) → 17 * (expressions_reach xs).height ≤ n → Promises (AllLow n) (all_typed at s xs)
  all_low s few at e.NoMore n h = tt
  all_low s few at (e.Then first others) n h =
      let one = beside_first (expression_reach first) (expressions_reach others) in
      let two = beside_second (expression_reach first) (expressions_reach others) in
      passing_promises (Low n) (AllLow n) (typed at s first) _ (typed_low s few at first n (omega arith))
      (λ t low. passing_promises (AllLow n) (AllLow n) (all_typed at s others) _ (all_low s few at others n (omega arith)) (λ ts lows. (low, lows)))

pub call_typed_low : (s : Scope) (few : AllByRecursion HasFew s.functions) (at : Places) (x : Expression) (n : ℕ) → 17 * (expression_reach x).height ≤ n → Promises (LowCall n) (call_typed at s x)
call_typed_low s few at (e.Call callee arguments span) n h =
    let parts = expressions_reach arguments in
    let higher = around_higher span.from parts in
    let m = 17 * parts.height + 1 in
    let room : m + 16 ≤ n = omega arith in
    passing_promises (AllLow m) (LowCall n) (all_typed at s arguments) _ (all_low s few at arguments m (omega arith))
    (λ ts low. promised_so (LowCall (m + 16)) (LowCall n) (called s (function_named s.functions callee.number) callee.number ts (site_at at span) span)
    (called_low s few m (function_named s.functions callee.number) callee.number ts (site_at at span) span refl (omega arith) low) (λ c. call_more (m + 16) n c room))
call_typed_low s few at (e.Number value span) n h = tt
call_typed_low s few at (e.Character value span) n h = tt
call_typed_low s few at (e.Text bytes span) n h = tt
call_typed_low s few at (e.Name name) n h = tt
call_typed_low s few at (e.SizeOf type span) n h = tt
call_typed_low s few at (e.Cast word type operand span) n h = tt
call_typed_low s few at (e.BoundedCast word type operand bounds span) n h = tt
call_typed_low s few at (e.Malloc word type size span) n h = tt
call_typed_low s few at (e.Calloc word type count size span) n h = tt
call_typed_low s few at (e.Index base index span) n h = tt
call_typed_low s few at (e.Dot base member span) n h = tt
call_typed_low s few at (e.Arrow base member span) n h = tt
call_typed_low s few at (e.Unary operator operand span) n h = tt
call_typed_low s few at (e.Binary operator left right span) n h = tt
