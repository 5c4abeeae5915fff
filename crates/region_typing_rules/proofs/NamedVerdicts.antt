-- Verdicts that aren't that a name stands for nothing: rules that speak of no name give no other ones.
use Rattle.std.proofs.Common.{◌≡◌, ℕ, Bool, true, false, List, [], ◌∷◌, length, Option, Some, None, refl, pos}
use Rattle.std.specs.Prelude.{◌==◌, ◌&&◌, ◌||◌, not, is_some, nat_lt, nat_le}
use Rattle.ckc_text.specs.declared.place.Span.{Span}
use Rattle.ckc_text.specs.declared.code.Code.{Code}
use Rattle.ckc_text.specs.declared.code.Code.TheVariants.{E08, E13, E14, E17, E18, E19, E24, E26}
use Rattle.ckc_tree.specs.declared.expr.UnaryOperator.{UnaryOperator}
use Rattle.ckc_tree.specs.declared.expr.UnaryOperator.TheVariants as unary
use Rattle.ckc_tree.specs.declared.expr.BinaryOperator.{BinaryOperator}
use Rattle.ckc_tree.specs.declared.expr.BinaryOperator.TheVariants as binary
use Rattle.ckc_tree.specs.declared.expr.CastWord.{CastWord}
use Rattle.ckc_tree.specs.declared.expr.CastWord.TheVariants as cast_words
use Rattle.ckc_tree.specs.declared.expr.MallocWord.{MallocWord}
use Rattle.ckc_tree.specs.declared.expr.MallocWord.TheVariants as malloc_words
use Rattle.ckc_tree.specs.declared.expr.CallocWord.{CallocWord}
use Rattle.ckc_tree.specs.declared.expr.CallocWord.TheVariants as calloc_words
use Rattle.ckc_tree.specs.Expressions.{Expression}
use Rattle.ckc_tree.specs.declared.stmt.StoreOperator.{StoreOperator}
use Rattle.ckc_tree.specs.declared.stmt.StoreOperator.TheVariants as stores
use Rattle.pointer_modes.specs.declared.ctype.Kind.TheVariants as kinds
use Rattle.bounds_exprs.specs.declared.term.Bounds.{Bounds}
use Rattle.bounds_exprs.specs.declared.term.Term.{Term}
use Rattle.bounds_flow.specs.Flows.{Knowledge}
use Rattle.pointer_modes.specs.Types.{CType, Int, Char, Struct, Pointer, members_of, Structure}
use Rattle.pointer_modes.specs.Layout.{size_of}
use Rattle.ckc_core.specs.declared.program.Site.{Site}
use Rattle.ckc_core.specs.declared.program.Terminator.{Terminator}
use Rattle.ckc_core.specs.declared.program.Terminator.TheVariants as terminators
use Rattle.bounds_exprs.specs.Normal.{constant}
use Rattle.act_words.specs.declared.operator.ArithmeticOperator.TheVariants as arithmetics
use Rattle.act_words.specs.declared.operator.BitwiseOperator.TheVariants as bits
use Rattle.act_words.specs.declared.operator.Operator.TheVariants as operators
use Rattle.act_words.specs.declared.operator.Comparison.{Comparison}
use Rattle.act_words.specs.declared.operator.Comparison.TheVariants as comparisons
use Rattle.ckc_core.specs.declared.program.Direction.{Direction}
use Rattle.ckc_core.specs.declared.program.Direction.TheVariants as directions
use Rattle.ckc_core.specs.Core as core
use Rattle.ckc_core.specs.Meaning.{bounds_of}
use Rattle.region_typing_rules.specs.Verdicts.{Verdict, Passes, Stops, Broken, Nameless, passing, needs}
use Rattle.region_typing_rules.specs.Scopes.{Scope, Signature, WrittenBounds, bounds_in, members_named}
use Rattle.region_typing_rules.specs.Types.{is_number, is_pointer, are_comparable, converts}
use Rattle.region_typing_rules.specs.Strings.{FoundText}
use Rattle.region_typing_rules.specs.Operands.{Places, text_typed, site_at, Lvalue, OfLocal, OfCell, OfBounded, OfUnknown, Standing, ForNothing, ForArray, For, Typed, Value, AStruct, Called, Gives, GivesNothing, plain, number, sum_node, at_place, member_from, member_at, dotted, struct_place, first_element, first_or_end, with_elements, pointed_by, arrowed, pointed_at, dereferenced, address_at, address, number_of, scalar_of, unary_typed, is_single_value, lacks_bounds, without_ptr, two_numbers, two_scalars, operator_along, summed, sum_typed, equated_values, equated, are_related, ordered_values, ordered, arithmetic, binary_typed, element_at, indexed, in_type, asked_of, meets, bounds_met, converted}
use Rattle.region_typing_rules.specs.Calls.{arguments_as, terms_for, pointers_for, argument_meets, arguments_met, is_import, is_checked_argument, without_checked, crossing, declared_call, writes, is_text, length_typed, text_pointer, measures, with_result}
use Rattle.region_typing_rules.specs.NewMemory.{is_size, elements_in, allocation, ended_allocation, allocation_if, malloc_typed, calloc_typed, casts_to, takes, has_base, base_in, cast_typed}
use Rattle.region_typing_rules.specs.DeclaredBounds.{unwritten_bounds}
use Rattle.region_typing_rules.specs.Readings.{term}
use Rattle.region_typing_rules.specs.Statements.{array_memory, before_end, assigned, update, declared_for, moved, updated_as, updated, stored, meets_declared, returned, returned_nothing}

-- no name stands for nothing, and this is so of the value where no rule is broken
abbrev pub IsNamed : {A : Type 0} → (A → Type 0) → Verdict A → Type 0
IsNamed P (Passes value) = P value
IsNamed P (Stops (Broken fault)) = Unit {0}
IsNamed P (Stops Nameless) = ⊥

-- the same, where nothing is asked of the value
abbrev pub AllNamed : {A : Type 0} → Verdict A → Type 0
AllNamed {A = A} v = IsNamed (λ (x : A). Unit {0}) v

pub passing_named : {A B : Type 0} (P : A → Type 0) (Q : B → Type 0) (v : Verdict A) (next : A → Verdict B) → IsNamed P v → ((x : A) → P x → IsNamed Q (next x)) → IsNamed Q (passing v next)
passing_named P Q (Passes value) next h more = more value h
passing_named P Q (Stops (Broken fault)) next h more = tt
passing_named P Q (Stops Nameless) next h more = h

pub then_named : {A B : Type 0} (Q : B → Type 0) (v : Verdict A) (next : A → Verdict B) → AllNamed v → ((x : A) → IsNamed Q (next x)) → IsNamed Q (passing v next)
then_named {A = A} Q v next h more = passing_named (λ (x : A). Unit {0}) Q v next h (λ x _. more x)

pub needs_named : {A : Type 0} (Q : A → Type 0) (test : Bool) (code : Code) (span : Span) (next : Verdict A) → IsNamed Q next → IsNamed Q (needs test code span next)
needs_named Q true code span next h = h
needs_named Q false code span next h = tt

pub named_so : {A : Type 0} (P Q : A → Type 0) (v : Verdict A) → ((x : A) → P x → Q x) → IsNamed P v → IsNamed Q v
named_so P Q (Passes value) more h = more value h
named_so P Q (Stops (Broken fault)) more h = tt
named_so P Q (Stops Nameless) more h = h

-- what is asked of a value of which nothing is
abbrev pub Any : {A : Type 0} → A → Type 0
Any x = Unit {0}

-- ---- expressions

member_named : (s : Scope) (struct : ℕ) (place : core.Place) (name : ℕ) (site : Site) (span : Span) → AllNamed (member_at s struct place name site span)
member_named s struct place name site span = by (member_from 0 (members_named s struct) (members_of s.structs struct) name) refl
  where
    by : (o : Option (ℕ × CType)) → member_from 0 (members_named s struct) (members_of s.structs struct) name ≡ o → AllNamed (member_at s struct place name site span)
    by None e = rw e tt
    by (Some m) e = rw e tt

pub dotted_named : (s : Scope) (t : Typed) (name : ℕ) (site : Site) (span : Span) → AllNamed (dotted s t name site span)
dotted_named s (Value type zero value place) name site span = tt
dotted_named s (AStruct number place) name site span = member_named s number (struct_place place site) name site span

elements_named : {A : Type 0} (value : core.Expression) (span : Span) (next : Verdict A) → AllNamed next → AllNamed (with_elements value span next)
elements_named value span next h = needs_named Any (is_some (bounds_of value)) E18 span next h

pointed_by_named : (s : Scope) (t : CType) (value : core.Expression) (name : ℕ) (site : Site) (span : Span) → AllNamed (pointed_by s t value name site span)
pointed_by_named s Int value name site span = tt
pointed_by_named s Char value name site span = tt
pointed_by_named s (Struct number) value name site span = tt
pointed_by_named s (Pointer mode kinds.One Int) value name site span = tt
pointed_by_named s (Pointer mode kinds.One Char) value name site span = tt
pointed_by_named s (Pointer mode kinds.One (Struct number)) value name site span = member_named s number (core.Through value core.First 0 site) name site span
pointed_by_named s (Pointer mode kinds.One (Pointer mode' kind' target)) value name site span = tt
pointed_by_named s (Pointer mode kinds.Array Int) value name site span = tt
pointed_by_named s (Pointer mode kinds.Array Char) value name site span = tt
pointed_by_named s (Pointer mode kinds.Array (Struct number)) value name site span =
    then_named Any (member_at s number (first_element value site) name site span) _ (member_named s number (first_element value site) name site span) (λ t. elements_named value span (Passes t) tt)
pointed_by_named s (Pointer mode kinds.Array (Pointer mode' kind' target)) value name site span = tt
pointed_by_named s (Pointer mode kinds.Nt target) value name site span = tt

pub arrowed_named : (s : Scope) (t : Typed) (name : ℕ) (site : Site) (span : Span) → AllNamed (arrowed s t name site span)
arrowed_named s (Value type zero value place) name site span = pointed_by_named s type value name site span
arrowed_named s (AStruct number place) name site span = tt

pointed_at_named : (t : CType) (value : core.Expression) (site : Site) (span : Span) → AllNamed (pointed_at t value site span)
pointed_at_named Int value site span = tt
pointed_at_named Char value site span = tt
pointed_at_named (Struct number) value site span = tt
pointed_at_named (Pointer mode kinds.One target) value site span = tt
pointed_at_named (Pointer mode kinds.Array target) value site span = elements_named value span (Passes (at_place target (first_element value site))) tt
pointed_at_named (Pointer mode kinds.Nt target) value site span = elements_named value span (Passes (at_place target (first_or_end value site))) tt

dereferenced_named : (t : Typed) (site : Site) (span : Span) → AllNamed (dereferenced t site span)
dereferenced_named (Value type zero value place) site span = pointed_at_named type value site span
dereferenced_named (AStruct number place) site span = tt

address_at_named : (type : CType) (place : Standing) (site : Site) (span : Span) → AllNamed (address_at type place site span)
address_at_named type ForNothing site span = tt
address_at_named type ForArray site span = tt
address_at_named type (For (OfLocal local)) site span = tt
address_at_named type (For (OfCell place)) site span = tt
address_at_named type (For (OfBounded k b)) site span = tt
address_at_named type (For (OfUnknown k)) site span = tt

address_named : (t : Typed) (site : Site) (span : Span) → AllNamed (address t site span)
address_named (Value type zero value place) site span = address_at_named type place site span
address_named (AStruct number place) site span = address_at_named (Struct number) (For place) site span

number_named : {A : Type 0} (t : Typed) (span : Span) (next : core.Expression → Verdict A) → ((v : core.Expression) → AllNamed (next v)) → AllNamed (number_of t span next)
number_named (Value type zero value place) span next h = needs_named Any (is_number type) E13 span (next value) (h value)
number_named (AStruct number place) span next h = tt

pub scalar_named : {A : Type 0} (t : Typed) (span : Span) (next : core.Expression → Verdict A) → ((v : core.Expression) → AllNamed (next v)) → AllNamed (scalar_of t span next)
scalar_named (Value type zero value place) span next h = h value
scalar_named (AStruct number place) span next h = tt

pub unary_named : (operator : UnaryOperator) (t : Typed) (site : Site) (span : Span) → AllNamed (unary_typed operator t site span)
unary_named unary.Deref t site span = dereferenced_named t site span
unary_named unary.AddressOf t site span = address_named t site span
unary_named unary.Negate t site span = number_named t span _ (λ v. tt)
unary_named unary.Not t site span = scalar_named t span _ (λ v. tt)
unary_named unary.Complement t site span = number_named t span _ (λ v. tt)

numbers_named : {A : Type 0} (a b : Typed) (span : Span) (next : core.Expression → core.Expression → Verdict A) → ((v w : core.Expression) → AllNamed (next v w)) → AllNamed (two_numbers a b span next)
numbers_named a b span next h = number_named a span _ (λ v. number_named b span _ (λ w. h v w))

scalars_named : {A : Type 0} (a b : Typed) (span : Span) (next : core.Expression → core.Expression → Verdict A) → ((v w : core.Expression) → AllNamed (next v w)) → AllNamed (two_scalars a b span next)
scalars_named a b span next h = scalar_named a span _ (λ v. scalar_named b span _ (λ w. h v w))

apart_named : {A : Type 0} (a b : Typed) (span : Span) (next : Verdict A) → AllNamed next → AllNamed (without_ptr a b span next)
apart_named a b span next h =
    needs_named Any (not (is_single_value a || is_single_value b)) E19 span _ (needs_named Any (not (lacks_bounds a || lacks_bounds b)) E18 span next h)

summed_named : (s : Scope) (direction : Direction) (a b : Typed) (site : Site) (span : Span) → AllNamed (summed s direction a b site span)
summed_named s direction (Value (Pointer mode kind target) zero pointer place) b site span =
    number_named b span (λ w. plain (Pointer mode kind target) (core.Sum pointer direction w site (sum_node s.locals direction pointer w site))) (λ w. tt)
summed_named s direction (Value Int zero value place) b site span = numbers_named (Value Int zero value place) b span (λ v w. number (core.Arithmetic (operator_along direction) v w site)) (λ v w. tt)
summed_named s direction (Value Char zero value place) b site span = numbers_named (Value Char zero value place) b span (λ v w. number (core.Arithmetic (operator_along direction) v w site)) (λ v w. tt)
summed_named s direction (Value (Struct k) zero value place) b site span = tt
summed_named s direction (AStruct k place) b site span = tt

sum_named : (s : Scope) (direction : Direction) (a b : Typed) (site : Site) (span : Span) → AllNamed (sum_typed s direction a b site span)
sum_named s direction a b site span = apart_named a b span _ (summed_named s direction a b site span)

equated_values_named : (t : CType) (z : Bool) (v : core.Expression) (u : CType) (y : Bool) (w : core.Expression) (span : Span) → AllNamed (equated_values t z v u y w span)
equated_values_named t z v u y w span = by (is_number t && is_number u) (are_comparable t u) (is_pointer t && y) (is_pointer u && z) refl refl refl refl
  where
    by : (numbers same left right : Bool) → (is_number t && is_number u) ≡ numbers → are_comparable t u ≡ same → (is_pointer t && y) ≡ left → (is_pointer u && z) ≡ right → AllNamed (equated_values t z v u y w span)
    by true same left right e e1 e2 e3 = rw e tt
    by false true left right e e1 e2 e3 = rw (e, e1) tt
    by false false true right e e1 e2 e3 = rw (e, e1, e2) tt
    by false false false true e e1 e2 e3 = rw (e, e1, e2, e3) tt
    by false false false false e e1 e2 e3 = rw (e, e1, e2, e3) tt

equated_named : (a b : Typed) (span : Span) → AllNamed (equated a b span)
equated_named (Value t z v p) (Value u y w q) span = equated_values_named t z v u y w span
equated_named (Value t z v p) (AStruct n q) span = tt
equated_named (AStruct n p) b span = tt

ordered_values_named : (comparison : Comparison) (t : CType) (v : core.Expression) (u : CType) (w : core.Expression) (site : Site) (span : Span) → AllNamed (ordered_values comparison t v u w site span)
ordered_values_named comparison t v u w site span = by (is_number t && is_number u) (are_comparable t u) refl refl
  where
    by : (numbers same : Bool) → (is_number t && is_number u) ≡ numbers → are_comparable t u ≡ same → AllNamed (ordered_values comparison t v u w site span)
    by true same e e1 = rw e tt
    by false true e e1 = rw (e, e1) (needs_named Any (are_related t v u w) E26 span (number (core.Order comparison v w site)) tt)
    by false false e e1 = rw (e, e1) tt

ordered_named : (comparison : Comparison) (a b : Typed) (site : Site) (span : Span) → AllNamed (ordered comparison a b site span)
ordered_named comparison (Value t z v p) (Value u y w q) site span = ordered_values_named comparison t v u w site span
ordered_named comparison (Value t z v p) (AStruct n q) site span = tt
ordered_named comparison (AStruct n p) b site span = tt

pub binary_named : (s : Scope) (operator : BinaryOperator) (a b : Typed) (site : Site) (span : Span) → AllNamed (binary_typed s operator a b site span)
binary_named s binary.Or a b site span = scalars_named a b span _ (λ v w. tt)
binary_named s binary.And a b site span = scalars_named a b span _ (λ v w. tt)
binary_named s binary.BitOr a b site span = numbers_named a b span (arithmetic (operators.Bitwise bits.Or) site) (λ v w. tt)
binary_named s binary.BitXor a b site span = numbers_named a b span (arithmetic (operators.Bitwise bits.Xor) site) (λ v w. tt)
binary_named s binary.BitAnd a b site span = numbers_named a b span (arithmetic (operators.Bitwise bits.And) site) (λ v w. tt)
binary_named s binary.Equal a b site span = then_named Any (equated a b span) number (equated_named a b span) (λ v. tt)
binary_named s binary.NotEqual a b site span = then_named Any (equated a b span) _ (equated_named a b span) (λ v. tt)
binary_named s binary.Less a b site span = ordered_named comparisons.Less a b site span
binary_named s binary.LessEqual a b site span = ordered_named comparisons.LessEqual a b site span
binary_named s binary.Greater a b site span = ordered_named comparisons.Greater a b site span
binary_named s binary.GreaterEqual a b site span = ordered_named comparisons.GreaterEqual a b site span
binary_named s binary.ShiftLeft a b site span = numbers_named a b span (arithmetic (operators.Arithmetic arithmetics.ShiftLeft) site) (λ v w. tt)
binary_named s binary.ShiftRight a b site span = numbers_named a b span (arithmetic (operators.Arithmetic arithmetics.ShiftRight) site) (λ v w. tt)
binary_named s binary.Add a b site span = sum_named s directions.Forward a b site span
binary_named s binary.Subtract a b site span = sum_named s directions.Backward a b site span
binary_named s binary.Multiply a b site span = numbers_named a b span (arithmetic (operators.Arithmetic arithmetics.Multiply) site) (λ v w. tt)
binary_named s binary.Divide a b site span = numbers_named a b span (arithmetic (operators.Arithmetic arithmetics.Divide) site) (λ v w. tt)
binary_named s binary.Remainder a b site span = numbers_named a b span (arithmetic (operators.Arithmetic arithmetics.Remainder) site) (λ v w. tt)

element_named : (t : CType) (pointer number : core.Expression) (site : Site) (span : Span) → AllNamed (element_at t pointer number site span)
element_named Int pointer number site span = tt
element_named Char pointer number site span = tt
element_named (Struct k) pointer number site span = tt
element_named (Pointer mode kinds.One target) pointer number site span = tt
element_named (Pointer mode kinds.Array target) pointer number site span = elements_named pointer span _ tt
element_named (Pointer mode kinds.Nt target) pointer number site span = elements_named pointer span _ tt

pub indexed_named : (a b : Typed) (site : Site) (span : Span) → AllNamed (indexed a b site span)
indexed_named (Value t z v p) (Value u y w q) site span = needs_named Any (is_pointer t && is_number u) E13 span _ (element_named t v w site span)
indexed_named (Value t z v p) (AStruct n q) site span = tt
indexed_named (AStruct n p) b site span = tt

pub met_named : {A : Type 0} (f : Knowledge) (t : Typed) (to : CType) (span : Span) (next : Verdict A) → AllNamed next → AllNamed (bounds_met f t to span next)
met_named f (Value type zero value place) to span next h = needs_named Any (zero || meets f value (asked_of type to)) E17 span next h
met_named f (AStruct number place) to span next h = h

pub converted_so : {A : Type 0} (Q : A → Type 0) (t : Typed) (to : CType) (span : Span) (next : core.Expression → Verdict A) → ((v : core.Expression) → IsNamed Q (next v)) → IsNamed Q (converted t to span next)
converted_so Q (Value type zero value place) to span next h = needs_named Q (converts type zero to) E13 span _ (h (in_type to (zero && is_number type) value))
converted_so Q (AStruct number place) to span next h = tt

pub converted_named : {A : Type 0} (t : Typed) (to : CType) (span : Span) (next : core.Expression → Verdict A) → ((v : core.Expression) → AllNamed (next v)) → AllNamed (converted t to span next)
converted_named t to span next h = converted_so Any t to span next h

-- ---- calls

arguments_named : (ts : List (Typed × Span)) (types : List CType) → AllNamed (arguments_as ts types)
arguments_named [] types = tt
arguments_named (t ∷ ts) [] = tt
arguments_named (t ∷ ts) (type ∷ types) = converted_named t.0 type t.1 _ (λ v. then_named Any (arguments_as ts types) _ (arguments_named ts types) (λ others. tt))

unchecked_named : {A : Type 0} (ts : List (Typed × Span)) (next : Verdict A) → AllNamed next → AllNamed (without_checked ts next)
unchecked_named [] next h = h
unchecked_named (t ∷ ts) next h = needs_named Any (not (is_checked_argument t.0)) E24 t.1 _ (unchecked_named ts next h)

crossing_named : {A : Type 0} (tainted : Bool) (ts : List (Typed × Span)) (next : Verdict A) → AllNamed next → AllNamed (crossing tainted ts next)
crossing_named true ts next h = unchecked_named ts next h
crossing_named false ts next h = h

all_met_named : {A : Type 0} (f : Knowledge) (terms : List (Option Term)) (pointers : List (Option ℕ)) (ts : List (Typed × Span)) (types : List CType) (bounds : List WrittenBounds) (next : Verdict A) → AllNamed next
    → AllNamed (arguments_met f terms pointers ts types bounds next)
all_met_named f terms pointers [] types bounds next h = h
all_met_named f terms pointers (t ∷ ts) [] bounds next h = h
all_met_named f terms pointers (t ∷ ts) (type ∷ types) [] next h =
    needs_named Any (argument_meets f terms pointers t.0 type None) E17 t.1 _ (all_met_named f terms pointers ts types [] next h)
all_met_named f terms pointers (t ∷ ts) (type ∷ types) (b ∷ bounds) next h =
    needs_named Any (argument_meets f terms pointers t.0 type (bounds_in b)) E17 t.1 _ (all_met_named f terms pointers ts types bounds next h)

pub declared_named : (s : Scope) (f : Signature) (ts : List (Typed × Span)) (site : Site) (span : Span) → AllNamed (declared_call s f ts site span)
declared_named s f ts site span =
    needs_named Any (length f.parameters == length ts) E14 span _ (crossing_named (is_import f) ts _ (then_named Any (arguments_as ts f.parameters) _ (arguments_named ts f.parameters) (λ values.
    all_met_named s.flow (terms_for s.locals ts f.parameters) (pointers_for s.locals ts) ts f.parameters f.bounds _ tt)))

pub writes_named : (of : core.Expression → core.Statement) (ts : List (Typed × Span)) (span : Span) → AllNamed (writes of ts span)
writes_named of ts span = needs_named Any (length ts == 1) E14 span _ (then_named Any (arguments_as ts (Int ∷ [])) _ (arguments_named ts (Int ∷ [])) (λ values. tt))

length_named : (t : Typed) (site : Site) (span : Span) → AllNamed (length_typed t site span)
length_named (Value type zero value place) site span = needs_named Any (is_text type && is_some (bounds_of value)) E13 span _ tt
length_named (AStruct number place) site span = tt

pub measures_named : (ts : List (Typed × Span)) (site : Site) (span : Span) → AllNamed (measures ts site span)
measures_named [] site span = tt
measures_named (t ∷ ts) site span = needs_named Any (length (t ∷ ts) == 1) E14 span _ (converted_named t.0 text_pointer t.1 _ (λ v. length_named t.0 site span))

pub result_named : (c : Called) (span : Span) → AllNamed (with_result c span)
result_named (Gives type value) span = tt
result_named (GivesNothing call) span = tt

-- ---- strings

pub text_named : (structs : List Structure) (o : Option FoundText) (site : Site) (span : Span) → AllNamed (text_typed structs o site span)
text_named structs None site span = tt
text_named structs (Some t) site span = needs_named Any (nat_le t.taken 32768) E08 span _ tt

-- ---- allocation and casts

allocation_named : (s : Scope) (t : CType) (count : core.Expression) (site : Site) (span : Span) → AllNamed (allocation s t count site span)
allocation_named s t count site span = needs_named Any (nat_lt 0 (size_of s.structs t)) E13 span _ tt

ended_named : (s : Scope) (t : CType) (count : core.Expression) (terminator : Terminator) (before : Option Term) (site : Site) (span : Span) → AllNamed (ended_allocation s t count terminator before site span)
ended_named s t count terminator before site span = needs_named Any (is_number t) E13 span _ tt

pub memory_named : (g : Scope) (ended : Bool) (t : CType) (count : ℕ) (site : Site) (span : Span) → AllNamed (array_memory g ended t count site span)
memory_named g false t count site span = allocation_named g t (core.Number (pos count)) site span
memory_named g true t count site span = ended_named g t (core.Number (pos count)) terminators.Last (Some (constant (pos (before_end true count)))) site span

allocation_if_named : (s : Scope) (t : CType) (o : Option core.Expression) (site : Site) (span : Span) → AllNamed (allocation_if s t o site span)
allocation_if_named s t None site span = tt
allocation_if_named s t (Some count) site span = allocation_named s t count site span

pub malloc_named : (word : MallocWord) (s : Scope) (t : CType) (size : Expression) (a : Typed) (site : Site) (span : Span) → AllNamed (malloc_typed word s t size a site span)
malloc_named malloc_words.Malloc s t size a site span = number_named a span _ (λ v. allocation_if_named s t (elements_in s t size v) site span)
malloc_named malloc_words.TMalloc s t size a site span = tt

pub calloc_named : (word : CallocWord) (s : Scope) (t : CType) (a : Typed) (size : Expression) (site : Site) (span : Span) → AllNamed (calloc_typed word s t a size site span)
calloc_named calloc_words.Calloc s t a size site span = number_named a span _ (λ v. needs_named Any (is_size s t size) E13 span _ (allocation_named s t v site span))
calloc_named calloc_words.NtCalloc s t a size site span = number_named a span _ (λ v. needs_named Any (is_size s t size) E13 span _ (ended_named s t v terminators.Behind (term s.locals v) site span))

pub cast_named : (word : CastWord) (s : Scope) (to : CType) (a : Typed) (written : WrittenBounds) (site : Site) (span : Span) → AllNamed (cast_typed word s to a written site span)
cast_named cast_words.Dynamic s to (Value type zero value place) written site span =
    needs_named Any (casts_to s.structs type to && takes to written) E13 span _ (needs_named Any (is_some (bounds_of value) && has_base (base_in (bounds_in written)) value) E18 span _ tt)
cast_named cast_words.Dynamic s to (AStruct number place) written site span = tt
cast_named cast_words.Assume s to a written site span = tt

-- ---- statements

assigned_named : (t : Typed) (span : Span) (next : CType → Lvalue → Verdict core.Statement) → ((type : CType) (place : Lvalue) → AllNamed (next type place)) → AllNamed (assigned t span next)
assigned_named (Value type zero value ForNothing) span next h = tt
assigned_named (Value type zero value ForArray) span next h = tt
assigned_named (Value type zero value (For place)) span next h = h type place
assigned_named (AStruct number place) span next h = tt

moved_named : (f : Knowledge) (place : Lvalue) (type : CType) (sum : core.Expression) (span : Span) → AllNamed (moved f place type sum span)
moved_named f (OfLocal local) type sum span = tt
moved_named f (OfCell place) type sum span = needs_named Any (meets f sum (unwritten_bounds type)) E17 span _ tt
moved_named f (OfBounded k b) type sum span = needs_named Any (meets f sum (Some b)) E17 span _ tt
moved_named f (OfUnknown k) type sum span = tt

updated_as_named : (g : Scope) (direction : Direction) (type : CType) (place : Lvalue) (target right : Typed) (site : Site) (span : Span) → AllNamed (updated_as g direction type place target right site span)
updated_as_named g direction (Pointer mode kind to) place (Value type zero pointer old) right site span =
    number_named right span (λ v. moved g.flow place (Pointer mode kind to) (core.Sum pointer direction v site (sum_node g.locals direction pointer v site)) span)
    (λ v. moved_named g.flow place (Pointer mode kind to) (core.Sum pointer direction v site (sum_node g.locals direction pointer v site)) span)
updated_as_named g direction (Pointer mode kind to) place (AStruct k old) right site span = tt
updated_as_named g direction Int place target right site span = numbers_named target right span (λ old v. Passes (update place Int (operator_along direction) v site)) (λ old v. tt)
updated_as_named g direction Char place target right site span = numbers_named target right span (λ old v. Passes (update place Char (operator_along direction) v site)) (λ old v. tt)
updated_as_named g direction (Struct k) place target right site span = numbers_named target right span (λ old v. Passes (update place (Struct k) (operator_along direction) v site)) (λ old v. tt)

pub updated_named : (at : Places) (g : Scope) (direction : Direction) (target right : Typed) (span : Span) → AllNamed (updated at g direction target right span)
updated_named at g direction target right span =
    assigned_named target span _ (λ type place. apart_named target right span _ (updated_as_named g direction type place target right (site_at at span) span))

pub stored_named : (at : Places) (g : Scope) (operator : StoreOperator) (target right : Typed) (span : Span) → AllNamed (stored at g operator target right span)
stored_named at g stores.Set target right span = assigned_named target span _ (λ type place. converted_named right type span _ (λ value. needs_named Any (meets_declared g.flow (declared_for place type) right type) E17 span _ tt))
stored_named at g stores.Add target right span = updated_named at g directions.Forward target right span
stored_named at g stores.Subtract target right span = updated_named at g directions.Backward target right span

pub returned_named : (f : Knowledge) (result : Option CType) (bounds : Option Bounds) (t : Typed) (span : Span) → AllNamed (returned f result bounds t span)
returned_named f None bounds t span = tt
returned_named f (Some type) bounds t span = converted_named t type span _ (λ v. needs_named Any (meets_declared f bounds t type) E17 span _ tt)

pub nothing_named : (result : Option CType) (span : Span) → AllNamed (returned_nothing result span)
nothing_named None span = tt
nothing_named (Some type) span = tt
