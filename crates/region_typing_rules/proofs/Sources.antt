-- What expressions of the walk are, and which locals assignments are to.
use Rattle.std.proofs.Common.{◌≡◌, ℕ, suc, ◌^◌, Bool, true, false, List, [], ◌∷◌, length, Option, Some, None, refl}
use Rattle.std.specs.Prelude.{◌==◌, nat_lt, ◌&&◌, slice_get, is_some}
use Rattle.ckc_text.specs.declared.place.Span.{Span}
use Rattle.ckc_text.specs.declared.code.Code.TheVariants.{E04, E13, E14, E26}
use Rattle.ckc_tree.specs.declared.expr.CastWord.{CastWord}
use Rattle.ckc_tree.specs.declared.expr.UnaryOperator.{UnaryOperator}
use Rattle.ckc_tree.specs.declared.expr.UnaryOperator.TheVariants as unary
use Rattle.ckc_tree.specs.declared.expr.BinaryOperator.{BinaryOperator}
use Rattle.ckc_tree.specs.declared.expr.BinaryOperator.TheVariants as binary
use Rattle.ckc_tree.specs.declared.identifier.Identifier.{Identifier}
use Rattle.ckc_tree.specs.Expressions as e
use Rattle.ckc_tree.specs.Expressions.{Expression}
use Rattle.pointer_modes.specs.declared.ctype.Kind.TheVariants as kinds
use Rattle.bounds_exprs.specs.declared.term.Bounds.{Bounds}
use Rattle.pointer_modes.specs.Types.{CType, Int, Char, Struct, Pointer, Structure, members_of}
use Rattle.pointer_modes.specs.Layout.{cells_of}
use Rattle.ckc_core.specs.declared.program.Site.{Site}
use Rattle.act_words.specs.declared.operator.Operator.{Operator}
use Rattle.act_words.specs.declared.operator.ArithmeticOperator.TheVariants as arithmetics
use Rattle.act_words.specs.declared.operator.BitwiseOperator.TheVariants as bits
use Rattle.act_words.specs.declared.operator.Operator.TheVariants as operators
use Rattle.act_words.specs.declared.operator.Comparison.{Comparison}
use Rattle.act_words.specs.declared.operator.Comparison.TheVariants as comparisons
use Rattle.ckc_core.specs.declared.program.Callee.{Callee}
use Rattle.ckc_core.specs.declared.program.Direction.{Direction}
use Rattle.ckc_core.specs.declared.program.Direction.TheVariants as directions
use Rattle.ckc_core.specs.Core as core
use Rattle.ckc_core.specs.Meaning.{bounds_of}
use Rattle.ckc_names_rules.specs.declared.given.Given.{Given}
use Rattle.region_typing_rules.specs.Verdicts.{Verdict, Passes, passing, meant}
use Rattle.region_typing_rules.specs.Scopes.{Scope, Signature, WrittenBounds, FileVariable, Visible, Named, Local, Object, Array, Nothing, local_if, found_if, local_named, object_of, object_named, or_else, null_named, named, function_named, members_named}
use Rattle.region_typing_rules.specs.Types.{type_named, is_number, is_pointer, are_comparable}
use Rattle.region_typing_rules.specs.Operands.{Places, OfLocal, OfCell, OfBounded, OfUnknown, Standing, ForNothing, ForArray, For, Typed, Value, AStruct, Called, Gives, GivesNothing, site_at, with_bounds, with_cell_bounds, in_cell, number, at_place, local_typed, name_typed, object_typed, is_array, local_standing}
use Rattle.region_typing_rules.specs.Operands.{struct_place, member_place, member_from, offset_among, member_at, dotted, with_elements, first_element, first_or_end, pointed_by, arrowed, pointed_at, dereferenced, address, number_of, scalar_of, unary_typed, two_numbers, two_scalars, operator_along, summed, sum_typed}
use Rattle.region_typing_rules.specs.Operands.{equated, zero_test, are_related, ordered_values, ordered, arithmetic, binary_typed, beside, element_at, indexed}
use Rattle.region_typing_rules.specs.Calls.{arguments_as, is_import, call_of, declared_callee, first_of, writes, is_text, length_typed, text_pointer, measures, predefined_call, called, with_result}
use Rattle.region_typing_rules.specs.NewMemory.{cast_typed, cast_bounds}
use Rattle.region_typing_rules.specs.Expressions.{constant_typed, typed, all_typed, call_typed}
use Rattle.region_typing_rules.specs.Knowing.{local_number}
use Rattle.region_typing_rules.proofs.Knowledge.{crossing_promises}
use Rattle.region_typing_rules.proofs.Verdicts.{Promises, passing_promises, needs_promises, convertible_promises, promised_so, elements_promise, apart_promises, all_met_promise}
use Rattle.region_typing_rules.proofs.Kept.{passing_any}
use Rattle.region_typing_rules.proofs.Memory.{of_any, malloc_promises, calloc_promises, cast_promises}
use Rattle.region_typing_rules.proofs.Assigns.{IsPlain}
use Rattle.region_typing_rules.proofs.TextBlocks.{any_text}
use Rattle.region_typing_rules.specs.Strings.{text_at}

-- ---- expressions that are no locals

abbrev IsNoLocal : Standing → Type 0
IsNoLocal ForNothing = Unit {0}
IsNoLocal ForArray = Unit {0}
IsNoLocal (For (OfLocal k)) = ⊥
IsNoLocal (For (OfCell p)) = Unit {0}
IsNoLocal (For (OfBounded k b)) = Unit {0}
IsNoLocal (For (OfUnknown k)) = Unit {0}

abbrev IsFresh : Typed → Type 0
IsFresh (Value type zero value place) = IsNoLocal place
IsFresh (AStruct number place) = Unit {0}

-- of a call that has a value nothing is left to show
abbrev pub IsFreshCall : Called → Type 0
IsFreshCall (Gives type value) = Unit {0}
IsFreshCall (GivesNothing call) = IsPlain [] call

with_cell_bounds_fresh : (structs : List Structure) (site : Site) (t : Typed) → IsFresh t → IsFresh (with_cell_bounds structs site t)
with_cell_bounds_fresh structs site (Value type zero value place) h = h
with_cell_bounds_fresh structs site (AStruct number place) h = tt

in_cell_fresh : (s : Scope) (site : Site) (v : Verdict Typed) → Promises IsFresh v → Promises IsFresh (in_cell s site v)
in_cell_fresh s site v h = passing_promises IsFresh IsFresh v _ h (with_cell_bounds_fresh s.structs site)

at_place_fresh : (t : CType) (p : core.Place) → IsFresh (at_place t p)
at_place_fresh Int p = tt
at_place_fresh Char p = tt
at_place_fresh (Struct number) p = tt
at_place_fresh (Pointer m k t) p = tt

object_fresh : (structs : List Structure) (k : ℕ) (t : CType) (bounds : WrittenBounds) (site : Site) → IsFresh (object_typed structs k t bounds site)
object_fresh structs k t None site = with_cell_bounds_fresh structs site (at_place t (core.Direct k 0)) (at_place_fresh t (core.Direct k 0))
object_fresh structs k Int (Some None) site = tt
object_fresh structs k Char (Some None) site = tt
object_fresh structs k (Struct number) (Some None) site = tt
object_fresh structs k (Pointer m kinds.One t) (Some None) site = tt
object_fresh structs k (Pointer m kinds.Array t) (Some None) site = tt
object_fresh structs k (Pointer m kinds.Nt t) (Some None) site = tt
object_fresh structs k Int (Some (Some b)) site = tt
object_fresh structs k Char (Some (Some b)) site = tt
object_fresh structs k (Struct number) (Some (Some b)) site = tt
object_fresh structs k (Pointer m d t) (Some (Some b)) site = tt

address_fresh : (a : Typed) (site : Site) (span : Span) → Promises IsFresh (address a site span)
address_fresh (Value type zero value ForNothing) site span = tt
address_fresh (Value type zero value ForArray) site span = tt
address_fresh (Value type zero value (For (OfLocal k))) site span = tt
address_fresh (Value type zero value (For (OfCell p))) site span = tt
address_fresh (Value type zero value (For (OfBounded k b))) site span = tt
address_fresh (Value type zero value (For (OfUnknown k))) site span = tt
address_fresh (AStruct number (OfLocal k)) site span = tt
address_fresh (AStruct number (OfCell p)) site span = tt
address_fresh (AStruct number (OfBounded k b)) site span = tt
address_fresh (AStruct number (OfUnknown k)) site span = tt

elements_fresh : (t : CType) (p : core.Place) (value : core.Expression) (span : Span) → Promises IsFresh (with_elements value span (Passes (at_place t p)))
elements_fresh t p value span = elements_promise IsFresh value span (Passes (at_place t p)) (at_place_fresh t p)

pointed_fresh : (t : CType) (value : core.Expression) (site : Site) (span : Span) → Promises IsFresh (pointed_at t value site span)
pointed_fresh Int value site span = tt
pointed_fresh Char value site span = tt
pointed_fresh (Struct number) value site span = tt
pointed_fresh (Pointer m kinds.One t) value site span = at_place_fresh t (core.Through value core.First 0 site)
pointed_fresh (Pointer m kinds.Array t) value site span = elements_fresh t (first_element value site) value span
pointed_fresh (Pointer m kinds.Nt t) value site span = elements_fresh t (first_or_end value site) value span

dereferenced_fresh : (a : Typed) (site : Site) (span : Span) → Promises IsFresh (dereferenced a site span)
dereferenced_fresh (Value type zero value place) site span = pointed_fresh type value site span
dereferenced_fresh (AStruct number place) site span = tt

member_at_fresh : (s : Scope) (struct : ℕ) (p : core.Place) (name : ℕ) (site : Site) (span : Span) → Promises IsFresh (member_at s struct p name site span)
member_at_fresh s struct p name site span = by (member_from 0 (members_named s struct) (members_of s.structs struct) name) refl
  where
    by : (o : Option (ℕ × CType)) → member_from 0 (members_named s struct) (members_of s.structs struct) name ≡ o → Promises IsFresh (member_at s struct p name site span)
    by None found = rw found tt
    by (Some m) found = rw found (at_place_fresh m.1 (member_place p (offset_among (cells_of s.structs (Struct struct)) m.0) site))

dotted_fresh : (s : Scope) (a : Typed) (name : ℕ) (site : Site) (span : Span) → Promises IsFresh (dotted s a name site span)
dotted_fresh s (Value type zero value place) name site span = tt
dotted_fresh s (AStruct number place) name site span = member_at_fresh s number (struct_place place site) name site span

pointed_by_fresh : (s : Scope) (t : CType) (value : core.Expression) (name : ℕ) (site : Site) (span : Span) → Promises IsFresh (pointed_by s t value name site span)
pointed_by_fresh s Int value name site span = tt
pointed_by_fresh s Char value name site span = tt
pointed_by_fresh s (Struct number) value name site span = tt
pointed_by_fresh s (Pointer m kinds.One Int) value name site span = tt
pointed_by_fresh s (Pointer m kinds.One Char) value name site span = tt
pointed_by_fresh s (Pointer m kinds.One (Struct number)) value name site span = member_at_fresh s number (core.Through value core.First 0 site) name site span
pointed_by_fresh s (Pointer m kinds.One (Pointer m' k' t)) value name site span = tt
pointed_by_fresh s (Pointer m kinds.Array Int) value name site span = tt
pointed_by_fresh s (Pointer m kinds.Array Char) value name site span = tt
pointed_by_fresh s (Pointer m kinds.Array (Struct number)) value name site span =
    passing_promises IsFresh IsFresh (member_at s number (first_element value site) name site span) _ (member_at_fresh s number (first_element value site) name site span) (λ t h. elements_promise IsFresh value span (Passes t) h)
pointed_by_fresh s (Pointer m kinds.Array (Pointer m' k' t)) value name site span = tt
pointed_by_fresh s (Pointer m kinds.Nt t) value name site span = tt

arrowed_fresh : (s : Scope) (a : Typed) (name : ℕ) (site : Site) (span : Span) → Promises IsFresh (arrowed s a name site span)
arrowed_fresh s (Value type zero value place) name site span = pointed_by_fresh s type value name site span
arrowed_fresh s (AStruct number place) name site span = tt

pub number_any : {A : Type 0} (Q : A → Type 0) (a : Typed) (span : Span) (next : core.Expression → Verdict A) → ((v : core.Expression) → Promises Q (next v)) → Promises Q (number_of a span next)
number_any Q (Value type zero value place) span next more = needs_promises Q (is_number type) E13 span (next value) (λ ok. more value)
number_any Q (AStruct number place) span next more = tt

scalar_any : {A : Type 0} (Q : A → Type 0) (a : Typed) (span : Span) (next : core.Expression → Verdict A) → ((v : core.Expression) → Promises Q (next v)) → Promises Q (scalar_of a span next)
scalar_any Q (Value type zero value place) span next more = more value
scalar_any Q (AStruct number place) span next more = tt

pub numbers_any : {A : Type 0} (Q : A → Type 0) (a b : Typed) (span : Span) (next : core.Expression → core.Expression → Verdict A) → ((v w : core.Expression) → Promises Q (next v w)) → Promises Q (two_numbers a b span next)
numbers_any Q a b span next more = number_any Q a span _ (λ v. number_any Q b span _ (λ w. more v w))

unary_fresh : (operator : UnaryOperator) (a : Typed) (site : Site) (span : Span) → Promises IsFresh (unary_typed operator a site span)
unary_fresh unary.Deref a site span = dereferenced_fresh a site span
unary_fresh unary.AddressOf a site span = address_fresh a site span
unary_fresh unary.Negate a site span = number_any IsFresh a span (λ v. number (core.Negate v site)) (λ v. tt)
unary_fresh unary.Not a site span = scalar_any IsFresh a span (λ v. number (core.Not v)) (λ v. tt)
unary_fresh unary.Complement a site span = number_any IsFresh a span (λ v. number (core.Complement v)) (λ v. tt)

arithmetic_fresh : (a b : Typed) (operator : Operator) (site : Site) (span : Span) → Promises IsFresh (two_numbers a b span (arithmetic operator site))
arithmetic_fresh a b operator site span = numbers_any IsFresh a b span (arithmetic operator site) (λ v w. tt)

summed_fresh : (s : Scope) (direction : Direction) (a b : Typed) (site : Site) (span : Span) → Promises IsFresh (summed s direction a b site span)
summed_fresh s direction (Value Int zero value place) b site span = arithmetic_fresh (Value Int zero value place) b (operator_along direction) site span
summed_fresh s direction (Value Char zero value place) b site span = arithmetic_fresh (Value Char zero value place) b (operator_along direction) site span
summed_fresh s direction (Value (Struct number) zero value place) b site span = tt
summed_fresh s direction (Value (Pointer m k t) zero value place) b site span = number_any IsFresh b span _ (λ w. tt)
summed_fresh s direction (AStruct number place) b site span = tt

sum_fresh : (s : Scope) (direction : Direction) (a b : Typed) (site : Site) (span : Span) → Promises IsFresh (sum_typed s direction a b site span)
sum_fresh s direction a b site span = apart_promises IsFresh a b span (summed s direction a b site span) (summed_fresh s direction a b site span)

ordered_values_fresh : (comparison : Comparison) (t : CType) (v : core.Expression) (u : CType) (w : core.Expression) (site : Site) (span : Span) → Promises IsFresh (ordered_values comparison t v u w site span)
ordered_values_fresh comparison t v u w site span = by (is_number t && is_number u) (are_comparable t u) refl refl
  where
    by : (numbers same : Bool) → (is_number t && is_number u) ≡ numbers → are_comparable t u ≡ same → Promises IsFresh (ordered_values comparison t v u w site span)
    by true same h0 h1 = rw h0 tt
    by false true h0 h1 = rw (h0, h1) (needs_promises IsFresh (are_related t v u w) E26 span (number (core.Order comparison v w site)) (λ yes. tt))
    by false false h0 h1 = rw (h0, h1) tt

ordered_fresh : (comparison : Comparison) (a b : Typed) (site : Site) (span : Span) → Promises IsFresh (ordered comparison a b site span)
ordered_fresh comparison (Value t z v p) (Value u y w q) site span = ordered_values_fresh comparison t v u w site span
ordered_fresh comparison (Value t z v p) (AStruct k q) site span = tt
ordered_fresh comparison (AStruct k p) b site span = tt

scalars_fresh : (of : core.Expression → core.Expression → core.Expression) (a b : Typed) (span : Span) → Promises IsFresh (two_scalars a b span (λ v w. number (of v w)))
scalars_fresh of a b span = scalar_any IsFresh a span _ (λ v. scalar_any IsFresh b span _ (λ w. tt))

binary_fresh : (s : Scope) (operator : BinaryOperator) (a b : Typed) (site : Site) (span : Span) → Promises IsFresh (binary_typed s operator a b site span)
binary_fresh s binary.Or a b site span = scalars_fresh core.OrElse a b span
binary_fresh s binary.And a b site span = scalars_fresh core.AndAlso a b span
binary_fresh s binary.BitOr a b site span = arithmetic_fresh a b (operators.Bitwise bits.Or) site span
binary_fresh s binary.BitXor a b site span = arithmetic_fresh a b (operators.Bitwise bits.Xor) site span
binary_fresh s binary.BitAnd a b site span = arithmetic_fresh a b (operators.Bitwise bits.And) site span
binary_fresh s binary.Equal a b site span = passing_any IsFresh (equated a b span) number (λ v. tt)
binary_fresh s binary.NotEqual a b site span = passing_any IsFresh (equated a b span) (λ v. number (core.Not (zero_test a b v))) (λ v. tt)
binary_fresh s binary.Less a b site span = ordered_fresh comparisons.Less a b site span
binary_fresh s binary.LessEqual a b site span = ordered_fresh comparisons.LessEqual a b site span
binary_fresh s binary.Greater a b site span = ordered_fresh comparisons.Greater a b site span
binary_fresh s binary.GreaterEqual a b site span = ordered_fresh comparisons.GreaterEqual a b site span
binary_fresh s binary.ShiftLeft a b site span = arithmetic_fresh a b (operators.Arithmetic arithmetics.ShiftLeft) site span
binary_fresh s binary.ShiftRight a b site span = arithmetic_fresh a b (operators.Arithmetic arithmetics.ShiftRight) site span
binary_fresh s binary.Add a b site span = sum_fresh s directions.Forward a b site span
binary_fresh s binary.Subtract a b site span = sum_fresh s directions.Backward a b site span
binary_fresh s binary.Multiply a b site span = arithmetic_fresh a b (operators.Arithmetic arithmetics.Multiply) site span
binary_fresh s binary.Divide a b site span = arithmetic_fresh a b (operators.Arithmetic arithmetics.Divide) site span
binary_fresh s binary.Remainder a b site span = arithmetic_fresh a b (operators.Arithmetic arithmetics.Remainder) site span

element_fresh : (t : CType) (v w : core.Expression) (site : Site) (span : Span) → Promises IsFresh (element_at t v w site span)
element_fresh Int v w site span = tt
element_fresh Char v w site span = tt
element_fresh (Struct number) v w site span = tt
element_fresh (Pointer m kinds.One t) v w site span = tt
element_fresh (Pointer m kinds.Array t) v w site span = elements_fresh t (core.Through v (core.Element w false) 0 site) v span
element_fresh (Pointer m kinds.Nt t) v w site span = elements_fresh t (core.Through v (core.Element w true) 0 site) v span

indexed_fresh : (a b : Typed) (site : Site) (span : Span) → Promises IsFresh (indexed a b site span)
indexed_fresh (Value t z v p) (Value u y w q) site span = needs_promises IsFresh (is_pointer t && is_number u) E13 span _ (λ ok. element_fresh t v w site span)
indexed_fresh (Value t z v p) (AStruct k q) site span = tt
indexed_fresh (AStruct k p) b site span = tt

-- ---- calls

call_fresh : (result : Option CType) (bounds : Option Bounds) (callee : Callee) (values : core.Arguments) (site : Site) (structs : List Structure) → IsFreshCall (call_of structs result bounds callee values site)
call_fresh (Some t) bounds callee values site structs = tt
call_fresh None bounds callee values site structs = tt

first_plain : (of : core.Expression → core.Statement) (values : core.Arguments) → ((v : core.Expression) → IsPlain [] (of v)) → IsPlain [] (first_of of values)
first_plain of core.Done h = tt
first_plain of (core.More v others) h = h v

writes_fresh : (of : core.Expression → core.Statement) (arguments : List (Typed × Span)) (span : Span) → ((v : core.Expression) → IsPlain [] (of v)) → Promises IsFreshCall (writes of arguments span)
writes_fresh of arguments span h = needs_promises IsFreshCall (length arguments == 1) E14 span _ (λ x. passing_any IsFreshCall (arguments_as arguments (Int ∷ [])) _ (λ values. first_plain of values h))

length_fresh : (a : Typed) (site : Site) (span : Span) → Promises IsFreshCall (length_typed a site span)
length_fresh (Value type zero value place) site span = needs_promises IsFreshCall (is_text type && is_some (bounds_of value)) E13 span _ (λ text. tt)
length_fresh (AStruct number place) site span = tt

measures_fresh : (arguments : List (Typed × Span)) (site : Site) (span : Span) → Promises IsFreshCall (measures arguments site span)
measures_fresh [] site span = tt
measures_fresh (a ∷ arguments) site span = needs_promises IsFreshCall (length (a ∷ arguments) == 1) E14 span _ (λ one. convertible_promises IsFreshCall a.0 text_pointer a.1 (length_typed a.0 site span) (length_fresh a.0 site span))

predefined_fresh : (given : Given) (name : ℕ) (arguments : List (Typed × Span)) (site : Site) (span : Span) → Promises IsFreshCall (predefined_call given name arguments site span)
predefined_fresh given name arguments site span = by (name == given.next_input) (name == given.print_int) (name == given.putchar) (name == given.strlen) refl refl refl refl
  where
    by : (input print put measure : Bool) → (name == given.next_input) ≡ input → (name == given.print_int) ≡ print → (name == given.putchar) ≡ put → (name == given.strlen) ≡ measure
        → Promises IsFreshCall (predefined_call given name arguments site span)
    by true print put measure h0 h1 h2 h3 = rw h0 (needs_promises IsFreshCall (length arguments == 0) E14 span (Passes (Gives Int core.NextInput)) (λ none. tt))
    by false true put measure h0 h1 h2 h3 = rw (h0, h1) (writes_fresh core.Print arguments span (λ v. tt))
    by false false true measure h0 h1 h2 h3 = rw (h0, h1, h2) (writes_fresh core.PutByte arguments span (λ v. tt))
    by false false false true h0 h1 h2 h3 = rw (h0, h1, h2, h3) (measures_fresh arguments site span)
    by false false false false h0 h1 h2 h3 = rw (h0, h1, h2, h3) tt

with_result_fresh : (c : Called) (span : Span) → Promises IsFresh (with_result c span)
with_result_fresh (Gives type value) span = tt
with_result_fresh (GivesNothing call) span = tt

called_fresh : (s : Scope) (o : Option Signature) (name : ℕ) (arguments : List (Typed × Span)) (site : Site) (span : Span) → Promises IsFreshCall (called s o name arguments site span)
called_fresh s None name arguments site span = predefined_fresh s.given name arguments site span
called_fresh s (Some f) name arguments site span =
    needs_promises IsFreshCall (length f.parameters == length arguments) E14 span _
    (λ many. crossing_promises IsFreshCall (is_import f) arguments _
    (passing_any IsFreshCall (arguments_as arguments f.parameters) _ (λ values. all_met_promise IsFreshCall s.flow _ _ arguments f.parameters f.bounds _
    (call_fresh f.result _ (declared_callee s f site) values site s.structs))))

pub call_typed_fresh : (at : Places) (s : Scope) (x : Expression) → Promises IsFreshCall (call_typed at s x)
call_typed_fresh at s (e.Number value span) = tt
call_typed_fresh at s (e.Character value span) = tt
call_typed_fresh at s (e.Text bytes span) = tt
call_typed_fresh at s (e.Name name) = tt
call_typed_fresh at s (e.Call callee arguments span) =
    passing_any IsFreshCall (all_typed at s arguments) _ (λ ts. called_fresh s (function_named s.functions callee.number) callee.number ts (site_at at span) span)
call_typed_fresh at s (e.SizeOf type span) = tt
call_typed_fresh at s (e.Cast word type operand span) = tt
call_typed_fresh at s (e.BoundedCast word type operand bounds span) = tt
call_typed_fresh at s (e.Malloc word type size span) = tt
call_typed_fresh at s (e.Calloc word type count size span) = tt
call_typed_fresh at s (e.Index base index span) = tt
call_typed_fresh at s (e.Dot base member span) = tt
call_typed_fresh at s (e.Arrow base member span) = tt
call_typed_fresh at s (e.Unary operator operand span) = tt
call_typed_fresh at s (e.Binary operator left right span) = tt

-- ---- names

abbrev pub IsLocalAt : Scope → ℕ → Named → Type 0
IsLocalAt s name (Local k t) = (slice_get s.locals k ≡ Some t) × (local_number s.visible name ≡ Some k)
IsLocalAt s name (Object k t b) = Unit {0}
IsLocalAt s name (Array k t n ended) = Unit {0}
IsLocalAt s name Nothing = Unit {0}

abbrev IfLocal : Scope → ℕ → Option Named → Type 0
IfLocal s name None = Unit {0}
IfLocal s name (Some x) = IsLocalAt s name x

abbrev IfFound : List CType → List Visible → ℕ → Option Named → Type 0
IfFound types visible name None = Unit {0}
IfFound types visible name (Some (Local k t)) = (slice_get types k ≡ Some t) × (local_number visible name ≡ Some k)
IfFound types visible name (Some (Object k t b)) = ⊥
IfFound types visible name (Some (Array k t n ended)) = ⊥
IfFound types visible name (Some Nothing) = ⊥

local_if_found : (types : List CType) (v : Visible) (visible : List Visible) (name : ℕ) → (name == v.name) ≡ true → (o : Option CType) → slice_get types v.local ≡ o → IfFound types (v ∷ visible) name (local_if o v.local)
local_if_found types v visible name same None e = tt
local_if_found types v visible name same (Some t) e = (e, rw same refl)

later_found : (types : List CType) (v : Visible) (visible : List Visible) (name : ℕ) → (name == v.name) ≡ false → (o : Option Named) → IfFound types visible name o → IfFound types (v ∷ visible) name o
later_found types v visible name other None h = tt
later_found types v visible name other (Some (Local k t)) h = (h.0, rw other h.1)
later_found types v visible name other (Some (Object k t b)) h = h
later_found types v visible name other (Some (Array k t n ended)) h = h
later_found types v visible name other (Some Nothing) h = h

local_by : (types : List CType) (v : Visible) (visible : List Visible) (name : ℕ) (test : Bool) → (name == v.name) ≡ test → IfFound types visible name (local_named types visible name)
    → IfFound types (v ∷ visible) name (found_if test (local_if (slice_get types v.local) v.local) (local_named types visible name))
local_by types v visible name true same h = local_if_found types v visible name same (slice_get types v.local) refl
local_by types v visible name false other h = later_found types v visible name other (local_named types visible name) h

local_found : (types : List CType) (visible : List Visible) (name : ℕ) → IfFound types visible name (local_named types visible name)
local_found types [] name = tt
local_found types (v ∷ visible) name = local_by types v visible name (name == v.name) refl (local_found types visible name)

found_at : (s : Scope) (name : ℕ) (o : Option Named) → IfFound s.locals s.visible name o → IfLocal s name o
found_at s name None h = tt
found_at s name (Some (Local k t)) h = h
found_at s name (Some (Object k t b)) h = absurd h
found_at s name (Some (Array k t n ended)) h = absurd h
found_at s name (Some Nothing) h = absurd h

either_at : (s : Scope) (name : ℕ) (this other : Option Named) → IfLocal s name this → IfLocal s name other → IfLocal s name (or_else this other)
either_at s name None other h k = k
either_at s name (Some x) other h k = h

test_at : (s : Scope) (name : ℕ) (test : Bool) (this other : Option Named) → IfLocal s name this → IfLocal s name other → IfLocal s name (found_if test this other)
test_at s name true this other h k = h
test_at s name false this other h k = k

object_at : (s : Scope) (name number : ℕ) (v : FileVariable) (length : Option ℕ) → IsLocalAt s name (object_of number v length)
object_at s name number v None = tt
object_at s name number v (Some length) = tt

objects_at : (s : Scope) (name number : ℕ) (variables : List FileVariable) → IfLocal s name (object_named number variables name)
objects_at s name number [] = tt
objects_at s name number (v ∷ variables) =
    test_at s name (name == v.name) (Some (object_of number v v.length)) (object_named (suc number) variables name) (object_at s name number v v.length) (objects_at s name (suc number) variables)

meant_at : (s : Scope) (name : ℕ) (o : Option Named) → IfLocal s name o → Promises (IsLocalAt s name) (meant o)
meant_at s name None h = tt
meant_at s name (Some x) h = h

named_at : (s : Scope) (name : ℕ) → Promises (IsLocalAt s name) (named s name)
named_at s name =
    meant_at s name (or_else (local_named s.locals s.visible name) (or_else (object_named 0 s.variables name) (null_named s.given name)))
    (either_at s name (local_named s.locals s.visible name) (or_else (object_named 0 s.variables name) (null_named s.given name)) (found_at s name (local_named s.locals s.visible name) (local_found s.locals s.visible name))
    (either_at s name (object_named 0 s.variables name) (null_named s.given name) (objects_at s name 0 s.variables) (test_at s name (name == s.given.null) (Some Nothing) None tt tt)))

-- ---- what an expression is

-- the name of the local
abbrev pub IsNameOf : List Visible → Expression → ℕ → Type 0
IsNameOf visible (e.Number value span) k = ⊥
IsNameOf visible (e.Character value span) k = ⊥
IsNameOf visible (e.Text bytes span) k = ⊥
IsNameOf visible (e.Name name) k = local_number visible name.number ≡ Some k
IsNameOf visible (e.Call callee arguments span) k = ⊥
IsNameOf visible (e.SizeOf type span) k = ⊥
IsNameOf visible (e.Cast word type operand span) k = ⊥
IsNameOf visible (e.BoundedCast word type operand bounds span) k = ⊥
IsNameOf visible (e.Malloc word type size span) k = ⊥
IsNameOf visible (e.Calloc word type count size span) k = ⊥
IsNameOf visible (e.Index base index span) k = ⊥
IsNameOf visible (e.Dot base member span) k = ⊥
IsNameOf visible (e.Arrow base member span) k = ⊥
IsNameOf visible (e.Unary operator operand span) k = ⊥
IsNameOf visible (e.Binary operator left right span) k = ⊥

abbrev pub IsTarget : Scope → Expression → CType → Standing → Type 0
IsTarget s x type ForNothing = Unit {0}
IsTarget s x type ForArray = Unit {0}
IsTarget s x type (For (OfLocal k)) = (slice_get s.locals k ≡ Some type) × IsNameOf s.visible x k
IsTarget s x type (For (OfCell p)) = Unit {0}
IsTarget s x type (For (OfBounded k b)) = Unit {0}
IsTarget s x type (For (OfUnknown k)) = Unit {0}

-- where an expression is a local, it is that of its name
abbrev pub IsSource : Scope → Expression → Typed → Type 0
IsSource s x (Value type zero value place) = IsTarget s x type place
IsSource s x (AStruct number place) = Unit {0}

fresh_target : (s : Scope) (x : Expression) (type : CType) (place : Standing) → IsNoLocal place → IsTarget s x type place
fresh_target s x type ForNothing h = tt
fresh_target s x type ForArray h = tt
fresh_target s x type (For (OfLocal k)) h = absurd h
fresh_target s x type (For (OfCell p)) h = tt
fresh_target s x type (For (OfBounded k b)) h = tt
fresh_target s x type (For (OfUnknown k)) h = tt

fresh_source : (s : Scope) (x : Expression) (t : Typed) → IsFresh t → IsSource s x t
fresh_source s x (Value type zero value place) h = fresh_target s x type place h
fresh_source s x (AStruct number place) h = tt

fresh_sources : (s : Scope) (x : Expression) (v : Verdict Typed) → Promises IsFresh v → Promises (IsSource s x) v
fresh_sources s x v h = promised_so IsFresh (IsSource s x) v h (fresh_source s x)

standing_target : (s : Scope) (x : Expression) (k : ℕ) (t : CType) (array : Bool) → slice_get s.locals k ≡ Some t → IsNameOf s.visible x k → IsTarget s x t (local_standing array k)
standing_target s x k t true h n = tt
standing_target s x k t false h n = (h, n)

local_source : (s : Scope) (x : Expression) (k : ℕ) (t : CType) (array : Bool) (site : Site) → slice_get s.locals k ≡ Some t → IsNameOf s.visible x k → IsSource s x (local_typed s.structs s.flow k t array site)
local_source s x k Int array site h n = standing_target s x k Int array h n
local_source s x k Char array site h n = standing_target s x k Char array h n
local_source s x k (Struct number) array site h n = tt
local_source s x k (Pointer m d t) array site h n = standing_target s x k (Pointer m d t) array h n

name_source : (s : Scope) (name : Identifier) (site : Site) (x : Named) → IsLocalAt s name.number x → IsSource s (e.Name name) (name_typed s x site)
name_source s name site (Local k t) h = local_source s (e.Name name) k t (is_array s.arrays k) site h.0 h.1
name_source s name site (Object k t b) h = fresh_source s (e.Name name) (object_typed s.structs k t b site) (object_fresh s.structs k t b site)
name_source s name site (Array k t n false) h = tt
name_source s name site (Array k t n true) h = tt
name_source s name site Nothing h = tt

with_bounds_source : (s : Scope) (x : Expression) (site : Site) (t : Typed) → IsSource s x t → IsSource s x (with_bounds s.structs site t)
with_bounds_source s x site (Value type zero value place) h = h
with_bounds_source s x site (AStruct number place) h = tt

constant_fresh : (value : ℕ) (zero : Bool) (span : Span) → Promises IsFresh (constant_typed value zero span)
constant_fresh value zero span = needs_promises IsFresh (nat_lt value (2 ^ 31)) E04 span _ (λ low. tt)

cast_fresh : (word : CastWord) (s : Scope) (t : CType) (a : Typed) (written : WrittenBounds) (site : Site) (span : Span) → Promises IsFresh (cast_typed word s t a written site span)
cast_fresh word s t a written site span = cast_promises IsFresh word s t a written site span (of_any _ a (λ type value casts. tt))

pub typed_source : (at : Places) (s : Scope) (x : Expression) → Promises (IsSource s x) (typed at s x)
typed_source at s (e.Number value span) = fresh_sources s (e.Number value span) (constant_typed value (value == 0) span) (constant_fresh value (value == 0) span)
typed_source at s (e.Character value span) = fresh_sources s (e.Character value span) (constant_typed value false span) (constant_fresh value false span)
typed_source at s (e.Text bytes span) = any_text (IsSource s (e.Text bytes span)) s.structs (text_at s.strings span.from) (site_at at span) span (λ t. tt)
typed_source at s (e.Name name) =
    passing_promises (IsSource s (e.Name name)) (IsSource s (e.Name name)) (passing (named s name.number) (λ n. Passes (name_typed s n (site_at at name.span)))) _
    (passing_promises (IsLocalAt s name.number) (IsSource s (e.Name name)) (named s name.number) _ (named_at s name.number) (name_source s name (site_at at name.span))) (with_bounds_source s (e.Name name) (site_at at name.span))
typed_source at s (e.Call callee arguments span) =
    fresh_sources s (e.Call callee arguments span) (typed at s (e.Call callee arguments span))
    (passing_any IsFresh (all_typed at s arguments) _ (λ ts. passing_any IsFresh (called s (function_named s.functions callee.number) callee.number ts (site_at at span) span) _ (λ c. with_result_fresh c span)))
typed_source at s (e.SizeOf type span) = fresh_sources s (e.SizeOf type span) (typed at s (e.SizeOf type span)) (passing_any IsFresh (type_named s type) _ (λ t. tt))
typed_source at s (e.Cast word type operand span) =
    fresh_sources s (e.Cast word type operand span) (typed at s (e.Cast word type operand span))
    (passing_any IsFresh (type_named s type) _ (λ t. passing_any IsFresh (typed at s operand) _ (λ a. cast_fresh word s t a None (site_at at span) span)))
typed_source at s (e.BoundedCast word type operand bounds span) =
    fresh_sources s (e.BoundedCast word type operand bounds span) (typed at s (e.BoundedCast word type operand bounds span))
    (passing_any IsFresh (type_named s type) _ (λ t. passing_any IsFresh (typed at s operand) _ (λ a. passing_any IsFresh (cast_bounds s t bounds) _
    (λ written. cast_fresh word s t a written (site_at at span) span))))
typed_source at s (e.Malloc word type size span) =
    fresh_sources s (e.Malloc word type size span) (typed at s (e.Malloc word type size span))
    (passing_any IsFresh (type_named s type) _ (λ t. passing_any IsFresh (typed at s size) _
    (λ a. malloc_promises IsFresh s t (site_at at span) span word size a (of_any _ a (λ type value number count is bytes. tt)))))
typed_source at s (e.Calloc word type count size span) =
    fresh_sources s (e.Calloc word type count size span) (typed at s (e.Calloc word type count size span))
    (passing_any IsFresh (type_named s type) _ (λ t. passing_any IsFresh (typed at s count) _ (λ a. passing_any IsFresh (typed at s size) _
    (λ b. calloc_promises IsFresh s t (site_at at span) span word a size (of_any _ a (λ type value number ended may. tt))))))
typed_source at s (e.Index base index span) =
    fresh_sources s (e.Index base index span) (typed at s (e.Index base index span))
    (in_cell_fresh s (site_at at span) (passing (typed at s base) (λ a. passing (typed at s index) (λ b. indexed a b (site_at at span) span)))
    (passing_any IsFresh (typed at s base) _ (λ a. passing_any IsFresh (typed at s index) _ (λ b. indexed_fresh a b (site_at at span) span))))
typed_source at s (e.Dot base member span) =
    fresh_sources s (e.Dot base member span) (typed at s (e.Dot base member span))
    (in_cell_fresh s (site_at at span) (passing (typed at s base) (λ a. dotted s a member.number (site_at at span) span)) (passing_any IsFresh (typed at s base) _ (λ a. dotted_fresh s a member.number (site_at at span) span)))
typed_source at s (e.Arrow base member span) =
    fresh_sources s (e.Arrow base member span) (typed at s (e.Arrow base member span))
    (in_cell_fresh s (site_at at span) (passing (typed at s base) (λ a. arrowed s a member.number (site_at at span) span)) (passing_any IsFresh (typed at s base) _ (λ a. arrowed_fresh s a member.number (site_at at span) span)))
typed_source at s (e.Unary operator operand span) =
    fresh_sources s (e.Unary operator operand span) (typed at s (e.Unary operator operand span))
    (in_cell_fresh s (site_at at span) (passing (typed at s operand) (λ a. unary_typed operator a (site_at at span) span)) (passing_any IsFresh (typed at s operand) _ (λ a. unary_fresh operator a (site_at at span) span)))
typed_source at s (e.Binary operator left right span) =
    fresh_sources s (e.Binary operator left right span) (typed at s (e.Binary operator left right span))
    (passing_any IsFresh (typed at s left) _ (λ a. passing_any IsFresh (typed at (beside operator a s) right) _ (λ b. binary_fresh s operator a b (site_at at span) span)))
