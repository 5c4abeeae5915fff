-- The type of an expression in a closed scope names declared structs alone.
use Rattle.std.proofs.Common.{◌≡◌, ℕ, suc, ◌^◌, Bool, true, false, List, [], ◌∷◌, length, Option, Some, None, refl}
use Rattle.std.specs.Prelude.{◌==◌, slice_get, nat_lt, not, ◌&&◌, ◌||◌, is_some}
use Rattle.std.specs.List.{AllByRecursion}
use Rattle.ckc_text.specs.declared.place.Span.{Span}
use Rattle.ckc_text.specs.declared.code.Code.TheVariants.{E04, E13, E14, E18, E19, E26}
use Rattle.ckc_tree.specs.declared.expr.CastWord.{CastWord}
use Rattle.ckc_tree.specs.declared.expr.UnaryOperator.{UnaryOperator}
use Rattle.ckc_tree.specs.declared.expr.UnaryOperator.TheVariants as unary
use Rattle.ckc_tree.specs.declared.expr.BinaryOperator.{BinaryOperator}
use Rattle.ckc_tree.specs.declared.expr.BinaryOperator.TheVariants as binary
use Rattle.ckc_tree.specs.Expressions as e
use Rattle.ckc_tree.specs.Expressions.{Expression}
use Rattle.pointer_modes.specs.declared.ctype.Kind.TheVariants as kinds
use Rattle.bounds_exprs.specs.declared.term.Bounds.{Bounds}
use Rattle.pointer_modes.specs.Types.{CType, Int, Char, Struct, Pointer, Member, Structure, members_of}
use Rattle.ckc_core.specs.declared.program.Site.{Site}
use Rattle.act_words.specs.declared.operator.Comparison.{Comparison}
use Rattle.ckc_core.specs.declared.program.Callee.{Callee}
use Rattle.ckc_core.specs.declared.program.Direction.{Direction}
use Rattle.ckc_core.specs.declared.program.Direction.TheVariants as directions
use Rattle.ckc_core.specs.Core as core
use Rattle.ckc_core.specs.Meaning.{bounds_of}
use Rattle.ckc_core.proofs.Elements.{of_element}
use Rattle.ckc_names_rules.specs.declared.given.Given.{Given}
use Rattle.region_typing_rules.specs.Verdicts.{Verdict, Passes, Stops, passing, meant, picked}
use Rattle.region_typing_rules.specs.Scopes.{Scope, Signature, WrittenBounds, FileVariable, Visible, Named, Local, Object, Array, Nothing, local_if, found_if, local_named, object_of, object_named, or_else, null_named, named, function_named, members_named}
use Rattle.region_typing_rules.specs.Types.{type_named, is_number, may_lead_to, is_pointer, are_comparable}
use Rattle.region_typing_rules.specs.Operands.{Places, OfLocal, OfCell, OfBounded, OfUnknown, ForNothing, ForArray, For, Typed, Value, AStruct, Called, Gives, GivesNothing, site_at, bounded, in_cell, with_cell_bounds, number, at_place, local_typed, name_typed, pointer_typed, unknown_typed, object_typed, member_from, member_at, dotted, with_elements, first_element, first_or_end, pointed_by, arrowed, pointed_at, dereferenced, address, number_of, scalar_of, unary_typed, is_single_value, lacks_bounds, two_numbers, two_scalars, operator_along, summed, sum_typed, equated, zero_test, are_related, ordered, binary_typed, beside, element_at, indexed, is_array}
use Rattle.region_typing_rules.specs.Calls.{arguments_as, is_import, call_of, declared_callee, writes, is_text, length_typed, text_pointer, measures, predefined_call, called, with_result}
use Rattle.region_typing_rules.specs.NewMemory.{cast_typed, cast_bounds}
use Rattle.region_typing_rules.specs.Expressions.{typed, all_typed}
use Rattle.region_typing_rules.specs.Statements.{array_kind}
use Rattle.region_typing_rules.proofs.Verdicts.{Promises, passing_promises, needs_promises, convertible_promises, anything_promised, all_met_promise}
use Rattle.region_typing_rules.proofs.Known.{IsKnown, IsKnownResult, IsKnownVariable, IsClosed, type_known}
use Rattle.region_typing_rules.proofs.Knowledge.{crossing_promises}
use Rattle.region_typing_rules.proofs.Signatures.{named_has}
use Rattle.region_typing_rules.proofs.Kept.{passing_any}
use Rattle.region_typing_rules.proofs.Memory.{may_lead, of_any, malloc_promises, calloc_promises, cast_promises}
use Rattle.region_typing_rules.proofs.TextBlocks.{any_text}
use Rattle.region_typing_rules.specs.Strings.{text_at}

abbrev pub IsKnownTyped : List Structure → Typed → Type 0
IsKnownTyped structs (Value type zero value place) = IsKnown structs type
IsKnownTyped structs (AStruct number place) = IsKnown structs (Struct number)

abbrev IsKnownCall : List Structure → Called → Type 0
IsKnownCall structs (Gives type value) = IsKnown structs type
IsKnownCall structs (GivesNothing call) = Unit {0}

abbrev IsKnownNamed : List Structure → Named → Type 0
IsKnownNamed structs (Local local type) = IsKnown structs type
IsKnownNamed structs (Object object type bounds) = IsKnown structs type
IsKnownNamed structs (Array object type length ended) = (may_lead_to (array_kind ended) type ≡ true) × IsKnown structs type
IsKnownNamed structs Nothing = Unit {0}

abbrev IfKnown : List Structure → Option Named → Type 0
IfKnown structs None = Unit {0}
IfKnown structs (Some n) = IsKnownNamed structs n

abbrev IfKnownMember : List Structure → Option (ℕ × CType) → Type 0
IfKnownMember structs None = Unit {0}
IfKnownMember structs (Some m) = IsKnown structs m.1

module _ (structs : List Structure) where
  abbrev Known : Typed → Type 0
  Known t = IsKnownTyped structs t

  -- ---- names

  found_known : (test : Bool) (this other : Option Named) → IfKnown structs this → IfKnown structs other → IfKnown structs (found_if test this other)
  found_known true this other h h' = h
  found_known false this other h h' = h'

  local_known : (locals : List CType) → AllByRecursion (IsKnown structs) locals → (k : ℕ) (o : Option CType) → slice_get locals k ≡ o → IfKnown structs (local_if o k)
  local_known locals all k None e = tt
  local_known locals all k (Some t) e = of_element (IsKnown structs) locals k t all e

  locals_known : (locals : List CType) → AllByRecursion (IsKnown structs) locals → (visible : List Visible) (name : ℕ) → IfKnown structs (local_named locals visible name)
  locals_known locals all [] name = tt
  locals_known locals all (v ∷ visible) name =
      found_known (name == v.name) (local_if (slice_get locals v.local) v.local) (local_named locals visible name) (local_known locals all v.local (slice_get locals v.local) refl) (locals_known locals all visible name)

  object_known : (number : ℕ) (v : FileVariable) (length : Option ℕ) → IsKnownVariable structs v → IfKnown structs (Some (object_of number v length))
  object_known number v None h = h.1
  object_known number v (Some length) h = h

  objects_known : (number : ℕ) (variables : List FileVariable) (name : ℕ) → AllByRecursion (IsKnownVariable structs) variables → IfKnown structs (object_named number variables name)
  objects_known number [] name all = tt
  objects_known number (v ∷ variables) name all =
      found_known (name == v.name) (Some (object_of number v v.length)) (object_named (suc number) variables name) (object_known number v v.length all.0) (objects_known (suc number) variables name all.1)

  either_known : (this other : Option Named) → IfKnown structs this → IfKnown structs other → IfKnown structs (or_else this other)
  either_known (Some n) other h h' = h
  either_known None other h h' = h'

  meant_known : (o : Option Named) → IfKnown structs o → Promises (IsKnownNamed structs) (meant o)
  meant_known None h = tt
  meant_known (Some n) h = h

  -- ---- places

  at_place_known : (t : CType) (p : core.Place) → IsKnown structs t → Known (at_place t p)
  at_place_known Int p h = h
  at_place_known Char p h = h
  at_place_known (Struct number) p h = h
  at_place_known (Pointer m k t) p h = h

  local_typed_known : (s : Scope) (local : ℕ) (t : CType) (array : Bool) (site : Site) → IsKnown structs t → Known (local_typed s.structs s.flow local t array site)
  local_typed_known s local Int array site h = h
  local_typed_known s local Char array site h = h
  local_typed_known s local (Struct number) array site h = h
  local_typed_known s local (Pointer m k t) array site h = h

  pointer_typed_known : (s : Scope) (object : ℕ) (t : CType) (b : Bounds) (site : Site) → IsKnown structs t → Known (pointer_typed s.structs object t b site)
  pointer_typed_known s object Int b site h = h
  pointer_typed_known s object Char b site h = h
  pointer_typed_known s object (Struct number) b site h = h
  pointer_typed_known s object (Pointer m k t) b site h = h

  unknown_typed_known : (s : Scope) (object : ℕ) (t : CType) (site : Site) → IsKnown structs t → Known (unknown_typed s.structs object t site)
  unknown_typed_known s object Int site h = h
  unknown_typed_known s object Char site h = h
  unknown_typed_known s object (Struct number) site h = h
  unknown_typed_known s object (Pointer m kinds.One t) site h = h
  unknown_typed_known s object (Pointer m kinds.Array t) site h = h
  unknown_typed_known s object (Pointer m kinds.Nt t) site h = h

  -- notes leave the type
  cell_known : (s : Scope) (site : Site) (t : Typed) → Known t → Known (with_cell_bounds s.structs site t)
  cell_known s site (Value type zero value place) h = h
  cell_known s site (AStruct number place) h = h

  object_typed_known : (s : Scope) (object : ℕ) (t : CType) (bounds : WrittenBounds) (site : Site) → IsKnown structs t → Known (object_typed s.structs object t bounds site)
  object_typed_known s object t None site h = cell_known s site (at_place t (core.Direct object 0)) (at_place_known t (core.Direct object 0) h)
  object_typed_known s object t (Some None) site h = unknown_typed_known s object t site h
  object_typed_known s object t (Some (Some b)) site h = pointer_typed_known s object t b site h

  name_known : (s : Scope) (site : Site) (n : Named) → IsKnownNamed structs n → Known (name_typed s n site)
  name_known s site (Local local type) h = local_typed_known s local type (is_array s.arrays local) site h
  name_known s site (Object object type bounds) h = object_typed_known s object type bounds site h
  name_known s site (Array object type length false) h = (refl, h.1)
  name_known s site (Array object type length true) h = h
  name_known s site Nothing h = tt

  with_elements_known : (value : core.Expression) (span : Span) (t : Typed) → Known t → Promises Known (with_elements value span (Passes t))
  with_elements_known value span t h = needs_promises Known (is_some (bounds_of value)) E18 span (Passes t) (λ there. h)

  pointed_known : (type : CType) (value : core.Expression) (site : Site) (span : Span) → IsKnown structs type → Promises Known (pointed_at type value site span)
  pointed_known Int value site span h = tt
  pointed_known Char value site span h = tt
  pointed_known (Struct number) value site span h = tt
  pointed_known (Pointer m kinds.One t) value site span h = at_place_known t _ h.1
  pointed_known (Pointer m kinds.Array t) value site span h = with_elements_known value span (at_place t (first_element value site)) (at_place_known t (first_element value site) h.1)
  pointed_known (Pointer m kinds.Nt t) value site span h = with_elements_known value span (at_place t (first_or_end value site)) (at_place_known t (first_or_end value site) h.1)

  dereferenced_known : (a : Typed) (site : Site) (span : Span) → Known a → Promises Known (dereferenced a site span)
  dereferenced_known (Value type zero value place) site span h = pointed_known type value site span h
  dereferenced_known (AStruct number place) site span h = tt

  address_known : (a : Typed) (site : Site) (span : Span) → Known a → Promises Known (address a site span)
  address_known (Value type zero value ForNothing) site span h = tt
  address_known (Value type zero value ForArray) site span h = tt
  address_known (Value type zero value (For (OfLocal k))) site span h = tt
  address_known (Value type zero value (For (OfCell p))) site span h = (refl, h)
  address_known (Value type zero value (For (OfBounded k b))) site span h = tt
  address_known (Value type zero value (For (OfUnknown k))) site span h = tt
  address_known (AStruct number (OfLocal k)) site span h = tt
  address_known (AStruct number (OfCell p)) site span h = (refl, h)
  address_known (AStruct number (OfBounded k b)) site span h = tt
  address_known (AStruct number (OfUnknown k)) site span h = tt

  -- ---- operators

  number_of_known : (a : Typed) (span : Span) (next : core.Expression → Verdict Typed) → ((v : core.Expression) → Promises Known (next v)) → Promises Known (number_of a span next)
  number_of_known (Value type zero value place) span next h = needs_promises Known (is_number type) E13 span (next value) (λ n. h value)
  number_of_known (AStruct number place) span next h = tt

  scalar_of_known : (a : Typed) (span : Span) (next : core.Expression → Verdict Typed) → ((v : core.Expression) → Promises Known (next v)) → Promises Known (scalar_of a span next)
  scalar_of_known (Value type zero value place) span next h = h value
  scalar_of_known (AStruct number place) span next h = tt

  unary_known : (operator : UnaryOperator) (a : Typed) (site : Site) (span : Span) → Known a → Promises Known (unary_typed operator a site span)
  unary_known unary.Deref a site span h = dereferenced_known a site span h
  unary_known unary.AddressOf a site span h = address_known a site span h
  unary_known unary.Negate a site span h = number_of_known a span _ (λ v. tt)
  unary_known unary.Not a site span h = scalar_of_known a span _ (λ v. tt)
  unary_known unary.Complement a site span h = number_of_known a span _ (λ v. tt)

  numbers_known : (a b : Typed) (span : Span) (of : core.Expression → core.Expression → core.Expression) → Promises Known (two_numbers a b span (λ v w. number (of v w)))
  numbers_known a b span of = number_of_known a span _ (λ v. number_of_known b span _ (λ w. tt))

  scalars_known : (a b : Typed) (span : Span) (of : core.Expression → core.Expression → core.Expression) → Promises Known (two_scalars a b span (λ v w. number (of v w)))
  scalars_known a b span of = scalar_of_known a span _ (λ v. scalar_of_known b span _ (λ w. tt))

  equal_known : (a b : Typed) (span : Span) (next : core.Expression → core.Expression) → Promises Known (passing (equated a b span) (λ v. number (next v)))
  equal_known a b span next = passing_promises (λ (v : core.Expression). Unit {0}) Known (equated a b span) _ (anything_promised (equated a b span)) (λ v _. tt)

  ordered_known : (comparison : Comparison) (a b : Typed) (site : Site) (span : Span) → Promises Known (ordered comparison a b site span)
  ordered_known comparison (Value t z v p) (AStruct n q) site span = tt
  ordered_known comparison (AStruct n p) b site span = tt
  ordered_known comparison (Value t z v p) (Value u y w q) site span = by (is_number t && is_number u) (are_comparable t u) refl refl
    where
      by : (numbers same : Bool) → (is_number t && is_number u) ≡ numbers → are_comparable t u ≡ same → Promises Known (ordered comparison (Value t z v p) (Value u y w q) site span)
      by true same e e1 = rw e tt
      by false true e e1 = rw (e, e1) (needs_promises Known (are_related t v u w) E26 span (number (core.Order comparison v w site)) (λ yes. tt))
      by false false e e1 = rw (e, e1) tt

  summed_known : (s : Scope) (direction : Direction) (a b : Typed) (site : Site) (span : Span) → Known a → Promises Known (summed s direction a b site span)
  summed_known s direction (Value Int zero v place) b site span h = numbers_known (Value Int zero v place) b span (λ x y. core.Arithmetic (operator_along direction) x y site)
  summed_known s direction (Value Char zero v place) b site span h = numbers_known (Value Char zero v place) b span (λ x y. core.Arithmetic (operator_along direction) x y site)
  summed_known s direction (Value (Struct n) zero v place) b site span h = tt
  summed_known s direction (Value (Pointer m k t) zero v place) b site span h = number_of_known b span _ (λ w. h)
  summed_known s direction (AStruct n place) b site span h = tt

  sum_known : (s : Scope) (direction : Direction) (a b : Typed) (site : Site) (span : Span) → Known a → Promises Known (sum_typed s direction a b site span)
  sum_known s direction a b site span h =
      needs_promises Known (not (is_single_value a || is_single_value b)) E19 span _
      (λ x. needs_promises Known (not (lacks_bounds a || lacks_bounds b)) E18 span _ (λ y. summed_known s direction a b site span h))

  binary_known : (s : Scope) (operator : BinaryOperator) (a b : Typed) (site : Site) (span : Span) → Known a → Promises Known (binary_typed s operator a b site span)
  binary_known s binary.Or a b site span h = scalars_known a b span _
  binary_known s binary.And a b site span h = scalars_known a b span _
  binary_known s binary.BitOr a b site span h = numbers_known a b span _
  binary_known s binary.BitXor a b site span h = numbers_known a b span _
  binary_known s binary.BitAnd a b site span h = numbers_known a b span _
  binary_known s binary.Equal a b site span h = equal_known a b span (λ v. v)
  binary_known s binary.NotEqual a b site span h = equal_known a b span (λ v. core.Not (zero_test a b v))
  binary_known s binary.Less a b site span h = ordered_known _ a b site span
  binary_known s binary.LessEqual a b site span h = ordered_known _ a b site span
  binary_known s binary.Greater a b site span h = ordered_known _ a b site span
  binary_known s binary.GreaterEqual a b site span h = ordered_known _ a b site span
  binary_known s binary.ShiftLeft a b site span h = numbers_known a b span _
  binary_known s binary.ShiftRight a b site span h = numbers_known a b span _
  binary_known s binary.Add a b site span h = sum_known s directions.Forward a b site span h
  binary_known s binary.Subtract a b site span h = sum_known s directions.Backward a b site span h
  binary_known s binary.Multiply a b site span h = numbers_known a b span _
  binary_known s binary.Divide a b site span h = numbers_known a b span _
  binary_known s binary.Remainder a b site span h = numbers_known a b span _

  element_known : (t : CType) (v w : core.Expression) (site : Site) (span : Span) → IsKnown structs t → Promises Known (element_at t v w site span)
  element_known Int v w site span h = tt
  element_known Char v w site span h = tt
  element_known (Struct n) v w site span h = tt
  element_known (Pointer m kinds.One t) v w site span h = tt
  element_known (Pointer m kinds.Array t) v w site span h = with_elements_known v span _ (at_place_known t (core.Through v (core.Element w false) 0 site) h.1)
  element_known (Pointer m kinds.Nt t) v w site span h = with_elements_known v span _ (at_place_known t (core.Through v (core.Element w true) 0 site) h.1)

  indexed_known : (a b : Typed) (site : Site) (span : Span) → Known a → Promises Known (indexed a b site span)
  indexed_known (Value t z v p) (Value u y w q) site span h = needs_promises Known (is_pointer t && is_number u) E13 span (element_at t v w site span) (λ x. element_known t v w site span h)
  indexed_known (Value t z v p) (AStruct n q) site span h = tt
  indexed_known (AStruct n p) b site span h = tt

  -- ---- calls

  call_known : (callee : Callee) (result : Option CType) (bounds : Option Bounds) (values : core.Arguments) (site : Site) → IsKnownResult structs result → IsKnownCall structs (call_of structs result bounds callee values site)
  call_known callee None bounds values site h = tt
  call_known callee (Some t) bounds values site h = h

  writes_known : (of : core.Expression → core.Statement) (arguments : List (Typed × Span)) (span : Span) → Promises (IsKnownCall structs) (writes of arguments span)
  writes_known of arguments span =
      needs_promises (IsKnownCall structs) (length arguments == 1) E14 span _
      (λ one. passing_promises (λ (values : core.Arguments). Unit {0}) (IsKnownCall structs) (arguments_as arguments (Int ∷ [])) _ (anything_promised (arguments_as arguments (Int ∷ []))) (λ values _. tt))

  length_known : (a : Typed) (site : Site) (span : Span) → Promises (IsKnownCall structs) (length_typed a site span)
  length_known (Value type zero value place) site span =
      needs_promises (IsKnownCall structs) (is_text type && is_some (bounds_of value)) E13 span (Passes (Gives Int (core.Length value site))) (λ text. tt)
  length_known (AStruct number place) site span = tt

  measures_known : (arguments : List (Typed × Span)) (site : Site) (span : Span) → Promises (IsKnownCall structs) (measures arguments site span)
  measures_known [] site span = tt
  measures_known (argument ∷ arguments) site span =
      needs_promises (IsKnownCall structs) (length (argument ∷ arguments) == 1) E14 span _ (λ one. convertible_promises (IsKnownCall structs) argument.0 text_pointer argument.1 (length_typed argument.0 site span) (length_known argument.0 site span))

  predefined_known : (given : Given) (name : ℕ) (arguments : List (Typed × Span)) (site : Site) (span : Span) → Promises (IsKnownCall structs) (predefined_call given name arguments site span)
  predefined_known given name arguments site span = by (name == given.next_input) (name == given.print_int) (name == given.putchar) (name == given.strlen) refl refl refl refl
    where
      by : (input print put measure : Bool) → (name == given.next_input) ≡ input → (name == given.print_int) ≡ print → (name == given.putchar) ≡ put → (name == given.strlen) ≡ measure
          → Promises (IsKnownCall structs) (predefined_call given name arguments site span)
      by true print put measure e e1 e2 e3 = rw e (needs_promises (IsKnownCall structs) (length arguments == 0) E14 span (Passes (Gives Int core.NextInput)) (λ none. tt))
      by false true put measure e e1 e2 e3 = rw (e, e1) (writes_known core.Print arguments span)
      by false false true measure e e1 e2 e3 = rw (e, e1, e2) (writes_known core.PutByte arguments span)
      by false false false true e e1 e2 e3 = rw (e, e1, e2, e3) (measures_known arguments site span)
      by false false false false e e1 e2 e3 = rw (e, e1, e2, e3) tt

  with_result_known : (c : Called) (span : Span) → IsKnownCall structs c → Promises Known (with_result c span)
  with_result_known (Gives type value) span h = h
  with_result_known (GivesNothing call) span h = tt

  -- ---- members

  picked_known : (test : Bool) (first second : Option (ℕ × CType)) → IfKnownMember structs first → IfKnownMember structs second → IfKnownMember structs (picked test first second)
  picked_known true first second h h' = h
  picked_known false first second h h' = h'

  member_known : (number : ℕ) (names : List ℕ) (members : List Member) (name : ℕ) → AllByRecursion (λ (m : Member). IsKnown structs m.ctype) members → IfKnownMember structs (member_from number names members name)
  member_known number [] members name all = tt
  member_known number (other ∷ names) [] name all = tt
  member_known number (other ∷ names) (m ∷ members) name all = picked_known (name == other) (Some (number, m.ctype)) (member_from (suc number) names members name) all.0 (member_known (suc number) names members name all.1)

-- notes leave the type
bounded_known : (s : Scope) (site : Site) (v : Verdict Typed) → Promises (IsKnownTyped s.structs) v → Promises (IsKnownTyped s.structs) (bounded s site v)
bounded_known s site (Passes (Value type zero value place)) h = h
bounded_known s site (Passes (AStruct number place)) h = h
bounded_known s site (Stops stop) h = tt

in_cell_known : (s : Scope) (site : Site) (v : Verdict Typed) → Promises (IsKnownTyped s.structs) v → Promises (IsKnownTyped s.structs) (in_cell s site v)
in_cell_known s site (Passes t) h = cell_known s.structs s site t h
in_cell_known s site (Stops stop) h = tt

module _ (s : Scope) (closed : IsClosed s) where
  named_known : (name : ℕ) → Promises (IsKnownNamed s.structs) (named s name)
  named_known name =
      let locals = local_named s.locals s.visible name in
      let objects = object_named 0 s.variables name in
      meant_known s.structs (or_else locals (or_else objects (null_named s.given name))) (either_known s.structs locals (or_else objects (null_named s.given name)) (locals_known s.structs s.locals closed.of_locals s.visible name)
      (either_known s.structs objects (null_named s.given name) (objects_known s.structs 0 s.variables name closed.of_variables) (found_known s.structs (name == s.given.null) (Some Nothing) None tt tt)))

  member_at_known : (n : ℕ) (p : core.Place) (name : ℕ) (site : Site) (span : Span) → Promises (IsKnownTyped s.structs) (member_at s n p name site span)
  member_at_known n p name site span = by (member_from 0 (members_named s n) (members_of s.structs n) name) refl (member_known s.structs 0 (members_named s n) (members_of s.structs n) name (closed.of_members n))
    where
      by : (o : Option (ℕ × CType)) → member_from 0 (members_named s n) (members_of s.structs n) name ≡ o → IfKnownMember s.structs (member_from 0 (members_named s n) (members_of s.structs n) name) → Promises (IsKnownTyped s.structs) (member_at s n p name site span)
      by None found h = rw found tt
      by (Some m) found h = let there : IsKnown s.structs m.1 = rw found at h in rw found (at_place_known s.structs m.1 _ there)

  dotted_known : (a : Typed) (name : ℕ) (site : Site) (span : Span) → Promises (IsKnownTyped s.structs) (dotted s a name site span)
  dotted_known (Value type zero value place) name site span = tt
  dotted_known (AStruct n place) name site span = member_at_known n _ name site span

  arrowed_known : (a : Typed) (name : ℕ) (site : Site) (span : Span) → Promises (IsKnownTyped s.structs) (arrowed s a name site span)
  arrowed_known (AStruct n place) name site span = tt
  arrowed_known (Value type zero value place) name site span = by type
    where
      by : (type : CType) → Promises (IsKnownTyped s.structs) (pointed_by s type value name site span)
      by Int = tt
      by Char = tt
      by (Struct n) = tt
      by (Pointer m kinds.One Int) = tt
      by (Pointer m kinds.One Char) = tt
      by (Pointer m kinds.One (Pointer m' k' t)) = tt
      by (Pointer m kinds.One (Struct n)) = member_at_known n (core.Through value core.First 0 site) name site span
      by (Pointer m kinds.Array Int) = tt
      by (Pointer m kinds.Array Char) = tt
      by (Pointer m kinds.Array (Pointer m' k' t)) = tt
      by (Pointer m kinds.Array (Struct n)) =
          passing_promises (IsKnownTyped s.structs) (IsKnownTyped s.structs) (member_at s n (first_element value site) name site span) _
          (member_at_known n (first_element value site) name site span) (λ t h. with_elements_known s.structs value span t h)
      by (Pointer m kinds.Nt t) = tt

  called_known : (o : Option Signature) (name : ℕ) (arguments : List (Typed × Span)) (site : Site) (span : Span) → function_named s.functions name ≡ o → Promises (IsKnownCall s.structs) (called s o name arguments site span)
  called_known None name arguments site span e = predefined_known s.structs s.given name arguments site span
  called_known (Some f) name arguments site span e =
      needs_promises (IsKnownCall s.structs) (length f.parameters == length arguments) E14 span _
      (λ many. crossing_promises (IsKnownCall s.structs) (is_import f) arguments _
      (passing_promises (λ (values : core.Arguments). Unit {0}) (IsKnownCall s.structs) (arguments_as arguments f.parameters) _ (anything_promised (arguments_as arguments f.parameters))
      (λ values _. all_met_promise (IsKnownCall s.structs) s.flow _ _ arguments f.parameters f.bounds _ (call_known s.structs (declared_callee s f site) f.result _ values site (named_has (λ (x : Signature). IsKnownResult s.structs x.result) s.functions name f closed.of_functions e)))))

  cast_known : (word : CastWord) (t : CType) (a : Typed) (written : WrittenBounds) (site : Site) (span : Span) → IsKnown s.structs t → Promises (IsKnownTyped s.structs) (cast_typed word s t a written site span)
  cast_known word t a written site span known = cast_promises (IsKnownTyped s.structs) word s t a written site span (of_any _ a (λ type value casts. known))

  pub typed_known : (at : Places) (x : Expression) → Promises (IsKnownTyped s.structs) (typed at s x)
  typed_known at (e.Number value span) = needs_promises (IsKnownTyped s.structs) (nat_lt value (2 ^ 31)) E04 span _ (λ low. tt)
  typed_known at (e.Character value span) = needs_promises (IsKnownTyped s.structs) (nat_lt value (2 ^ 31)) E04 span _ (λ low. tt)
  typed_known at (e.Text bytes span) = any_text (IsKnownTyped s.structs) s.structs (text_at s.strings span.from) (site_at at span) span (λ t. (refl, tt))
  typed_known at (e.Name name) =
      bounded_known s (site_at at name.span) (passing (named s name.number) (λ n. Passes (name_typed s n (site_at at name.span))))
      (passing_promises (IsKnownNamed s.structs) (IsKnownTyped s.structs) (named s name.number) _ (named_known name.number) (name_known s.structs s (site_at at name.span)))
  typed_known at (e.Call callee arguments span) =
      passing_promises (λ (ts : List (Typed × Span)). Unit {0}) (IsKnownTyped s.structs) (all_typed at s arguments) _ (anything_promised (all_typed at s arguments))
      (λ ts _. passing_promises (IsKnownCall s.structs) (IsKnownTyped s.structs) (called s (function_named s.functions callee.number) callee.number ts (site_at at span) span) _
      (called_known (function_named s.functions callee.number) callee.number ts (site_at at span) span refl) (λ c. with_result_known s.structs c span))
  typed_known at (e.SizeOf type span) = passing_promises (λ (t : CType). Unit {0}) (IsKnownTyped s.structs) (type_named s type) _ (anything_promised (type_named s type)) (λ t _. tt)
  typed_known at (e.Cast word type operand span) =
      passing_promises (IsKnown s.structs) (IsKnownTyped s.structs) (type_named s type) _ (type_known s closed.tagged type) (λ t known. passing_any (IsKnownTyped s.structs) (typed at s operand) _
      (λ a. cast_known word t a None (site_at at span) span known))
  typed_known at (e.BoundedCast word type operand bounds span) =
      passing_promises (IsKnown s.structs) (IsKnownTyped s.structs) (type_named s type) _ (type_known s closed.tagged type) (λ t known. passing_any (IsKnownTyped s.structs) (typed at s operand) _
      (λ a. passing_any (IsKnownTyped s.structs) (cast_bounds s t bounds) _ (λ written. cast_known word t a written (site_at at span) span known)))
  typed_known at (e.Malloc word type size span) =
      passing_promises (IsKnown s.structs) (IsKnownTyped s.structs) (type_named s type) _ (type_known s closed.tagged type) (λ t known. passing_any (IsKnownTyped s.structs) (typed at s size) _
      (λ a. malloc_promises (IsKnownTyped s.structs) s t (site_at at span) span word size a (of_any _ a (λ type value number count is bytes. (refl, known)))))
  typed_known at (e.Calloc word type count size span) =
      passing_promises (IsKnown s.structs) (IsKnownTyped s.structs) (type_named s type) _ (type_known s closed.tagged type) (λ t known. passing_any (IsKnownTyped s.structs) (typed at s count) _
      (λ a. passing_any (IsKnownTyped s.structs) (typed at s size) _ (λ b. calloc_promises (IsKnownTyped s.structs) s t (site_at at span) span word a size (of_any _ a (λ type value number ended may. (may_lead s.structs t ended may, known))))))
  typed_known at (e.Index base index span) =
      in_cell_known s (site_at at span) (passing (typed at s base) (λ a. passing (typed at s index) (λ b. indexed a b (site_at at span) span)))
      (passing_promises (IsKnownTyped s.structs) (IsKnownTyped s.structs) (typed at s base) _ (typed_known at base)
      (λ a h. passing_promises (λ (t : Typed). Unit {0}) (IsKnownTyped s.structs) (typed at s index) _ (anything_promised (typed at s index)) (λ b _. indexed_known s.structs a b (site_at at span) span h)))
  typed_known at (e.Dot base member span) =
      in_cell_known s (site_at at span) (passing (typed at s base) (λ a. dotted s a member.number (site_at at span) span)) (passing_promises (λ (t : Typed). Unit {0}) (IsKnownTyped s.structs) (typed at s base) _ (anything_promised (typed at s base)) (λ a _. dotted_known a member.number (site_at at span) span))
  typed_known at (e.Arrow base member span) =
      in_cell_known s (site_at at span) (passing (typed at s base) (λ a. arrowed s a member.number (site_at at span) span)) (passing_promises (λ (t : Typed). Unit {0}) (IsKnownTyped s.structs) (typed at s base) _ (anything_promised (typed at s base)) (λ a _. arrowed_known a member.number (site_at at span) span))
  typed_known at (e.Unary operator operand span) =
      in_cell_known s (site_at at span) (passing (typed at s operand) (λ a. unary_typed operator a (site_at at span) span)) (passing_promises (IsKnownTyped s.structs) (IsKnownTyped s.structs) (typed at s operand) _ (typed_known at operand) (λ a h. unary_known s.structs operator a (site_at at span) span h))
  typed_known at (e.Binary operator left right span) =
      passing_promises (IsKnownTyped s.structs) (IsKnownTyped s.structs) (typed at s left) _ (typed_known at left)
      (λ a h. passing_promises (λ (t : Typed). Unit {0}) (IsKnownTyped s.structs) (typed at (beside operator a s) right) _ (anything_promised (typed at (beside operator a s) right)) (λ b _. binary_known s.structs s operator a b (site_at at span) span h))
