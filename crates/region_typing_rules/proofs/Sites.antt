-- The sites of the expressions of a core are starts of those of the tree that they come from.
use Rattle.std.proofs.Common.{◌≡◌, inl, inr, ℕ, ◌^◌, Bool, true, false, List, [], ◌∷◌, length, Option, Some, None, refl, subst}
use Rattle.std.specs.Prelude.{◌==◌, nat_lt, ◌&&◌, is_some}
use Rattle.ckc_text.specs.declared.place.Span.{Span}
use Rattle.ckc_text.specs.declared.code.Code.TheVariants.{E04, E13, E14, E26}
use Rattle.ckc_tree.specs.declared.expr.CastWord.{CastWord}
use Rattle.ckc_tree.specs.declared.expr.MallocWord.{MallocWord}
use Rattle.ckc_tree.specs.declared.expr.CallocWord.{CallocWord}
use Rattle.ckc_tree.specs.declared.expr.UnaryOperator.{UnaryOperator}
use Rattle.ckc_tree.specs.declared.expr.UnaryOperator.TheVariants as unary
use Rattle.ckc_tree.specs.declared.expr.BinaryOperator.{BinaryOperator}
use Rattle.ckc_tree.specs.declared.expr.BinaryOperator.TheVariants as binary
use Rattle.ckc_tree.specs.Expressions as e
use Rattle.ckc_tree.specs.Expressions.{Expression, Expressions}
use Rattle.bounds_exprs.specs.declared.term.Bounds.{Bounds}
use Rattle.bounds_exprs.specs.declared.term.Term.{Term}
use Rattle.bounds_flow.specs.Flows.{Knowledge}
use Rattle.pointer_modes.specs.declared.ctype.Kind.{Kind}
use Rattle.pointer_modes.specs.declared.ctype.Kind.TheVariants as kinds
use Rattle.pointer_modes.specs.declared.ctype.Mode.{Mode}
use Rattle.pointer_modes.specs.declared.ctype.Mode.TheVariants as modes
use Rattle.pointer_modes.specs.Types.{CType, Int, Char, Struct, Pointer, Structure, members_of}
use Rattle.pointer_modes.specs.Layout.{cells_of, size_of}
use Rattle.act_words.specs.declared.operator.Operator.{Operator}
use Rattle.act_words.specs.declared.operator.ArithmeticOperator.TheVariants as arithmetics
use Rattle.act_words.specs.declared.operator.BitwiseOperator.TheVariants as bits
use Rattle.act_words.specs.declared.operator.Operator.TheVariants as operators
use Rattle.act_words.specs.declared.operator.Comparison.{Comparison}
use Rattle.act_words.specs.declared.operator.Comparison.TheVariants as comparisons
use Rattle.ckc_core.specs.declared.program.Callee.{Callee}
use Rattle.ckc_core.specs.declared.program.Direction.{Direction}
use Rattle.ckc_core.specs.declared.program.Direction.TheVariants as directions
use Rattle.ckc_core.specs.declared.program.PointerBounds.{PointerBounds}
use Rattle.ckc_core.specs.declared.program.Site.{Site}
use Rattle.ckc_core.specs.Core as core
use Rattle.ckc_core.specs.Meaning.{bounds_of}
use Rattle.ckc_core.specs.Sites.{BoundsSites, CalleeSites, ExpressionSites, ArgumentsSites, PlaceSites, StatementSites}
use Rattle.ckc_names_rules.specs.declared.given.Given.{Given}
use Rattle.region_typing_rules.specs.Verdicts.{Verdict, Passes, passing, picked}
use Rattle.region_typing_rules.specs.Scopes.{Scope, Signature, WrittenBounds, Named, Local, Object, Array, Nothing, named, function_named, members_named, bounds_in}
use Rattle.region_typing_rules.specs.Types.{type_named, is_number, is_pointer, are_comparable, converts}
use Rattle.region_typing_rules.specs.Operands.{Places, Lvalue, OfLocal, OfCell, OfBounded, OfUnknown, Standing, ForNothing, ForArray, For, Typed, Value, AStruct, Called, Gives, GivesNothing, site_at, bounds_by, bounds_at, noted, noted_if, with_bounds, in_cell_by, cell_bounds, with_cell_bounds, at_site, sum_node, bounded, in_cell, plain, number, at_place, in_force, local_typed, name_typed, object_typed, member_place, struct_place, member_from, offset_among, member_at, dotted, first_element, first_or_end, pointed_by, arrowed, pointed_at, dereferenced, checked_at, address, number_of, scalar_of, unary_typed, two_numbers, two_scalars, operator_along, summed, as_pointer, equated_values, equated, is_ended_element, zero_test, are_related, ordered_values, ordered, arithmetic, binary_typed, beside, element_at, indexed, in_type, converted, is_array, local_standing}
use Rattle.region_typing_rules.specs.Strings.{text_at}
use Rattle.region_typing_rules.specs.Calls.{arguments_as, is_import, call_bounds, call_of, callee_of, side_number, declared_callee, first_of, writes, is_text, length_typed, text_pointer, measures, predefined_call, called, with_result}
use Rattle.region_typing_rules.specs.NewMemory.{row_counted, malloc_typed, calloc_typed, cast_typed, cast_bounds}
use Rattle.region_typing_rules.specs.Expressions.{typed, all_typed, call_typed}
use Rattle.region_typing_rules.specs.CheckPlaces.{InExpression, InExpressions}
use Rattle.region_typing_rules.proofs.Knowledge.{crossing_promises}
use Rattle.region_typing_rules.proofs.Kept.{passing_any}
use Rattle.region_typing_rules.proofs.Memory.{IsCount, OfBytes, OfOne, OfLeft, OfRight, malloc_promises, calloc_promises, cast_promises}
use Rattle.region_typing_rules.proofs.Verdicts.{Promises, passing_promises, needs_promises, convertible_promises, anything_promised, elements_promise, apart_promises, all_met_promise}
use Rattle.region_typing_rules.proofs.TextBlocks.{any_text}

module _ (P : Site → Type 0) where
  -- ---- what an expression is has these sites

  abbrev pub LvalueSites : Lvalue → Type 0
  LvalueSites (OfLocal k) = Unit {0}
  LvalueSites (OfCell p) = PlaceSites P p
  LvalueSites (OfBounded k b) = Unit {0}
  LvalueSites (OfUnknown k) = Unit {0}

  abbrev pub StandingSites : Standing → Type 0
  StandingSites ForNothing = Unit {0}
  StandingSites ForArray = Unit {0}
  StandingSites (For place) = LvalueSites place

  abbrev pub TypedSites : Typed → Type 0
  TypedSites (Value type zero value place) = ExpressionSites P value × StandingSites place
  TypedSites (AStruct number place) = LvalueSites place

  abbrev pub CalledSites : Called → Type 0
  CalledSites (Gives type value) = ExpressionSites P value
  CalledSites (GivesNothing call) = StatementSites P call

  -- ---- bounds

  noted_sites : (b : Option PointerBounds) (v : core.Expression) → BoundsSites P b → ExpressionSites P v → ExpressionSites P (noted b v)
  noted_sites b (core.Number number) hb h = h
  noted_sites b core.Null hb h = h
  noted_sites b (core.Local local bounds) hb h = hb
  noted_sites b (core.Load type place bounds) hb h = (h.0, hb)
  noted_sites b (core.AddressOf place bounds) hb h = (h.0, hb)
  noted_sites b (core.Negate operand site) hb h = h
  noted_sites b (core.Complement operand) hb h = h
  noted_sites b (core.Not operand) hb h = h
  noted_sites b (core.Arithmetic operator left right site) hb h = h
  noted_sites b (core.Compare comparison left right) hb h = h
  noted_sites b (core.Same left right) hb h = h
  noted_sites b (core.AndAlso left right) hb h = h
  noted_sites b (core.OrElse left right) hb h = h
  noted_sites b (core.LowByte operand) hb h = h
  noted_sites b (core.Call callee arguments bounds) hb h = (h.0, h.1, hb)
  noted_sites b core.NextInput hb h = h
  noted_sites b (core.Sum pointer direction number site bounds) hb h = (h.0, h.1, h.2, hb)
  noted_sites b (core.Order comparison left right site) hb h = h
  noted_sites b (core.Allocate count element terminator bounds) hb h = (h.0, hb)
  noted_sites b (core.Length pointer site) hb h = h
  noted_sites b (core.Cast pointer bounds) hb h = (h.0, hb)

  noted_if_sites : (b : Option PointerBounds) (v : core.Expression) → BoundsSites P b → ExpressionSites P v → ExpressionSites P (noted_if b v)
  noted_if_sites None v hb h = h
  noted_if_sites (Some p) v hb h = noted_sites (Some p) v hb h

  -- the bounds at a node are named as the node is
  bounds_by_sites : (m : Mode) (k : Kind) (p : PointerBounds) → P p.site → BoundsSites P (bounds_by m k p)
  bounds_by_sites modes.Checked kinds.One p h = h
  bounds_by_sites modes.Checked kinds.Array p h = tt
  bounds_by_sites modes.Checked kinds.Nt p h = tt
  bounds_by_sites modes.Tainted k p h = tt
  bounds_by_sites modes.Raw k p h = tt

  pub bounds_at_sites : (structs : List Structure) (t : CType) (site : Site) → P site → BoundsSites P (bounds_at structs t site)
  bounds_at_sites structs Int site h = tt
  bounds_at_sites structs Char site h = tt
  bounds_at_sites structs (Struct number) site h = tt
  bounds_at_sites structs (Pointer m k t) site h = bounds_by_sites m k _ h

  in_cell_by_sites : (m : Mode) (k : Kind) (ended : PointerBounds) (other : Option PointerBounds) → P ended.site → BoundsSites P other → BoundsSites P (in_cell_by m k ended other)
  in_cell_by_sites modes.Checked kinds.Nt ended other h ho = h
  in_cell_by_sites modes.Checked kinds.One ended other h ho = ho
  in_cell_by_sites modes.Checked kinds.Array ended other h ho = ho
  in_cell_by_sites modes.Tainted k ended other h ho = ho
  in_cell_by_sites modes.Raw k ended other h ho = ho

  cell_bounds_sites : (structs : List Structure) (t : CType) (site : Site) → P site → BoundsSites P (cell_bounds structs t site)
  cell_bounds_sites structs Int site h = tt
  cell_bounds_sites structs Char site h = tt
  cell_bounds_sites structs (Struct number) site h = tt
  cell_bounds_sites structs (Pointer m k t) site h = in_cell_by_sites m k _ (bounds_at structs (Pointer m k t) site) h (bounds_at_sites structs (Pointer m k t) site h)

  with_bounds_sites : (s : Scope) (site : Site) (t : Typed) → P site → TypedSites t → TypedSites (with_bounds s.structs site t)
  with_bounds_sites s site (Value type zero value place) hs h = (noted_if_sites (bounds_at s.structs type site) value (bounds_at_sites s.structs type site hs) h.0, h.1)
  with_bounds_sites s site (AStruct number place) hs h = h

  with_cell_bounds_sites : (structs : List Structure) (site : Site) (t : Typed) → P site → TypedSites t → TypedSites (with_cell_bounds structs site t)
  with_cell_bounds_sites structs site (Value type zero value place) hs h = (noted_if_sites (cell_bounds structs type site) value (cell_bounds_sites structs type site hs) h.0, h.1)
  with_cell_bounds_sites structs site (AStruct number place) hs h = h

  in_cell_sites : (s : Scope) (site : Site) (v : Verdict Typed) → P site → Promises TypedSites v → Promises TypedSites (in_cell s site v)
  in_cell_sites s site v hs h = passing_promises TypedSites TypedSites v _ h (λ t ht. with_cell_bounds_sites s.structs site t hs ht)

  bounded_sites : (s : Scope) (site : Site) (v : Verdict Typed) → P site → Promises TypedSites v → Promises TypedSites (bounded s site v)
  bounded_sites s site v hs h = passing_promises TypedSites TypedSites v _ h (λ t ht. with_bounds_sites s site t hs ht)

  in_force_sites : (structs : List Structure) (k : Kind) (t : CType) (b : Option Bounds) (site : Site) → P site → BoundsSites P (in_force structs k t b site)
  in_force_sites structs kinds.Array t (Some b) site h = by (nat_lt 0 (size_of structs t))
    where
      by : (test : Bool) → BoundsSites P (picked test (Some (record { bounds = b; size = size_of structs t; terminated = false; site = site })) None)
      by true = h
      by false = tt
  in_force_sites structs kinds.Array t None site h = tt
  in_force_sites structs kinds.One t b site h = tt
  in_force_sites structs kinds.Nt t (Some b) site h = h
  in_force_sites structs kinds.Nt t None site h = tt

  -- ---- places

  at_place_sites : (t : CType) (p : core.Place) → PlaceSites P p → TypedSites (at_place t p)
  at_place_sites Int p h = ((h, tt), h)
  at_place_sites Char p h = ((h, tt), h)
  at_place_sites (Struct number) p h = h
  at_place_sites (Pointer m k t) p h = ((h, tt), h)

  standing_sites : (k : ℕ) (array : Bool) → StandingSites (local_standing array k)
  standing_sites k true = tt
  standing_sites k false = tt

  local_sites : (structs : List Structure) (f : Knowledge) (k : ℕ) (t : CType) (array : Bool) (site : Site) → P site → TypedSites (local_typed structs f k t array site)
  local_sites structs f k Int array site h = (tt, standing_sites k array)
  local_sites structs f k Char array site h = (tt, standing_sites k array)
  local_sites structs f k (Struct number) array site h = tt
  local_sites structs f k (Pointer m d t) array site h = (in_force_sites structs d t _ site h, standing_sites k array)

  object_sites : (structs : List Structure) (k : ℕ) (t : CType) (bounds : WrittenBounds) (site : Site) → P site → TypedSites (object_typed structs k t bounds site)
  object_sites structs k t None site h = with_cell_bounds_sites structs site (at_place t (core.Direct k 0)) h (at_place_sites t (core.Direct k 0) tt)
  object_sites structs k Int (Some None) site h = ((tt, tt), tt)
  object_sites structs k Char (Some None) site h = ((tt, tt), tt)
  object_sites structs k (Struct number) (Some None) site h = tt
  object_sites structs k (Pointer m kinds.One t) (Some None) site h = ((tt, tt), tt)
  object_sites structs k (Pointer m kinds.Array t) (Some None) site h = ((tt, tt), tt)
  object_sites structs k (Pointer m kinds.Nt t) (Some None) site h = ((tt, tt), tt)
  object_sites structs k Int (Some (Some b)) site h = ((tt, tt), tt)
  object_sites structs k Char (Some (Some b)) site h = ((tt, tt), tt)
  object_sites structs k (Struct number) (Some (Some b)) site h = tt
  object_sites structs k (Pointer m d t) (Some (Some b)) site h = ((tt, in_force_sites structs d t (Some b) site h), tt)

  name_sites : (s : Scope) (x : Named) (site : Site) → P site → TypedSites (name_typed s x site)
  name_sites s (Local k t) site h = local_sites s.structs s.flow k t (is_array s.arrays k) site h
  name_sites s (Object k t b) site h = object_sites s.structs k t b site h
  name_sites s (Array k t length false) site h = ((tt, h), tt)
  name_sites s (Array k t length true) site h = ((tt, h), tt)
  name_sites s Nothing site h = (tt, tt)

  member_place_sites : (p : core.Place) (offset : ℕ) (site : Site) → P site → PlaceSites P p → PlaceSites P (member_place p offset site)
  member_place_sites (core.Direct object first) offset site hs h = tt
  member_place_sites (core.Through pointer index first before) offset site hs h = (h.0, h.1, hs)

  checked_at_sites : (p : core.Place) (site : Site) → P site → PlaceSites P p → PlaceSites P (checked_at p site)
  checked_at_sites (core.Direct object offset) site hs h = tt
  checked_at_sites (core.Through pointer core.First offset before) site hs h = (h.0, tt, hs)
  checked_at_sites (core.Through pointer (core.Element number terminated) offset before) site hs h = (h.0, h.1, hs)

  address_sites : (a : Typed) (site : Site) (span : Span) → P site → TypedSites a → Promises TypedSites (address a site span)
  address_sites (Value type zero value ForNothing) site span hs h = tt
  address_sites (Value type zero value ForArray) site span hs h = tt
  address_sites (Value type zero value (For (OfLocal k))) site span hs h = tt
  address_sites (Value type zero value (For (OfCell p))) site span hs h = ((checked_at_sites p site hs h.1, tt), tt)
  address_sites (Value type zero value (For (OfBounded k b))) site span hs h = tt
  address_sites (Value type zero value (For (OfUnknown k))) site span hs h = tt
  address_sites (AStruct number (OfLocal k)) site span hs h = tt
  address_sites (AStruct number (OfCell p)) site span hs h = ((checked_at_sites p site hs h, tt), tt)
  address_sites (AStruct number (OfBounded k b)) site span hs h = tt
  address_sites (AStruct number (OfUnknown k)) site span hs h = tt

  pointed_sites : (t : CType) (value : core.Expression) (site : Site) (span : Span) → P site → ExpressionSites P value → Promises TypedSites (pointed_at t value site span)
  pointed_sites Int value site span hs h = tt
  pointed_sites Char value site span hs h = tt
  pointed_sites (Struct number) value site span hs h = tt
  pointed_sites (Pointer m kinds.One t) value site span hs h = at_place_sites t (core.Through value core.First 0 site) (h, tt, hs)
  pointed_sites (Pointer m kinds.Array t) value site span hs h = elements_promise TypedSites value span _ (at_place_sites t (first_element value site) (h, tt, hs))
  pointed_sites (Pointer m kinds.Nt t) value site span hs h = elements_promise TypedSites value span _ (at_place_sites t (first_or_end value site) (h, tt, hs))

  dereferenced_sites : (a : Typed) (site : Site) (span : Span) → P site → TypedSites a → Promises TypedSites (dereferenced a site span)
  dereferenced_sites (Value type zero value place) site span hs h = pointed_sites type value site span hs h.0
  dereferenced_sites (AStruct number place) site span hs h = tt

  member_at_sites : (s : Scope) (struct : ℕ) (p : core.Place) (name : ℕ) (site : Site) (span : Span) → P site → PlaceSites P p → Promises TypedSites (member_at s struct p name site span)
  member_at_sites s struct p name site span hs h = by (member_from 0 (members_named s struct) (members_of s.structs struct) name) refl
    where
      by : (o : Option (ℕ × CType)) → member_from 0 (members_named s struct) (members_of s.structs struct) name ≡ o → Promises TypedSites (member_at s struct p name site span)
      by None found = rw found tt
      by (Some m) found =
          let offset = offset_among (cells_of s.structs (Struct struct)) m.0 in
          rw found (at_place_sites m.1 (member_place p offset site) (member_place_sites p offset site hs h))

  struct_place_sites : (place : Lvalue) (site : Site) → P site → LvalueSites place → PlaceSites P (struct_place place site)
  struct_place_sites (OfLocal k) site hs h = (tt, tt, hs)
  struct_place_sites (OfCell p) site hs h = h
  struct_place_sites (OfBounded k b) site hs h = tt
  struct_place_sites (OfUnknown k) site hs h = tt

  dotted_sites : (s : Scope) (a : Typed) (name : ℕ) (site : Site) (span : Span) → P site → TypedSites a → Promises TypedSites (dotted s a name site span)
  dotted_sites s (Value type zero value place) name site span hs h = tt
  dotted_sites s (AStruct number place) name site span hs h = member_at_sites s number (struct_place place site) name site span hs (struct_place_sites place site hs h)

  pointed_by_sites : (s : Scope) (t : CType) (value : core.Expression) (name : ℕ) (site : Site) (span : Span) → P site → ExpressionSites P value → Promises TypedSites (pointed_by s t value name site span)
  pointed_by_sites s Int value name site span hs h = tt
  pointed_by_sites s Char value name site span hs h = tt
  pointed_by_sites s (Struct number) value name site span hs h = tt
  pointed_by_sites s (Pointer m kinds.One Int) value name site span hs h = tt
  pointed_by_sites s (Pointer m kinds.One Char) value name site span hs h = tt
  pointed_by_sites s (Pointer m kinds.One (Pointer m' k' t)) value name site span hs h = tt
  pointed_by_sites s (Pointer m kinds.One (Struct number)) value name site span hs h = member_at_sites s number (core.Through value core.First 0 site) name site span hs (h, tt, hs)
  pointed_by_sites s (Pointer m kinds.Array Int) value name site span hs h = tt
  pointed_by_sites s (Pointer m kinds.Array Char) value name site span hs h = tt
  pointed_by_sites s (Pointer m kinds.Array (Pointer m' k' t)) value name site span hs h = tt
  pointed_by_sites s (Pointer m kinds.Array (Struct number)) value name site span hs h =
      passing_promises TypedSites TypedSites (member_at s number (first_element value site) name site span) _ (member_at_sites s number (first_element value site) name site span hs (h, tt, hs))
      (λ t ht. elements_promise TypedSites value span (Passes t) ht)
  pointed_by_sites s (Pointer m kinds.Nt t) value name site span hs h = tt

  arrowed_sites : (s : Scope) (a : Typed) (name : ℕ) (site : Site) (span : Span) → P site → TypedSites a → Promises TypedSites (arrowed s a name site span)
  arrowed_sites s (Value type zero value place) name site span hs h = pointed_by_sites s type value name site span hs h.0
  arrowed_sites s (AStruct number place) name site span hs h = tt

  -- ---- operators

  pub number_of_sites : {A : Type 0} (Q : A → Type 0) (a : Typed) (span : Span) (next : core.Expression → Verdict A) → TypedSites a → ((v : core.Expression) → ExpressionSites P v → Promises Q (next v)) → Promises Q (number_of a span next)
  number_of_sites Q (Value type zero value place) span next h more = needs_promises Q (is_number type) E13 span (next value) (λ yes. more value h.0)
  number_of_sites Q (AStruct number place) span next h more = tt

  pub scalar_of_sites : {A : Type 0} (Q : A → Type 0) (a : Typed) (span : Span) (next : core.Expression → Verdict A) → TypedSites a → ((v : core.Expression) → ExpressionSites P v → Promises Q (next v)) → Promises Q (scalar_of a span next)
  scalar_of_sites Q (Value type zero value place) span next h more = more value h.0
  scalar_of_sites Q (AStruct number place) span next h more = tt

  unary_sites : (operator : UnaryOperator) (a : Typed) (site : Site) (span : Span) → P site → TypedSites a → Promises TypedSites (unary_typed operator a site span)
  unary_sites unary.Deref a site span hs h = dereferenced_sites a site span hs h
  unary_sites unary.AddressOf a site span hs h = address_sites a site span hs h
  unary_sites unary.Negate a site span hs h = number_of_sites TypedSites a span (λ v. number (core.Negate v site)) h (λ v hv. ((hv, hs), tt))
  unary_sites unary.Not a site span hs h = scalar_of_sites TypedSites a span (λ v. number (core.Not v)) h (λ v hv. (hv, tt))
  unary_sites unary.Complement a site span hs h = number_of_sites TypedSites a span (λ v. number (core.Complement v)) h (λ v hv. (hv, tt))

  pub two_sites : {A : Type 0} (Q : A → Type 0) (a b : Typed) (span : Span) (next : core.Expression → core.Expression → Verdict A) → TypedSites a → TypedSites b
      → ((v w : core.Expression) → ExpressionSites P v → ExpressionSites P w → Promises Q (next v w)) → Promises Q (two_numbers a b span next)
  two_sites Q a b span next ha hb more = number_of_sites Q a span _ ha (λ v hv. number_of_sites Q b span _ hb (λ w hw. more v w hv hw))

  pub at_site_sites : (site : Site) (p : Option PointerBounds) (b : Option Bounds) → P site → BoundsSites P (at_site site p b)
  at_site_sites site None b h = tt
  at_site_sites site (Some p) None h = tt
  at_site_sites site (Some p) (Some b) h = h

  module _ (a b : Typed) (span : Span) (ha : TypedSites a) (hb : TypedSites b) where
    arithmetic_sites : (operator : Operator) (site : Site) → P site → Promises TypedSites (two_numbers a b span (arithmetic operator site))
    arithmetic_sites operator site hs = two_sites TypedSites a b span (arithmetic operator site) ha hb (λ v w hv hw. ((hv, hw, hs), tt))

    truths_sites : (of : core.Expression → core.Expression → core.Expression) → ((v w : core.Expression) → ExpressionSites P v → ExpressionSites P w → ExpressionSites P (of v w)) → Promises TypedSites (two_scalars a b span (λ v w. number (of v w)))
    truths_sites of h = scalar_of_sites TypedSites a span _ ha (λ v hv. scalar_of_sites TypedSites b span _ hb (λ w hw. (h v w hv hw, tt)))

  summed_sites : (s : Scope) (direction : Direction) (a b : Typed) (site : Site) (span : Span) → P site → TypedSites a → TypedSites b → Promises TypedSites (summed s direction a b site span)
  summed_sites s direction (Value (Pointer mode k t) zero pointer place) b site span hs ha hb =
      let hp = ha.0 in
      number_of_sites TypedSites b span (λ w. plain (Pointer mode k t) (core.Sum pointer direction w site (sum_node s.locals direction pointer w site))) hb
      (λ w hw. ((hp, hw, hs, at_site_sites site (bounds_of pointer) _ hs), tt))
  summed_sites s direction (Value Int zero value place) b site span hs ha hb = arithmetic_sites (Value Int zero value place) b span ha hb (operator_along direction) site hs
  summed_sites s direction (Value Char zero value place) b site span hs ha hb = arithmetic_sites (Value Char zero value place) b span ha hb (operator_along direction) site hs
  summed_sites s direction (Value (Struct k) zero value place) b site span hs ha hb = tt
  summed_sites s direction (AStruct k place) b site span hs ha hb = tt

  equated_values_sites : (t : CType) (z : Bool) (v : core.Expression) (u : CType) (y : Bool) (w : core.Expression) (span : Span) → ExpressionSites P v → ExpressionSites P w → Promises (ExpressionSites P) (equated_values t z v u y w span)
  equated_values_sites t z v u y w span hv hw = by (is_number t && is_number u) (are_comparable t u) (is_pointer t && y) (is_pointer u && z) refl refl refl refl
    where
      by : (numbers same left right : Bool) → (is_number t && is_number u) ≡ numbers → are_comparable t u ≡ same → (is_pointer t && y) ≡ left → (is_pointer u && z) ≡ right → Promises (ExpressionSites P) (equated_values t z v u y w span)
      by true same left right h0 h1 h2 h3 = rw h0 (hv, hw)
      by false true left right h0 h1 h2 h3 = rw (h0, h1) (hv, hw)
      by false false true right h0 h1 h2 h3 = rw (h0, h1, h2) (hv, tt)
      by false false false true h0 h1 h2 h3 = rw (h0, h1, h2, h3) (tt, hw)
      by false false false false h0 h1 h2 h3 = rw (h0, h1, h2, h3) tt

  equated_sites : (a b : Typed) (span : Span) → TypedSites a → TypedSites b → Promises (ExpressionSites P) (equated a b span)
  equated_sites (Value t z v p) (Value u y w q) span ha hb = equated_values_sites t z v u y w span ha.0 hb.0
  equated_sites (Value t z v p) (AStruct k q) span ha hb = tt
  equated_sites (AStruct k p) b span ha hb = tt

  ordered_values_sites : (comparison : Comparison) (t : CType) (v : core.Expression) (u : CType) (w : core.Expression) (site : Site) (span : Span) → P site → ExpressionSites P v → ExpressionSites P w → Promises TypedSites (ordered_values comparison t v u w site span)
  ordered_values_sites comparison t v u w site span hs hv hw = by (is_number t && is_number u) (are_comparable t u) refl refl
    where
      by : (numbers same : Bool) → (is_number t && is_number u) ≡ numbers → are_comparable t u ≡ same → Promises TypedSites (ordered_values comparison t v u w site span)
      by true same h0 h1 = rw h0 ((hv, hw), tt)
      by false true h0 h1 = rw (h0, h1) (needs_promises TypedSites (are_related t v u w) E26 span (number (core.Order comparison v w site)) (λ yes. ((hv, hw, hs), tt)))
      by false false h0 h1 = rw (h0, h1) tt

  ordered_sites : (comparison : Comparison) (a b : Typed) (site : Site) (span : Span) → P site → TypedSites a → TypedSites b → Promises TypedSites (ordered comparison a b site span)
  ordered_sites comparison (Value t z v p) (Value u y w q) site span hs ha hb = ordered_values_sites comparison t v u w site span hs ha.0 hb.0
  ordered_sites comparison (Value t z v p) (AStruct k q) site span hs ha hb = tt
  ordered_sites comparison (AStruct k p) b site span hs ha hb = tt

  zero_test_sites : (a b : Typed) (equal : core.Expression) → TypedSites a → ExpressionSites P equal → ExpressionSites P (zero_test a b equal)
  zero_test_sites (Value t z v p) (Value u true w q) equal h he = by (is_number t && is_ended_element v)
    where
      by : (test : Bool) → ExpressionSites P (picked test (core.Not v) equal)
      by true = h.0
      by false = he
  zero_test_sites (Value t z v p) (Value u false w q) equal h he = he
  zero_test_sites (Value t z v p) (AStruct k q) equal h he = he
  zero_test_sites (AStruct k p) b equal h he = he

  binary_sites : (s : Scope) (operator : BinaryOperator) (a b : Typed) (site : Site) (span : Span) → P site → TypedSites a → TypedSites b → Promises TypedSites (binary_typed s operator a b site span)
  binary_sites s binary.Or a b site span hs ha hb = truths_sites a b span ha hb core.OrElse (λ v w hv hw. (hv, hw))
  binary_sites s binary.And a b site span hs ha hb = truths_sites a b span ha hb core.AndAlso (λ v w hv hw. (hv, hw))
  binary_sites s binary.BitOr a b site span hs ha hb = arithmetic_sites a b span ha hb (operators.Bitwise bits.Or) site hs
  binary_sites s binary.BitXor a b site span hs ha hb = arithmetic_sites a b span ha hb (operators.Bitwise bits.Xor) site hs
  binary_sites s binary.BitAnd a b site span hs ha hb = arithmetic_sites a b span ha hb (operators.Bitwise bits.And) site hs
  binary_sites s binary.Equal a b site span hs ha hb = passing_promises (ExpressionSites P) TypedSites (equated a b span) number (equated_sites a b span ha hb) (λ v hv. (hv, tt))
  binary_sites s binary.NotEqual a b site span hs ha hb =
      passing_promises (ExpressionSites P) TypedSites (equated a b span) (λ v. number (core.Not (zero_test a b v))) (equated_sites a b span ha hb) (λ v hv. (zero_test_sites a b v ha hv, tt))
  binary_sites s binary.Less a b site span hs ha hb = ordered_sites comparisons.Less a b site span hs ha hb
  binary_sites s binary.LessEqual a b site span hs ha hb = ordered_sites comparisons.LessEqual a b site span hs ha hb
  binary_sites s binary.Greater a b site span hs ha hb = ordered_sites comparisons.Greater a b site span hs ha hb
  binary_sites s binary.GreaterEqual a b site span hs ha hb = ordered_sites comparisons.GreaterEqual a b site span hs ha hb
  binary_sites s binary.ShiftLeft a b site span hs ha hb = arithmetic_sites a b span ha hb (operators.Arithmetic arithmetics.ShiftLeft) site hs
  binary_sites s binary.ShiftRight a b site span hs ha hb = arithmetic_sites a b span ha hb (operators.Arithmetic arithmetics.ShiftRight) site hs
  binary_sites s binary.Add a b site span hs ha hb = apart_promises TypedSites a b span _ (summed_sites s directions.Forward a b site span hs ha hb)
  binary_sites s binary.Subtract a b site span hs ha hb = apart_promises TypedSites a b span _ (summed_sites s directions.Backward a b site span hs ha hb)
  binary_sites s binary.Multiply a b site span hs ha hb = arithmetic_sites a b span ha hb (operators.Arithmetic arithmetics.Multiply) site hs
  binary_sites s binary.Divide a b site span hs ha hb = arithmetic_sites a b span ha hb (operators.Arithmetic arithmetics.Divide) site hs
  binary_sites s binary.Remainder a b site span hs ha hb = arithmetic_sites a b span ha hb (operators.Arithmetic arithmetics.Remainder) site hs

  element_sites : (t : CType) (pointer number : core.Expression) (site : Site) (span : Span) → P site → ExpressionSites P pointer → ExpressionSites P number → Promises TypedSites (element_at t pointer number site span)
  element_sites Int pointer number site span hs hp hn = tt
  element_sites Char pointer number site span hs hp hn = tt
  element_sites (Struct k) pointer number site span hs hp hn = tt
  element_sites (Pointer mode kinds.One t) pointer number site span hs hp hn = tt
  element_sites (Pointer mode kinds.Array t) pointer number site span hs hp hn = elements_promise TypedSites pointer span _ (at_place_sites t (core.Through pointer (core.Element number false) 0 site) (hp, hn, hs))
  element_sites (Pointer mode kinds.Nt t) pointer number site span hs hp hn = elements_promise TypedSites pointer span _ (at_place_sites t (core.Through pointer (core.Element number true) 0 site) (hp, hn, hs))

  indexed_sites : (a b : Typed) (site : Site) (span : Span) → P site → TypedSites a → TypedSites b → Promises TypedSites (indexed a b site span)
  indexed_sites (Value t z v p) (Value u y w q) site span hs ha hb = needs_promises TypedSites (is_pointer t && is_number u) E13 span _ (λ x. element_sites t v w site span hs ha.0 hb.0)
  indexed_sites (Value t z v p) (AStruct k q) site span hs ha hb = tt
  indexed_sites (AStruct k p) b site span hs ha hb = tt

  -- ---- conversions and calls

  as_pointer_sites : (test : Bool) (value : core.Expression) → ExpressionSites P value → ExpressionSites P (as_pointer test value)
  as_pointer_sites true value h = tt
  as_pointer_sites false value h = h

  in_type_sites : (to : CType) (test : Bool) (value : core.Expression) → ExpressionSites P value → ExpressionSites P (in_type to test value)
  in_type_sites Int test value h = h
  in_type_sites Char test value h = h
  in_type_sites (Struct k) test value h = h
  in_type_sites (Pointer m k t) test value h = as_pointer_sites test value h

  pub converted_sites : {A : Type 0} (Q : A → Type 0) (a : Typed) (to : CType) (span : Span) (next : core.Expression → Verdict A) → TypedSites a → ((v : core.Expression) → ExpressionSites P v → Promises Q (next v)) → Promises Q (converted a to span next)
  converted_sites Q (Value type zero value place) to span next h more =
      needs_promises Q (converts type zero to) E13 span _ (λ x. more (in_type to (zero && is_number type) value) (in_type_sites to (zero && is_number type) value h.0))
  converted_sites Q (AStruct number place) to span next h more = tt

  abbrev pub AllSites : List (Typed × Span) → Type 0
  AllSites [] = Unit {0}
  AllSites (a ∷ arguments) = TypedSites a.0 × AllSites arguments

  arguments_sites : (arguments : List (Typed × Span)) (ts : List CType) → AllSites arguments → Promises (ArgumentsSites P) (arguments_as arguments ts)
  arguments_sites [] ts all = tt
  arguments_sites (a ∷ arguments) [] all = tt
  arguments_sites (a ∷ arguments) (t ∷ ts) all =
      converted_sites (ArgumentsSites P) a.0 t a.1 _ all.0 (λ v hv. passing_promises (ArgumentsSites P) (ArgumentsSites P) (arguments_as arguments ts) _ (arguments_sites arguments ts all.1) (λ rest h. (hv, h)))

  callee_sites : (tainted : Bool) (number : ℕ) (site : Site) → P site → CalleeSites P (callee_of tainted number site)
  callee_sites true number site h = h
  callee_sites false number site h = tt

  call_bounds_sites : (structs : List Structure) (t : CType) (b : Option Bounds) (site : Site) → P site → BoundsSites P (call_bounds structs t b site)
  call_bounds_sites structs Int b site h = tt
  call_bounds_sites structs Char b site h = tt
  call_bounds_sites structs (Struct k) b site h = tt
  call_bounds_sites structs (Pointer m kinds.One t) b site h = bounds_at_sites structs (Pointer m kinds.One t) site h
  call_bounds_sites structs (Pointer m kinds.Array t) None site h = bounds_at_sites structs (Pointer m kinds.Array t) site h
  call_bounds_sites structs (Pointer m kinds.Array t) (Some b) site h = h
  call_bounds_sites structs (Pointer m kinds.Nt t) None site h = tt
  call_bounds_sites structs (Pointer m kinds.Nt t) (Some b) site h = h

  call_sites : (result : Option CType) (bounds : Option Bounds) (callee : Callee) (values : core.Arguments) (site : Site) (structs : List Structure) → P site → CalleeSites P callee → ArgumentsSites P values → CalledSites (call_of structs result bounds callee values site)
  call_sites (Some t) bounds callee values site structs hs hc h = (hc, h, call_bounds_sites structs t bounds site hs)
  call_sites None bounds callee values site structs hs hc h = (hc, h)

  first_sites : (of : core.Expression → core.Statement) (values : core.Arguments) → ((v : core.Expression) → ExpressionSites P v → StatementSites P (of v)) → ArgumentsSites P values → StatementSites P (first_of of values)
  first_sites of core.Done same h = tt
  first_sites of (core.More v others) same h = same v h.0

  writes_sites : (of : core.Expression → core.Statement) (arguments : List (Typed × Span)) (span : Span) → ((v : core.Expression) → ExpressionSites P v → StatementSites P (of v)) → AllSites arguments → Promises CalledSites (writes of arguments span)
  writes_sites of arguments span same all =
      needs_promises CalledSites (length arguments == 1) E14 span _
      (λ x. passing_promises (ArgumentsSites P) CalledSites (arguments_as arguments (Int ∷ [])) _ (arguments_sites arguments (Int ∷ []) all) (λ values h. first_sites of values same h))

  length_sites : (a : Typed) (site : Site) (span : Span) → P site → TypedSites a → Promises CalledSites (length_typed a site span)
  length_sites (Value type zero value place) site span hs h = needs_promises CalledSites (is_text type && is_some (bounds_of value)) E13 span (Passes (Gives Int (core.Length value site))) (λ text. (h.0, hs))
  length_sites (AStruct number place) site span hs h = tt

  measures_sites : (arguments : List (Typed × Span)) (site : Site) (span : Span) → P site → AllSites arguments → Promises CalledSites (measures arguments site span)
  measures_sites [] site span hs all = tt
  measures_sites (a ∷ arguments) site span hs all =
      needs_promises CalledSites (length (a ∷ arguments) == 1) E14 span _ (λ one. convertible_promises CalledSites a.0 text_pointer a.1 (length_typed a.0 site span) (length_sites a.0 site span hs all.0))

  predefined_sites : (given : Given) (name : ℕ) (arguments : List (Typed × Span)) (site : Site) (span : Span) → P site → AllSites arguments → Promises CalledSites (predefined_call given name arguments site span)
  predefined_sites given name arguments site span hs all = by (name == given.next_input) (name == given.print_int) (name == given.putchar) (name == given.strlen) refl refl refl refl
    where
      by : (input print put measure : Bool) → (name == given.next_input) ≡ input → (name == given.print_int) ≡ print → (name == given.putchar) ≡ put → (name == given.strlen) ≡ measure
          → Promises CalledSites (predefined_call given name arguments site span)
      by true print put measure h0 h1 h2 h3 = rw h0 (needs_promises CalledSites (length arguments == 0) E14 span (Passes (Gives Int core.NextInput)) (λ none. tt))
      by false true put measure h0 h1 h2 h3 = rw (h0, h1) (writes_sites core.Print arguments span (λ v h. h) all)
      by false false true measure h0 h1 h2 h3 = rw (h0, h1, h2) (writes_sites core.PutByte arguments span (λ v h. h) all)
      by false false false true h0 h1 h2 h3 = rw (h0, h1, h2, h3) (measures_sites arguments site span hs all)
      by false false false false h0 h1 h2 h3 = rw (h0, h1, h2, h3) tt

  with_result_sites : (c : Called) (span : Span) → CalledSites c → Promises TypedSites (with_result c span)
  with_result_sites (Gives type value) span h = (h, tt)
  with_result_sites (GivesNothing call) span h = tt

  called_sites : (s : Scope) (o : Option Signature) (name : ℕ) (arguments : List (Typed × Span)) (site : Site) (span : Span) → P site → AllSites arguments → Promises CalledSites (called s o name arguments site span)
  called_sites s None name arguments site span hs all = predefined_sites s.given name arguments site span hs all
  called_sites s (Some f) name arguments site span hs all =
      needs_promises CalledSites (length f.parameters == length arguments) E14 span _
      (λ many. crossing_promises CalledSites (is_import f) arguments _
      (passing_promises (ArgumentsSites P) CalledSites (arguments_as arguments f.parameters) _ (arguments_sites arguments f.parameters all)
      (λ values h. all_met_promise CalledSites s.flow _ _ arguments f.parameters f.bounds _
      (call_sites f.result _ (declared_callee s f site) values site s.structs hs (callee_sites (is_import f) (side_number (is_import f) s.functions f.name 0) site hs) h))))

  -- ---- allocation and casts

  pub row_sites : (structs : List Structure) (t : CType) (ended : Bool) (n : Option Term) (site : Site) → P site → BoundsSites P (row_counted structs t ended n site)
  row_sites structs t ended None site h = tt
  row_sites structs t ended (Some n) site h = h

  count_sites : (size count : core.Expression) → ExpressionSites P size → IsCount size count → ExpressionSites P count
  count_sites size _ h OfBytes = h
  count_sites size _ h OfOne = tt
  count_sites size _ h (OfLeft product) = (subst (ExpressionSites P) product h).0
  count_sites size _ h (OfRight product) = (subst (ExpressionSites P) product h).1

  malloc_sites : (word : MallocWord) (s : Scope) (t : CType) (size : Expression) (a : Typed) (site : Site) (span : Span) → P site → TypedSites a → Promises TypedSites (malloc_typed word s t size a site span)
  malloc_sites word s t size (Value type zero value place) site span hs h =
      malloc_promises TypedSites s t site span word size (Value type zero value place) (λ number count is bytes. ((count_sites value count h.0 is, row_sites s.structs t false _ site hs), tt))
  malloc_sites word s t size (AStruct number place) site span hs h = malloc_promises TypedSites s t site span word size (AStruct number place) tt

  calloc_sites : (word : CallocWord) (s : Scope) (t : CType) (a : Typed) (size : Expression) (site : Site) (span : Span) → P site → TypedSites a → Promises TypedSites (calloc_typed word s t a size site span)
  calloc_sites word s t (Value type zero value place) size site span hs h =
      calloc_promises TypedSites s t site span word (Value type zero value place) size (λ number ended may. ((h.0, row_sites s.structs t ended _ site hs), tt))
  calloc_sites word s t (AStruct number place) size site span hs h = calloc_promises TypedSites s t site span word (AStruct number place) size tt

  cast_sites : (word : CastWord) (s : Scope) (t : CType) (a : Typed) (written : WrittenBounds) (site : Site) (span : Span) → P site → TypedSites a → Promises TypedSites (cast_typed word s t a written site span)
  cast_sites word s t (Value type zero value place) written site span hs h =
      cast_promises TypedSites word s t (Value type zero value place) written site span (λ casts. ((h.0, call_bounds_sites s.structs t (bounds_in written) site hs), tt))
  cast_sites word s t (AStruct number place) written site span hs h = cast_promises TypedSites word s t (AStruct number place) written site span tt

  -- ---- the walk

  -- this holds of the start of each expression in these
  abbrev pub Covers : Places → Expression → Type 0
  Covers at x = (span : Span) → InExpression span x → P (site_at at span)

  abbrev pub CoversAll : Places → Expressions → Type 0
  CoversAll at xs = (span : Span) → InExpressions span xs → P (site_at at span)

  mutual
    pub typed_sites : (at : Places) (s : Scope) (x : Expression) → Covers at x → Promises TypedSites (typed at s x)
    typed_sites at s (e.Number value span) all = needs_promises TypedSites (nat_lt value (2 ^ 31)) E04 span _ (λ low. (tt, tt))
    typed_sites at s (e.Character value span) all = needs_promises TypedSites (nat_lt value (2 ^ 31)) E04 span _ (λ low. (tt, tt))
    typed_sites at s (e.Text bytes span) all = any_text TypedSites s.structs (text_at s.strings span.from) (site_at at span) span (λ t. ((tt, all span refl), tt))
    typed_sites at s (e.Name name) all =
        bounded_sites s (site_at at name.span) (passing (named s name.number) (λ x. Passes (name_typed s x (site_at at name.span)))) (all name.span refl)
        (passing_promises (λ (x : Named). Unit {0}) TypedSites (named s name.number) _ (anything_promised (named s name.number)) (λ x _. name_sites s x (site_at at name.span) (all name.span refl)))
    typed_sites at s (e.Call callee arguments span) all =
        passing_promises AllSites TypedSites (all_typed at s arguments) _ (all_sites at s arguments (λ x h. all x (inr h)))
        (λ ts hts. passing_promises CalledSites TypedSites (called s (function_named s.functions callee.number) callee.number ts (site_at at span) span) _
        (called_sites s (function_named s.functions callee.number) callee.number ts (site_at at span) span (all span (inl refl)) hts) (λ c h. with_result_sites c span h))
    typed_sites at s (e.SizeOf type span) all = passing_promises (λ (t : CType). Unit {0}) TypedSites (type_named s type) _ (anything_promised (type_named s type)) (λ t _. (tt, tt))
    typed_sites at s (e.Cast word type operand span) all =
        passing_any TypedSites (type_named s type) _ (λ t. passing_promises TypedSites TypedSites (typed at s operand) _ (typed_sites at s operand (λ x h. all x (inr h)))
        (λ a h. cast_sites word s t a None (site_at at span) span (all span (inl refl)) h))
    typed_sites at s (e.BoundedCast word type operand bounds span) all =
        passing_any TypedSites (type_named s type) _ (λ t. passing_promises TypedSites TypedSites (typed at s operand) _ (typed_sites at s operand (λ x h. all x (inr h)))
        (λ a h. passing_any TypedSites (cast_bounds s t bounds) _ (λ written. cast_sites word s t a written (site_at at span) span (all span (inl refl)) h)))
    typed_sites at s (e.Malloc word type size span) all =
        passing_any TypedSites (type_named s type) _ (λ t. passing_promises TypedSites TypedSites (typed at s size) _ (typed_sites at s size (λ x h. all x (inr h)))
        (λ a h. malloc_sites word s t size a (site_at at span) span (all span (inl refl)) h))
    typed_sites at s (e.Calloc word type count size span) all =
        passing_any TypedSites (type_named s type) _ (λ t. passing_promises TypedSites TypedSites (typed at s count) _ (typed_sites at s count (λ x h. all x (inr (inl h))))
        (λ a h. passing_any TypedSites (typed at s size) _ (λ b. calloc_sites word s t a size (site_at at span) span (all span (inl refl)) h)))
    typed_sites at s (e.Index base index span) all =
        in_cell_sites s (site_at at span) (passing (typed at s base) (λ a. passing (typed at s index) (λ b. indexed a b (site_at at span) span))) (all span (inl refl))
        (passing_promises TypedSites TypedSites (typed at s base) _ (typed_sites at s base (λ x h. all x (inr (inl h))))
        (λ a ha. passing_promises TypedSites TypedSites (typed at s index) _ (typed_sites at s index (λ x h. all x (inr (inr h))))
        (λ b hb. indexed_sites a b (site_at at span) span (all span (inl refl)) ha hb)))
    typed_sites at s (e.Dot base member span) all =
        in_cell_sites s (site_at at span) (passing (typed at s base) (λ a. dotted s a member.number (site_at at span) span)) (all span (inl refl))
        (passing_promises TypedSites TypedSites (typed at s base) _ (typed_sites at s base (λ x h. all x (inr h))) (λ a h. dotted_sites s a member.number (site_at at span) span (all span (inl refl)) h))
    typed_sites at s (e.Arrow base member span) all =
        in_cell_sites s (site_at at span) (passing (typed at s base) (λ a. arrowed s a member.number (site_at at span) span)) (all span (inl refl))
        (passing_promises TypedSites TypedSites (typed at s base) _ (typed_sites at s base (λ x h. all x (inr h))) (λ a h. arrowed_sites s a member.number (site_at at span) span (all span (inl refl)) h))
    typed_sites at s (e.Unary operator operand span) all =
        in_cell_sites s (site_at at span) (passing (typed at s operand) (λ a. unary_typed operator a (site_at at span) span)) (all span (inl refl))
        (passing_promises TypedSites TypedSites (typed at s operand) _ (typed_sites at s operand (λ x h. all x (inr h))) (λ a h. unary_sites operator a (site_at at span) span (all span (inl refl)) h))
    typed_sites at s (e.Binary operator left right span) all =
        passing_promises TypedSites TypedSites (typed at s left) _ (typed_sites at s left (λ x h. all x (inr (inl h))))
        (λ a ha. passing_promises TypedSites TypedSites (typed at (beside operator a s) right) _ (typed_sites at (beside operator a s) right (λ x h. all x (inr (inr h))))
        (λ b hb. binary_sites s operator a b (site_at at span) span (all span (inl refl)) ha hb))

    all_sites : (at : Places) (s : Scope) (xs : Expressions) → CoversAll at xs → Promises AllSites (all_typed at s xs)
    all_sites at s e.NoMore all = tt
    all_sites at s (e.Then first others) all =
        passing_promises TypedSites AllSites (typed at s first) _ (typed_sites at s first (λ x h. all x (inl h)))
        (λ t ht. passing_promises AllSites AllSites (all_typed at s others) _ (all_sites at s others (λ x h. all x (inr h))) (λ ts hts. (ht, hts)))

  pub call_typed_sites : (at : Places) (s : Scope) (x : Expression) → Covers at x → Promises CalledSites (call_typed at s x)
  call_typed_sites at s (e.Call callee arguments span) all =
      passing_promises AllSites CalledSites (all_typed at s arguments) _ (all_sites at s arguments (λ x h. all x (inr h)))
      (λ ts hts. called_sites s (function_named s.functions callee.number) callee.number ts (site_at at span) span (all span (inl refl)) hts)
  call_typed_sites at s (e.Number value span) all = tt
  call_typed_sites at s (e.Character value span) all = tt
  call_typed_sites at s (e.Text bytes span) all = tt
  call_typed_sites at s (e.Name name) all = tt
  call_typed_sites at s (e.SizeOf type span) all = tt
  call_typed_sites at s (e.Cast word type operand span) all = tt
  call_typed_sites at s (e.BoundedCast word type operand bounds span) all = tt
  call_typed_sites at s (e.Malloc word type size span) all = tt
  call_typed_sites at s (e.Calloc word type count size span) all = tt
  call_typed_sites at s (e.Index base index span) all = tt
  call_typed_sites at s (e.Dot base member span) all = tt
  call_typed_sites at s (e.Arrow base member span) all = tt
  call_typed_sites at s (e.Unary operator operand span) all = tt
  call_typed_sites at s (e.Binary operator left right span) all = tt
