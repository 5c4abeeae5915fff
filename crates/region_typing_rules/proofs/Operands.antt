-- Names, places and operators that break no rule have types.
use Rattle.std.proofs.Common.{◌≡◌, ℕ, ◌+◌, Bool, true, false, List, length, Option, Some, None, ◌<◌, ◌≤◌, refl, sym, ap, ◌∙◌, subst, arith}
use Rattle.std.specs.Prelude.{nat_lt, slice_get, not, ◌&&◌, ◌||◌}
use Rattle.std.proofs.lemmas.Bool.{and_parts, le-leb, ltb-true}
use Rattle.ckc_text.specs.declared.place.Span.{Span}
use Rattle.ckc_text.specs.declared.code.Code.TheVariants.{E13, E18, E19, E26}
use Rattle.ckc_tree.specs.declared.expr.UnaryOperator.{UnaryOperator}
use Rattle.ckc_tree.specs.declared.expr.UnaryOperator.TheVariants as unary
use Rattle.ckc_tree.specs.declared.expr.BinaryOperator.{BinaryOperator}
use Rattle.ckc_tree.specs.declared.expr.BinaryOperator.TheVariants as binary
use Rattle.pointer_modes.specs.declared.ctype.Mode.{Mode}
use Rattle.pointer_modes.specs.declared.ctype.Mode.TheVariants as modes
use Rattle.pointer_modes.specs.declared.ctype.Kind.{Kind}
use Rattle.pointer_modes.specs.declared.ctype.Kind.TheVariants as kinds
use Rattle.pointer_modes.specs.Types.{CType, Int, Char, Struct, Pointer}
use Rattle.pointer_modes.specs.Layout.{size_of}
use Rattle.ckc_core.specs.declared.program.Site.{Site}
use Rattle.act_words.specs.declared.operator.Operator.{Operator}
use Rattle.act_words.specs.declared.operator.ArithmeticOperator.TheVariants as arithmetics
use Rattle.act_words.specs.declared.operator.BitwiseOperator.TheVariants as bits
use Rattle.act_words.specs.declared.operator.Operator.TheVariants as operators
use Rattle.act_words.specs.declared.operator.Comparison.{Comparison}
use Rattle.act_words.specs.declared.operator.Comparison.TheVariants as comparisons
use Rattle.ckc_core.specs.declared.program.Direction.{Direction}
use Rattle.ckc_core.specs.declared.program.Direction.TheVariants as directions
use Rattle.ckc_core.specs.declared.program.PointerBounds.{PointerBounds}
use Rattle.ckc_core.specs.Core as core
use Rattle.ckc_core.specs.Meaning.{bounds_of}
use Rattle.ckc_core.specs.States.{shape, object_block}
use Rattle.ckc_core.proofs.Elements.{of_element}
use Rattle.bounds_exprs.specs.declared.term.Bounds.{Bounds}
use Rattle.subsumption.specs.Facts.{IsBelow}
use Rattle.bounds_flow.specs.Conditions.{AreEndsBelow, AreBoundsBelow}
use Rattle.bounds_flow.specs.Flows.{held_at}
use Rattle.bounds_flow.proofs.Variables.{held_below}
use Rattle.bounds_flow_meaning.specs.Holding.{IsValid, HasSize, at_node, target_size, types_of, is_ended}
use Rattle.bounds_flow_meaning.specs.Rows.{slots}
use Rattle.bounds_flow_meaning.proofs.Numbers.{type_there}
use Rattle.region_typing_rules.specs.Verdicts.{Verdict, Passes, picked}
use Rattle.region_typing_rules.specs.Scopes.{Scope, Named, Local, Object, Array, Nothing}
use Rattle.region_typing_rules.specs.Types.{is_number, is_pointer, is_row, are_comparable, Counts}
use Rattle.region_typing_rules.specs.Readings.{from_base, based_bounds}
use Rattle.region_typing_rules.specs.Operands.{OfLocal, OfCell, OfBounded, Standing, ForNothing, ForArray, For, Typed, Value, AStruct, text_value, Called, Gives, GivesNothing, bounds_at, noted_if, with_bounds, sum_node, number, at_place, in_force, local_typed, name_typed, pointer_typed, member_place, with_elements, first_element, pointed_at, dereferenced, checked_at, pointer_to, address, number_of, scalar_of, unary_typed, is_single_value, lacks_bounds, without_ptr, two_numbers, two_scalars, operator_along, summed, sum_typed, equated_values, equated, have_one_base, are_related, ordered_values, ordered, arithmetic, binary_typed, element_at, indexed, is_array, local_standing, OfUnknown, with_cell_bounds, cell_bounds, is_ended_element, zero_test, first_or_end, unknown_typed}
use Rattle.region_typing_rules.specs.Expressions.{typed}
use Rattle.bounds_flow_meaning.specs.Sums.{counted}
use Rattle.region_typing_rules.specs.Typed as rules
use Rattle.region_typing_rules.specs.Typed.{Frame, IsBoundedObject, IsEndedRow, HasElements, IsInForce, HasType, HasPlace, IsSimple, IsScalar, HasAccess, HasCellBounds}
use Rattle.region_typing_rules.proofs.Values.{member_row}
use Rattle.region_typing_rules.proofs.Verdicts.{Promises, passing_promises, needs_promises, Extends}
use Rattle.region_typing_rules.proofs.Known.{IsKnown, size_kept, cell_kept}
use Rattle.region_typing_rules.proofs.KnownTypes.{IsKnownTyped}
use Rattle.region_typing_rules.proofs.Knowledge.{IsBoundedPointer, IsNumberType, Knows, array_sized, StandsFor}
use Rattle.region_typing_rules.proofs.Alike.{alike_here}
use Rattle.region_typing_rules.specs.Knowing.{when}
use Rattle.region_typing_rules.proofs.Nodes.{AreCounted, CountElements, HasNode, IsRow, at_mode, cell_node_with, counted_node, ended_alike, first_not, from_base_below, load_takes, local_takes, no_ended, no_row, node_with, number_sized, one_base, row_type, sum_bounded, sum_counted}
use Rattle.region_typing_rules.proofs.TextBlocks.{found_from, text_row}
use Rattle.region_typing_rules.specs.Strings.{FoundText, text_at, text_object}

module _ (g : Frame) (types : List CType) (s : Scope) where
  -- what a value stands for
  abbrev pub FitsPlace : CType → Standing → Type 0
  FitsPlace type ForNothing = Unit {0}
  FitsPlace type ForArray = Unit {0}
  FitsPlace type (For (OfLocal k)) = slice_get types k ≡ Some type
  FitsPlace type (For (OfCell p)) = HasAccess g types s p type
  FitsPlace type (For (OfBounded k b)) = IsBoundedPointer g type b k
  FitsPlace type (For (OfUnknown k)) = HasPlace g types s (core.Direct k 0) type

  pub record FitsValue (type : CType) (zero : Bool) (value : core.Expression) (place : Standing) : Type 0 where
    pub has_type : HasType g types s value type
    pub is_number : zero ≡ true → IsNumberType type
    pub stands : FitsPlace type place
    pub scalar : IsScalar type
    pub node : HasNode g.structs s.flow.vars type value

  -- what an expression is has a type
  abbrev pub Fits : Typed → Type 0
  Fits (Value type zero value place) = FitsValue type zero value place
  Fits (AStruct number (OfLocal k)) = ⊥
  Fits (AStruct number (OfCell p)) = HasPlace g types s p (Struct number)
  Fits (AStruct number (OfBounded k b)) = ⊥
  Fits (AStruct number (OfUnknown k)) = ⊥

  -- what it is fits with bounds at its node, wherever it begins
  abbrev pub FitsNoted : Typed → Type 0
  FitsNoted t = (site : Site) → Fits (with_bounds g.structs site t)

  -- the same where it stands in a cell
  abbrev pub FitsCell : Typed → Type 0
  FitsCell t = (site : Site) → IsKnownTyped s.structs t → Fits (with_cell_bounds g.structs site t)

  -- and so has what a call is
  abbrev pub FitsCall : Called → Type 0
  FitsCall (Gives type value) = HasType g types s value type × (IsScalar type × HasNode g.structs s.flow.vars type value)
  FitsCall (GivesNothing call) = IsSimple g types s call

  pub plain_fits : (type : CType) (value : core.Expression) → IsScalar type → HasType g types s value type → HasNode g.structs s.flow.vars type value → Fits (Value type false value ForNothing)
  plain_fits type value scalar h node = record { has_type = h; is_number = λ x. absurd (cc); stands = tt; scalar = scalar; node = node }

  pub number_fits : (value : core.Expression) → HasType g types s value Int → Fits (Value Int false value ForNothing)
  number_fits value h = plain_fits Int value refl h tt

  -- each char is an int
  pub as_int : (t : CType) (value : core.Expression) → IsNumberType t → HasType g types s value t → HasType g types s value Int
  as_int Int value n h = h
  as_int Char value n h = rules.widened h
  as_int (Struct number) value n h = absurd (cc)
  as_int (Pointer m k t) value n h = absurd (cc)

  -- ---- places

  -- with the bounds that its type gives it
  noted_load : (t : CType) (p : core.Place) (o : Option PointerBounds) → noted_if o (core.Load t p None) ≡ core.Load t p o
  noted_load t p None = refl
  noted_load t p (Some b) = refl

  cell_told : (t : CType) (site : Site) → HasCellBounds g.structs t (cell_bounds g.structs t site)
  cell_told Int site = rules.unbounded
  cell_told Char site = rules.unbounded
  cell_told (Struct number) site = rules.unbounded
  cell_told (Pointer modes.Checked kinds.One t) site = rules.by_type (site, refl)
  cell_told (Pointer modes.Checked kinds.Array t) site = rules.by_type (site, refl)
  cell_told (Pointer modes.Checked kinds.Nt t) site = rules.at_end {site = site}
  cell_told (Pointer modes.Tainted k t) site = rules.by_type (site, refl)
  cell_told (Pointer modes.Raw k t) site = rules.by_type (site, refl)

  load_fits : (t : CType) (p : core.Place) (site : Site) → IsScalar t → IsKnown s.structs t → HasAccess g types s p t → FitsValue t false (noted_if (cell_bounds g.structs t site) (core.Load t p None)) (For (OfCell p))
  load_fits t p site scalar known h =
      record {
        has_type = subst (λ e. HasType g types s e t) (sym (noted_load t p (cell_bounds g.structs t site))) (rules.load scalar h (cell_told t site));
        is_number = λ x. absurd (cc);
        stands = h;
        scalar = scalar;
        node = cell_node_with s.structs g.structs s.flow.vars t site (λ o. noted_if o (core.Load t p None)) (load_takes t p) known;
      }

  pub at_place_fits : (t : CType) (p : core.Place) → HasPlace g types s p t → FitsCell (at_place t p)
  at_place_fits Int p h site known = load_fits Int p site refl known (rules.at_place h)
  at_place_fits Char p h site known = load_fits Char p site refl known (rules.at_place h)
  at_place_fits (Struct number) p h site known = h
  at_place_fits (Pointer m k t) p h site known = load_fits (Pointer m k t) p site refl known (rules.at_place h)

  -- a number that is accessed, which may be the zero at an upper end
  number_at_fits : (t : CType) (p : core.Place) → is_number t ≡ true → HasAccess g types s p t → FitsCell (at_place t p)
  number_at_fits Int p number h site known = load_fits Int p site refl known h
  number_at_fits Char p number h site known = load_fits Char p site refl known h
  number_at_fits (Struct n) p number h site known = absurd (cc)
  number_at_fits (Pointer m k t) p number h site known = absurd (cc)

  held : (t : CType) (k : ℕ) (site : Site) → slice_get s.locals k ≡ Some t → HasType g types s (noted_if (bounds_at g.structs t site) (core.Local k None)) t
  held t k site h = by (bounds_at g.structs t site) refl
    where
      by : (o : Option PointerBounds) → bounds_at g.structs t site ≡ o → HasType g types s (noted_if o (core.Local k None)) t
      by None e = rules.local h (site, sym e)
      by (Some b) e = rules.local h (site, sym e)

  held_fits : Extends s.locals types → (t : CType) (k : ℕ) (site : Site) → IsScalar t → slice_get s.locals k ≡ Some t → FitsValue t false (noted_if (bounds_at g.structs t site) (core.Local k None)) (For (OfLocal k))
  held_fits ext t k site scalar h =
      record { has_type = held t k site h; is_number = λ x. absurd (cc); stands = ext k t h; scalar = scalar; node = node_with g.structs s.flow.vars t site (λ o. noted_if o (core.Local k None)) (local_takes k) }

  module _ (knows : Knows g types s) where
    -- what is known in the scope makes a local pointer valid with its bounds in force
    is_in_force : (k : ℕ) (b : Bounds) → (held_at s.flow.held k).bounds ≡ Some b → IsInForce g.structs s k b
    is_in_force k b e state known l there =
        let holds = (known state (alike_here (length s.locals) state)).holds in
        let valid = (holds.pointers k l there).valid in
        let size = (holds.met.formed k l.type (type_there state.locals k l there)).bounds in
        (subst (λ o. IsValid g.structs o l state) e valid, subst (HasSize g.structs (types_of state.locals) (target_size g.structs l.type)) e size)

    -- the type of a local pointer has a size that is known
    element_known : (k : ℕ) (m : Mode) (kind : Kind) (t : CType) → slice_get s.locals k ≡ Some (Pointer m kind t) → IsKnown s.structs t
    element_known k m kind t h = (of_element (IsKnown s.structs) s.locals k (Pointer m kind t) knows.file.closed.of_locals h).1

    bounded_fits : (k : ℕ) (m : Mode) (kind : Kind) (t : CType) (b : Bounds) (site : Site) → Counts kind → 0 < size_of s.structs t → slice_get s.locals k ≡ Some (Pointer m kind t) → (held_at s.flow.held k).bounds ≡ Some b
        → FitsValue (Pointer m kind t) false (core.Local k (Some (at_node b (size_of s.structs t) (is_ended (Pointer m kind t)) site))) (For (OfLocal k))
    bounded_fits k m kind t b site counts bytes h e =
        let is = (knows.pointers k).bounds b e in
        let size : size_of s.structs t ≡ size_of g.structs t = size_kept s.structs g.structs t knows.file.structs (element_known k m kind t h) in
        let some : 0 < size_of g.structs t = subst (λ n. 0 < n) size bytes in
        let below : AreEndsBelow s.flow.vars b = subst (AreBoundsBelow s.flow.vars) e (held_below s.flow.vars s.flow.held k knows.flow.variables.below).bounds in
        record {
          has_type = rules.bounded h (record { size = size; terminated = refl }) is.limited is.named (is_in_force k b e);
          is_number = λ x. absurd (cc);
          stands = knows.locals k (Pointer m kind t) h;
          scalar = refl;
          node = counted_node m kind counts (record {
            own = record { node = record { size = size; terminated = sym (ended_alike m kind t) }; some = some; below = below };
            based = λ d from. let same : from_base k b ≡ d = cc in subst (AreEndsBelow s.flow.vars) same (from_base_below s.flow.vars k b below);
          });
        }

    row_fits : (k : ℕ) (m : Mode) (t : CType) (site node : Site) → slice_get s.locals k ≡ Some (Pointer m kinds.Array t) → Fits (with_bounds g.structs node (local_typed s.structs s.flow k (Pointer m kinds.Array t) false site))
    row_fits k m t site node h =
        subst (λ o. FitsValue (Pointer m kinds.Array t) false (noted_if o (core.Local k (in_force s.structs kinds.Array t (held_at s.flow.held k).bounds site))) (For (OfLocal k))) (sym (no_row m _))
        (by (held_at s.flow.held k).bounds refl)
      where
        by : (o : Option Bounds) → (held_at s.flow.held k).bounds ≡ o → FitsValue (Pointer m kinds.Array t) false (core.Local k (in_force s.structs kinds.Array t (held_at s.flow.held k).bounds site)) (For (OfLocal k))
        by None e = rw e (subst (λ o. FitsValue (Pointer m kinds.Array t) false (noted_if o (core.Local k None)) (For (OfLocal k))) (no_row m _) (held_fits knows.locals (Pointer m kinds.Array t) k node refl h))
        by (Some b) e = with_bytes (nat_lt 0 (size_of s.structs t)) refl
          where
            with_bytes : (some : Bool) → nat_lt 0 (size_of s.structs t) ≡ some → FitsValue (Pointer m kinds.Array t) false (core.Local k (in_force s.structs kinds.Array t (held_at s.flow.held k).bounds site)) (For (OfLocal k))
            with_bytes true some = rw (e, some) (bounded_fits k m kinds.Array t b site tt (ltb-true 0 (size_of s.structs t) some) h e)
            with_bytes false none = rw (e, none) (subst (λ o. FitsValue (Pointer m kinds.Array t) false (noted_if o (core.Local k None)) (For (OfLocal k))) (no_row m _) (held_fits knows.locals (Pointer m kinds.Array t) k node refl h))

    -- the same of one that a zero ends
    ended_fits : (k : ℕ) (m : Mode) (t : CType) (site node : Site) → slice_get s.locals k ≡ Some (Pointer m kinds.Nt t) → Fits (with_bounds g.structs node (local_typed s.structs s.flow k (Pointer m kinds.Nt t) false site))
    ended_fits k m t site node h =
        subst (λ o. FitsValue (Pointer m kinds.Nt t) false (noted_if o (core.Local k (in_force s.structs kinds.Nt t (held_at s.flow.held k).bounds site))) (For (OfLocal k))) (sym (no_ended m _))
        (by (held_at s.flow.held k).bounds refl)
      where
        by : (o : Option Bounds) → (held_at s.flow.held k).bounds ≡ o → FitsValue (Pointer m kinds.Nt t) false (core.Local k (in_force s.structs kinds.Nt t (held_at s.flow.held k).bounds site)) (For (OfLocal k))
        by None e = rw e (subst (λ o. FitsValue (Pointer m kinds.Nt t) false (noted_if o (core.Local k None)) (For (OfLocal k))) (no_ended m _) (held_fits knows.locals (Pointer m kinds.Nt t) k node refl h))
        by (Some b) e = rw e (bounded_fits k m kinds.Nt t b site tt (number_sized s.structs t (of_element (IsKnown s.structs) s.locals k (Pointer m kinds.Nt t) knows.file.closed.of_locals h).0) h e)

    -- the name of an array stands for no place
    standing_fits : (k : ℕ) (t : CType) (value : core.Expression) (array : Bool) → FitsValue t false value (For (OfLocal k)) → FitsValue t false value (local_standing array k)
    standing_fits k t value true h = record { has_type = h.has_type; is_number = h.is_number; stands = tt; scalar = h.scalar; node = h.node }
    standing_fits k t value false h = h

    local_fits : (k : ℕ) (t : CType) (array : Bool) (at : Site) → IsScalar t → slice_get s.locals k ≡ Some t → FitsNoted (local_typed s.structs s.flow k t array at)
    local_fits k Int array at scalar h site = standing_fits k Int _ array (held_fits knows.locals Int k site refl h)
    local_fits k Char array at scalar h site = standing_fits k Char _ array (held_fits knows.locals Char k site refl h)
    local_fits k (Struct n) array at scalar h site = absurd (cc)
    local_fits k (Pointer m kinds.One t) array at scalar h site = standing_fits k (Pointer m kinds.One t) _ array (held_fits knows.locals (Pointer m kinds.One t) k site refl h)
    local_fits k (Pointer m kinds.Array t) array at scalar h site = standing_fits k (Pointer m kinds.Array t) _ array (row_fits k m t at site h)
    local_fits k (Pointer m kinds.Nt t) array at scalar h site = standing_fits k (Pointer m kinds.Nt t) _ array (ended_fits k m t at site h)

    -- a file-level pointer has the bounds that are declared for it
    object_value : (k : ℕ) (m : Mode) (kind : Kind) (u : CType) (b : Bounds) (at : Site) → Counts kind → IsBoundedObject g k m kind u b → IsKnown s.structs u
        → FitsValue (Pointer m kind u) false (core.Load (Pointer m kind u) (core.Direct k 0) (Some (at_node b (size_of s.structs u) (is_ended (Pointer m kind u)) at))) (For (OfBounded k b))
    object_value k m kind u b at counts is known =
        let size : size_of s.structs u ≡ size_of g.structs u = size_kept s.structs g.structs u knows.file.structs known in
        record {
          has_type = rules.bounded_object is (record { size = size; terminated = refl });
          is_number = λ x. absurd (cc);
          stands = record { mode = m; kind = kind; counts = counts; element = u; own = refl; object = is };
          scalar = refl;
          node = counted_node m kind counts (record {
            own = record { node = record { size = size; terminated = sym (ended_alike m kind u) }; some = is.some; below = record { lo = subst (IsBelow s.flow.vars) (sym is.constant.lo) tt; hi = subst (IsBelow s.flow.vars) (sym is.constant.hi) tt } };
            based = λ d e. absurd (cc);
          });
        }

    object_fits : (k : ℕ) (m : Mode) (kind : Kind) (u : CType) (b : Bounds) (at : Site) → Counts kind → IsBoundedObject g k m kind u b → IsKnown s.structs u → FitsNoted (pointer_typed s.structs k (Pointer m kind u) b at)
    object_fits k m kinds.One u b at counts is known site = absurd counts
    object_fits k m kinds.Array u b at counts is known site =
        let size : size_of s.structs u ≡ size_of g.structs u = size_kept s.structs g.structs u knows.file.structs known in
        let bytes : nat_lt 0 (size_of s.structs u) ≡ true = ap (nat_lt 0) size ∙ le-leb 1 (size_of g.structs u) is.some in
        rw bytes
        (subst (λ o. FitsValue (Pointer m kinds.Array u) false (noted_if o (core.Load (Pointer m kinds.Array u) (core.Direct k 0) (Some (at_node b (size_of s.structs u) false at)))) (For (OfBounded k b))) (sym (no_row m _)) (object_value k m kinds.Array u b at counts is known))
    object_fits k m kinds.Nt u b at counts is known site =
        subst (λ o. FitsValue (Pointer m kinds.Nt u) false (noted_if o (core.Load (Pointer m kinds.Nt u) (core.Direct k 0) (Some (at_node b (size_of s.structs u) true at)))) (For (OfBounded k b))) (sym (no_ended m _)) (object_value k m kinds.Nt u b at counts is known)

    bounded_pointer_fits : (k : ℕ) (t : CType) (b : Bounds) (at : Site) → IsBoundedPointer g t b k → IsKnown s.structs t → FitsNoted (pointer_typed s.structs k t b at)
    bounded_pointer_fits k t b at is known =
        subst (λ t. FitsNoted (pointer_typed s.structs k t b at)) (sym is.own) (object_fits k is.mode is.kind is.element b at is.counts is.object (subst (IsKnown s.structs) is.own known).1)

    -- another file-level variable stands in a cell
    cell_object_fits : (k : ℕ) (t : CType) (at : Site) → HasPlace g types s (core.Direct k 0) t → IsKnown s.structs t → FitsNoted (with_cell_bounds s.structs at (at_place t (core.Direct k 0)))
    cell_object_fits k Int at h known site = at_place_fits Int (core.Direct k 0) h site known
    cell_object_fits k Char at h known site = at_place_fits Char (core.Direct k 0) h site known
    cell_object_fits k (Struct n) at h known site = h
    cell_object_fits k (Pointer modes.Checked kinds.One u) at h known site = at_place_fits (Pointer modes.Checked kinds.One u) (core.Direct k 0) h site known
    cell_object_fits k (Pointer modes.Checked kinds.Array u) at h known site = at_place_fits (Pointer modes.Checked kinds.Array u) (core.Direct k 0) h site known
    cell_object_fits k (Pointer modes.Checked kinds.Nt u) at h known site =
        let same = cell_kept s.structs g.structs (Pointer modes.Checked kinds.Nt u) at knows.file.structs known in
        subst (λ o. FitsValue (Pointer modes.Checked kinds.Nt u) false (noted_if o (core.Load (Pointer modes.Checked kinds.Nt u) (core.Direct k 0) None)) (For (OfCell (core.Direct k 0)))) (sym same) (at_place_fits (Pointer modes.Checked kinds.Nt u) (core.Direct k 0) h at known)
    cell_object_fits k (Pointer modes.Tainted kind u) at h known site = at_place_fits (Pointer modes.Tainted kind u) (core.Direct k 0) h site known
    cell_object_fits k (Pointer modes.Raw kind u) at h known site = at_place_fits (Pointer modes.Raw kind u) (core.Direct k 0) h site known

    -- one that a zero ends, and of which no bounds are known, has none
    unbounded_fits : (k : ℕ) (m : Mode) (u : CType) → HasPlace g types s (core.Direct k 0) (Pointer m kinds.Nt u) → FitsValue (Pointer m kinds.Nt u) false (core.Load (Pointer m kinds.Nt u) (core.Direct k 0) None) (For (OfUnknown k))
    unbounded_fits k m u h = record { has_type = rules.load refl (rules.at_place h) rules.unbounded; is_number = λ x. absurd (cc); stands = h; scalar = refl; node = record { own = tt; based = λ b e. absurd (cc) } }

    unknown_fits : (at : Site) (k : ℕ) (t : CType) → HasPlace g types s (core.Direct k 0) t → IsKnown s.structs t → FitsNoted (unknown_typed s.structs k t at)
    unknown_fits at k Int h known site = at_place_fits Int (core.Direct k 0) h site known
    unknown_fits at k Char h known site = at_place_fits Char (core.Direct k 0) h site known
    unknown_fits at k (Struct n) h known site = h
    unknown_fits at k (Pointer modes.Checked kinds.One u) h known site = at_place_fits (Pointer modes.Checked kinds.One u) (core.Direct k 0) h site known
    unknown_fits at k (Pointer modes.Tainted kinds.One u) h known site = at_place_fits (Pointer modes.Tainted kinds.One u) (core.Direct k 0) h site known
    unknown_fits at k (Pointer modes.Raw kinds.One u) h known site = at_place_fits (Pointer modes.Raw kinds.One u) (core.Direct k 0) h site known
    unknown_fits at k (Pointer modes.Checked kinds.Array u) h known site = at_place_fits (Pointer modes.Checked kinds.Array u) (core.Direct k 0) h site known
    unknown_fits at k (Pointer modes.Tainted kinds.Array u) h known site = at_place_fits (Pointer modes.Tainted kinds.Array u) (core.Direct k 0) h site known
    unknown_fits at k (Pointer modes.Raw kinds.Array u) h known site = at_place_fits (Pointer modes.Raw kinds.Array u) (core.Direct k 0) h site known
    unknown_fits at k (Pointer m kinds.Nt u) h known site = subst (λ o. FitsValue (Pointer m kinds.Nt u) false (noted_if o (core.Load (Pointer m kinds.Nt u) (core.Direct k 0) None)) (For (OfUnknown k))) (sym (no_ended m _)) (unbounded_fits k m u h)

    -- a string is a row of characters that a zero ends
    pub text_fits : (from : ℕ) (t : FoundText) (at : Site) → text_at s.strings from ≡ Some t → t.taken ≤ 32768 → Fits (text_value s.structs t at)
    text_fits from t at found few =
        let is = found_from s.strings.variables s.strings.taken s.strings.texts from t found in
        let bytes = is.taken in
        let long = is.length in
        record {
          has_type = rules.ended_array
              (ap (slice_get g.program.objects) is.object ∙ knows.file.texts is.number is.text is.found) (omega (arith, bytes, long, few))
              (subst (IsEndedRow g.structs (shape (object_block (text_object is.text))) Char) (sym is.length) (text_row g.structs is.text)) refl
              (record { size = refl; terminated = refl });
          is_number = λ x. absurd (cc);
          stands = tt;
          scalar = refl;
          node = record { own = record { node = record { size = refl; terminated = refl }; some = omega arith; below = record { lo = tt; hi = tt } }; based = λ b e. absurd (cc) };
        }

    pub name_fits : (at : Site) (n : Named) → StandsFor g s.structs s.locals n → FitsNoted (name_typed s n at)
    name_fits at (Local k t) h = local_fits k t (is_array s.arrays k) at (of_element IsScalar types k t knows.scalar (knows.locals k t h)) h
    name_fits at (Object k t None) h = cell_object_fits k t at (rules.direct h.0.found h.0.row) h.1
    name_fits at (Object k t (Some None)) h = unknown_fits at k t (rules.direct h.0.found h.0.row) h.1
    name_fits at (Object k t (Some (Some b))) h = bounded_pointer_fits k t b at h.0 h.1
    name_fits at (Array k t n true) h = λ site.
        let size : size_of s.structs t ≡ size_of g.structs t = size_kept s.structs g.structs t knows.file.structs h.1 in
        record {
          has_type = rules.ended_array h.0.found h.0.few h.0.row refl (record { size = size; terminated = refl });
          is_number = λ x. absurd (cc);
          stands = tt;
          scalar = refl;
          node = record { own = record { node = record { size = size; terminated = refl }; some = number_sized g.structs t h.0.row.number; below = record { lo = tt; hi = tt } }; based = λ b e. absurd (cc) };
        }
    name_fits at (Array k t n false) h = λ site.
        let size : size_of s.structs t ≡ size_of g.structs t = size_kept s.structs g.structs t knows.file.structs h.1 in
        record {
          has_type = rules.array h.0.found h.0.some h.0.few h.0.rows refl (record { size = size; terminated = refl });
          is_number = λ x. absurd (cc);
          stands = tt;
          scalar = refl;
          node = record { own = record { node = record { size = size; terminated = refl }; some = array_sized g t n k h.0; below = record { lo = tt; hi = tt } }; based = λ b e. absurd (cc) };
        }
    name_fits at Nothing h = λ site. record { has_type = rules.word refl; is_number = λ x. refl; stands = tt; scalar = refl; node = tt }

  pub member_of : {p : core.Place} {n : ℕ} → HasPlace g types s p (Struct n) → (k offset : ℕ) (t : CType) (site : Site) → slice_get (slots g.structs (Struct n)) k ≡ Some (record { type = t; offset = offset }) → IsScalar t → HasPlace g types s (member_place p offset site) t
  member_of {n = n} (rules.direct {offset = first} {v = variable} found row) k offset t site slot scalar =
      rules.direct found (member_row g.structs (shape (object_block variable)) n first k offset t scalar row slot)
  member_of (rules.pointed {e = e} h) k offset t site slot scalar =
      let place : offset ≡ 0 + offset = omega arith in
      let here : HasPlace g types s (core.Through e core.First offset site) t = rules.member k h slot scalar in
      subst (λ o. HasPlace g types s (core.Through e core.First o site) t) place here
  member_of (rules.member i h found scalar') k offset t site slot scalar = absurd (cc)
  member_of (rules.element {e = e} {i = i} h elements index) k offset t site slot scalar =
      let place : offset ≡ 0 + offset = omega arith in
      let here : HasPlace g types s (core.Through e (core.Element i false) offset site) t = rules.element_member k h elements index slot scalar in
      subst (λ o. HasPlace g types s (core.Through e (core.Element i false) o site) t) place here
  member_of (rules.element_member j h elements index found scalar') k offset t site slot scalar = absurd (cc)

  checked_fits : {p : core.Place} {t : CType} → HasPlace g types s p t → (site : Site) → HasPlace g types s (checked_at p site) t
  checked_fits (rules.direct found row) site = rules.direct found row
  checked_fits (rules.pointed h) site = rules.pointed h
  checked_fits (rules.member k h found scalar) site = rules.member k h found scalar
  checked_fits (rules.element h elements index) site = rules.element h elements index
  checked_fits (rules.element_member k h elements index found scalar) site = rules.element_member k h elements index found scalar

  -- below the upper end
  below_fits : {p : core.Place} {t : CType} → HasAccess g types s p t → (site : Site) → HasPlace g types s (checked_at p site) t
  below_fits (rules.at_place h) site = checked_fits h site
  below_fits (rules.ended h elements index) site = rules.element h elements index

  -- a pointer to a place
  pointer_fits : {p : core.Place} {t : CType} → HasAccess g types s p t → (site : Site) → FitsCell (pointer_to t p site)
  pointer_fits h site = λ node known. plain_fits _ _ refl (rules.address_of (below_fits h site) (node, refl)) (record { own = (node, refl); based = λ b e. absurd (cc) })

  address_promises : (a : Typed) (site : Site) (span : Span) → Fits a → Promises FitsCell (address a site span)
  address_promises (Value type zero value ForNothing) site span h = tt
  address_promises (Value type zero value ForArray) site span h = tt
  address_promises (Value type zero value (For (OfLocal k))) site span h = tt
  address_promises (Value type zero value (For (OfCell p))) site span h = pointer_fits h.stands site
  address_promises (Value type zero value (For (OfBounded k b))) site span h = tt
  address_promises (Value type zero value (For (OfUnknown k))) site span h = tt
  address_promises (AStruct number (OfLocal k)) site span h = tt
  address_promises (AStruct number (OfCell p)) site span h = pointer_fits (rules.at_place h) site
  address_promises (AStruct number (OfBounded k b)) site span h = tt
  address_promises (AStruct number (OfUnknown k)) site span h = tt

  -- where a pointer has bounds
  elements_promise : {A : Type 0} (Q : A → Type 0) (m : Mode) (kind : Kind) (t : CType) (value : core.Expression) (span : Span) (next : Verdict A) → IsRow g.structs s.flow.vars kind t value → ((p : PointerBounds) → HasElements g.structs value (Pointer m kind t) p → Promises Q next) → Promises Q (with_elements value span next)
  elements_promise Q m kind t value span next h more = by (bounds_of value) refl h.own
    where
      by : (o : Option PointerBounds) → bounds_of value ≡ o → AreCounted g.structs s.flow.vars kind t o → Promises Q (with_elements value span next)
      by None e counted = rw e tt
      by (Some p) e counted = rw e (more p (record { bounds = e; node = at_mode m counted.node; some = counted.some }))

  pointed_promises : (type : CType) (value : core.Expression) (site : Site) (span : Span) → IsKnown s.structs type → HasType g types s value type → HasNode g.structs s.flow.vars type value → Promises FitsCell (pointed_at type value site span)
  pointed_promises Int value site span known h node = tt
  pointed_promises Char value site span known h node = tt
  pointed_promises (Struct number) value site span known h node = tt
  pointed_promises (Pointer m kinds.One t) value site span known h node = at_place_fits t (core.Through value core.First 0 site) (rules.pointed h)
  pointed_promises (Pointer m kinds.Array t) value site span known h node =
      elements_promise FitsCell m kinds.Array t value span (Passes (at_place t (first_element value site))) node (λ p elements. at_place_fits t (first_element value site) (rules.element h elements (rules.word refl)))
  pointed_promises (Pointer m kinds.Nt t) value site span known h node =
      elements_promise FitsCell m kinds.Nt t value span (Passes (at_place t (first_or_end value site))) node (λ p elements. number_at_fits t (first_or_end value site) known.0 (rules.ended h elements (rules.word refl)))

  dereferenced_promises : (a : Typed) (site : Site) (span : Span) → IsKnownTyped s.structs a → Fits a → Promises FitsCell (dereferenced a site span)
  dereferenced_promises (Value type zero value place) site span known h = pointed_promises type value site span known h.has_type h.node
  dereferenced_promises (AStruct number place) site span known h = tt

  -- ---- operators

  pub number_of_promises : {A : Type 0} (Q : A → Type 0) (a : Typed) (span : Span) (next : core.Expression → Verdict A) → Fits a → ((v : core.Expression) → HasType g types s v Int → Promises Q (next v)) → Promises Q (number_of a span next)
  number_of_promises Q (Value type zero value place) span next h more = needs_promises Q (is_number type) E13 span (next value) (λ n. more value (as_int type value n h.has_type))
  number_of_promises Q (AStruct number place) span next h more = tt

  pub scalar_of_promises : {A : Type 0} (Q : A → Type 0) (a : Typed) (span : Span) (next : core.Expression → Verdict A) → Fits a → ((v : core.Expression) (t : CType) → HasType g types s v t → Promises Q (next v)) → Promises Q (scalar_of a span next)
  scalar_of_promises Q (Value type zero value place) span next h more = more value type h.has_type
  scalar_of_promises Q (AStruct number place) span next h more = tt

  pub unary_promises : (operator : UnaryOperator) (a : Typed) (site : Site) (span : Span) → IsKnownTyped s.structs a → Fits a → Promises FitsCell (unary_typed operator a site span)
  unary_promises unary.Deref a site span known h = dereferenced_promises a site span known h
  unary_promises unary.AddressOf a site span known h = address_promises a site span h
  unary_promises unary.Negate a site span known h = number_of_promises FitsCell a span _ h (λ v n node noted. number_fits (core.Negate v site) (rules.negate n))
  unary_promises unary.Not a site span known h = scalar_of_promises FitsCell a span _ h (λ v t typed node noted. number_fits (core.Not v) (rules.inverse typed))
  unary_promises unary.Complement a site span known h = number_of_promises FitsCell a span _ h (λ v n node noted. number_fits (core.Complement v) (rules.complement n))

  pub two_numbers_promise : {A : Type 0} (Q : A → Type 0) (a b : Typed) (span : Span) (next : core.Expression → core.Expression → Verdict A) → Fits a → Fits b → ((v w : core.Expression) → HasType g types s v Int → HasType g types s w Int → Promises Q (next v w)) → Promises Q (two_numbers a b span next)
  two_numbers_promise Q a b span next ha hb more = number_of_promises Q a span _ ha (λ v n. number_of_promises Q b span _ hb (λ w m. more v w n m))

  pub without_ptr_promises : {A : Type 0} (Q : A → Type 0) (a b : Typed) (span : Span) (next : Verdict A) → (is_single_value a ≡ false → lacks_bounds a ≡ false → Promises Q next) → Promises Q (without_ptr a b span next)
  without_ptr_promises Q a b span next h =
      needs_promises Q (not (is_single_value a || is_single_value b)) E19 span _
      (λ apart. needs_promises Q (not (lacks_bounds a || lacks_bounds b)) E18 span next (λ bounds. h (first_not (is_single_value a) (is_single_value b) apart) (first_not (lacks_bounds a) (lacks_bounds b) bounds)))

  arithmetic_promises : (operator : Operator) (a b : Typed) (site : Site) (span : Span) → Fits a → Fits b → Promises Fits (two_numbers a b span (arithmetic operator site))
  arithmetic_promises operator a b site span ha hb = two_numbers_promise Fits a b span (arithmetic operator site) ha hb (λ v w n m. number_fits (core.Arithmetic operator v w site) (rules.arithmetic n m))

  pub sum_fits : (m : Mode) (kind : Kind) (t : CType) (v w : core.Expression) (direction : Direction) (site : Site) (p : PointerBounds) → Counts kind → bounds_of v ≡ Some p → HasType g types s v (Pointer m kind t) → IsRow g.structs s.flow.vars kind t v → HasType g types s w Int
      → Fits (Value (Pointer m kind t) false (core.Sum v direction w site (sum_node s.locals direction v w site)) ForNothing)
  sum_fits m kind t v w direction site p counts own h row number =
      let counted : CountElements g.structs s.flow.vars kind t p = subst (AreCounted g.structs s.flow.vars kind t) own row.own in
      let bounds = sum_bounded s.locals v direction w p site own in
      plain_fits (Pointer m kind t) _ refl (rules.sum counts h (record { bounds = own; node = at_mode m counted.node; some = counted.some }) number bounds)
      (counted_node m kind counts (record { own = sum_counted g.structs s.flow.vars kind t s.locals v direction w p counted row.based bounds; based = row.based }))

  summed_promises : (direction : Direction) (a b : Typed) (site : Site) (span : Span) → Fits a → Fits b → is_single_value a ≡ false → lacks_bounds a ≡ false → Promises Fits (summed s direction a b site span)
  summed_promises direction (Value Int z v p) b site span ha hb single lacks = arithmetic_promises (operator_along direction) (Value Int z v p) b site span ha hb
  summed_promises direction (Value Char z v p) b site span ha hb single lacks = arithmetic_promises (operator_along direction) (Value Char z v p) b site span ha hb
  summed_promises direction (Value (Struct n) z v p) b site span ha hb single lacks = tt
  summed_promises direction (Value (Pointer m kinds.One t) z v p) b site span ha hb single lacks = absurd (cc)
  summed_promises direction (Value (Pointer m kinds.Nt t) z v place) b site span ha hb single lacks =
      number_of_promises Fits b span _ hb (λ w number. by w number (bounds_of v) refl)
    where
      by : (w : core.Expression) → HasType g types s w Int → (o : Option PointerBounds) → bounds_of v ≡ o → Fits (Value (Pointer m kinds.Nt t) false (core.Sum v direction w site (sum_node s.locals direction v w site)) ForNothing)
      by w number None e = let none = rw e at lacks in absurd (cc)
      by w number (Some p) e = sum_fits m kinds.Nt t v w direction site p tt e ha.has_type ha.node number
  summed_promises direction (Value (Pointer m kinds.Array t) z v place) b site span ha hb single lacks =
      number_of_promises Fits b span _ hb (λ w number. by w number (bounds_of v) refl)
    where
      by : (w : core.Expression) → HasType g types s w Int → (o : Option PointerBounds) → bounds_of v ≡ o → Fits (Value (Pointer m kinds.Array t) false (core.Sum v direction w site (sum_node s.locals direction v w site)) ForNothing)
      by w number None e = let none = rw e at lacks in absurd (cc)
      by w number (Some p) e = sum_fits m kinds.Array t v w direction site p tt e ha.has_type ha.node number
  summed_promises direction (AStruct n place) b site span ha hb single lacks = tt

  sum_promises : (direction : Direction) (a b : Typed) (site : Site) (span : Span) → Fits a → Fits b → Promises Fits (sum_typed s direction a b site span)
  sum_promises direction a b site span ha hb = without_ptr_promises Fits a b span (summed s direction a b site span) (summed_promises direction a b site span ha hb)

  -- a pointer has the type of one
  pub record IsPointerTo (t : CType) (v : core.Expression) : Type 0 where
    pub mode : Mode
    pub kind : Kind
    pub target : CType
    pub typed : HasType g types s v (Pointer mode kind target)

  pointer_type : (t : CType) (v : core.Expression) → is_pointer t ≡ true → HasType g types s v t → IsPointerTo t v
  pointer_type Int v h typed = absurd (cc)
  pointer_type Char v h typed = absurd (cc)
  pointer_type (Struct number) v h typed = absurd (cc)
  pointer_type (Pointer m k t) v h typed = record { mode = m; kind = k; target = t; typed = typed }

  comparable_pointers : (t u : CType) → are_comparable t u ≡ true → (is_pointer t ≡ true) × (is_pointer u ≡ true)
  comparable_pointers Int u h = absurd (cc)
  comparable_pointers Char u h = absurd (cc)
  comparable_pointers (Struct number) u h = absurd (cc)
  comparable_pointers (Pointer m k t) Int h = absurd (cc)
  comparable_pointers (Pointer m k t) Char h = absurd (cc)
  comparable_pointers (Pointer m k t) (Struct number) h = absurd (cc)
  comparable_pointers (Pointer m k t) (Pointer m' k' t') h = (refl, refl)

  abbrev IsInt : core.Expression → Type 0
  IsInt v = HasType g types s v Int

  same_typed : (t u : CType) (v w : core.Expression) → IsPointerTo t v → IsPointerTo u w → IsInt (core.Same v w)
  same_typed t u v w a b = rules.same a.typed b.typed

  equated_promises : (t : CType) (z : Bool) (v : core.Expression) (u : CType) (y : Bool) (w : core.Expression) (span : Span) → HasType g types s v t → HasType g types s w u → Promises IsInt (equated_values t z v u y w span)
  equated_promises t z v u y w span hv hw = by (is_number t && is_number u) (are_comparable t u) (is_pointer t && y) (is_pointer u && z) refl refl refl refl
    where
      by : (numbers same left right : Bool) → (is_number t && is_number u) ≡ numbers → are_comparable t u ≡ same → (is_pointer t && y) ≡ left → (is_pointer u && z) ≡ right → Promises IsInt (equated_values t z v u y w span)
      by true same left right e e1 e2 e3 = let n = and_parts (is_number t) (is_number u) e in rw e (rules.compare (as_int t v n.0 hv) (as_int u w n.1 hw))
      by false true left right e e1 e2 e3 = let p = comparable_pointers t u e1 in rw (e, e1) (same_typed t u v w (pointer_type t v p.0 hv) (pointer_type u w p.1 hw))
      by false false true right e e1 e2 e3 = let p = and_parts (is_pointer t) y e2 in let a = pointer_type t v p.0 hv in rw (e, e1, e2) (rules.same a.typed (rules.null {mode = a.mode} {kind = a.kind} {t = a.target}))
      by false false false true e e1 e2 e3 = let p = and_parts (is_pointer u) z e3 in let b = pointer_type u w p.0 hw in rw (e, e1, e2, e3) (rules.same (rules.null {mode = b.mode} {kind = b.kind} {t = b.target}) b.typed)
      by false false false false e e1 e2 e3 = rw (e, e1, e2, e3) tt

  equal_promises : (a b : Typed) (span : Span) → Fits a → Fits b → Promises IsInt (equated a b span)
  equal_promises (Value t z v p) (Value u y w q) span ha hb = equated_promises t z v u y w span ha.has_type hb.has_type
  equal_promises (Value t z v p) (AStruct n q) span ha hb = tt
  equal_promises (AStruct n p) b span ha hb = tt

  -- two pointers that count from one local pointer are in order
  related_promises : (comparison : Comparison) (t : CType) (v : core.Expression) (u : CType) (w : core.Expression) (site : Site) → HasType g types s v t → HasType g types s w u → are_related t v u w ≡ true → IsInt (core.Order comparison v w site)
  related_promises comparison t v u w site hv hw related =
      let rows = and_parts (is_row t) (is_row u && have_one_base (based_bounds v) (based_bounds w)) related in
      let others = and_parts (is_row u) (have_one_base (based_bounds v) (based_bounds w)) rows.1 in
      let first = row_type t rows.0 in
      let second = row_type u others.0 in
      let one = one_base v w others.1 in
      rules.order (subst (HasType g types s v) first.is hv) one.first (subst (HasType g types s w) second.is hw) one.second

  ordered_promises : (comparison : Comparison) (t : CType) (v : core.Expression) (u : CType) (w : core.Expression) (site : Site) (span : Span) → HasType g types s v t → HasType g types s w u → Promises Fits (ordered_values comparison t v u w site span)
  ordered_promises comparison t v u w site span hv hw = by (is_number t && is_number u) (are_comparable t u) refl refl
    where
      by : (numbers same : Bool) → (is_number t && is_number u) ≡ numbers → are_comparable t u ≡ same → Promises Fits (ordered_values comparison t v u w site span)
      by true same e e1 = let n = and_parts (is_number t) (is_number u) e in rw e (number_fits (core.Compare comparison v w) (rules.compare (as_int t v n.0 hv) (as_int u w n.1 hw)))
      by false true e e1 =
          rw (e, e1) (needs_promises Fits (are_related t v u w) E26 span (number (core.Order comparison v w site)) (λ related. number_fits (core.Order comparison v w site) (related_promises comparison t v u w site hv hw related)))
      by false false e e1 = rw (e, e1) tt

  order_promises : (comparison : Comparison) (a b : Typed) (site : Site) (span : Span) → Fits a → Fits b → Promises Fits (ordered comparison a b site span)
  order_promises comparison (Value t z v p) (Value u y w q) site span ha hb = ordered_promises comparison t v u w site span ha.has_type hb.has_type
  order_promises comparison (Value t z v p) (AStruct n q) site span ha hb = tt
  order_promises comparison (AStruct n p) b site span ha hb = tt

  -- a test against the constant 0
  tested : (a b : Typed) (v : core.Expression) → Fits a → IsInt v → IsInt (zero_test a b v)
  tested (Value t z w p) (Value u true x q) v ha h = by (is_number t && is_ended_element w)
    where
      by : (test : Bool) → IsInt (picked test (core.Not w) v)
      by true = rules.inverse ha.has_type
      by false = h
  tested (Value t z w p) (Value u false x q) v ha h = h
  tested (Value t z w p) (AStruct n q) v ha h = h
  tested (AStruct n p) b v ha h = h

  -- the right operand of `&&` and of `||`, where the left one came out so
  abbrev IsRight : Bool → Typed → Typed → Type 0
  IsRight came (Value t z v p) (Value u y w q) = HasType g types (when v came s) w u
  IsRight came (Value t z v p) (AStruct n q) = Unit {0}
  IsRight came (AStruct n p) b = Unit {0}

  truths_promise : (came : Bool) (of : core.Expression → core.Expression → core.Expression) (a b : Typed) (span : Span) → ((v w : core.Expression) (t u : CType) → HasType g types s v t → HasType g types (when v came s) w u → HasType g types s (of v w) Int) → Fits a → IsRight came a b
      → Promises Fits (two_scalars a b span (λ v w. number (of v w)))
  truths_promise came of (Value t z v p) (Value u y w q) span rule ha hb = number_fits (of v w) (rule v w t u ha.has_type hb)
  truths_promise came of (Value t z v p) (AStruct n q) span rule ha hb = tt
  truths_promise came of (AStruct n p) b span rule ha hb = tt

  -- and that of each operator
  abbrev pub FitsRight : BinaryOperator → Typed → Typed → Type 0
  FitsRight binary.Or a b = IsRight false a b
  FitsRight binary.And a b = IsRight true a b
  FitsRight _ a b = Fits b

  pub binary_promises : (operator : BinaryOperator) (a b : Typed) (site : Site) (span : Span) → Fits a → FitsRight operator a b → Promises Fits (binary_typed s operator a b site span)
  binary_promises binary.Or a b site span ha hb = truths_promise false core.OrElse a b span (λ v w t u n m. rules.either n m) ha hb
  binary_promises binary.And a b site span ha hb = truths_promise true core.AndAlso a b span (λ v w t u n m. rules.both n m) ha hb
  binary_promises binary.BitOr a b site span ha hb = arithmetic_promises (operators.Bitwise bits.Or) a b site span ha hb
  binary_promises binary.BitXor a b site span ha hb = arithmetic_promises (operators.Bitwise bits.Xor) a b site span ha hb
  binary_promises binary.BitAnd a b site span ha hb = arithmetic_promises (operators.Bitwise bits.And) a b site span ha hb
  binary_promises binary.Equal a b site span ha hb = passing_promises IsInt Fits (equated a b span) number (equal_promises a b span ha hb) (λ v n. number_fits v n)
  binary_promises binary.NotEqual a b site span ha hb = passing_promises IsInt Fits (equated a b span) _ (equal_promises a b span ha hb) (λ v n. number_fits (core.Not (zero_test a b v)) (rules.inverse (tested a b v ha n)))
  binary_promises binary.Less a b site span ha hb = order_promises comparisons.Less a b site span ha hb
  binary_promises binary.LessEqual a b site span ha hb = order_promises comparisons.LessEqual a b site span ha hb
  binary_promises binary.Greater a b site span ha hb = order_promises comparisons.Greater a b site span ha hb
  binary_promises binary.GreaterEqual a b site span ha hb = order_promises comparisons.GreaterEqual a b site span ha hb
  binary_promises binary.ShiftLeft a b site span ha hb = arithmetic_promises (operators.Arithmetic arithmetics.ShiftLeft) a b site span ha hb
  binary_promises binary.ShiftRight a b site span ha hb = arithmetic_promises (operators.Arithmetic arithmetics.ShiftRight) a b site span ha hb
  binary_promises binary.Add a b site span ha hb = sum_promises directions.Forward a b site span ha hb
  binary_promises binary.Subtract a b site span ha hb = sum_promises directions.Backward a b site span ha hb
  binary_promises binary.Multiply a b site span ha hb = arithmetic_promises (operators.Arithmetic arithmetics.Multiply) a b site span ha hb
  binary_promises binary.Divide a b site span ha hb = arithmetic_promises (operators.Arithmetic arithmetics.Divide) a b site span ha hb
  binary_promises binary.Remainder a b site span ha hb = arithmetic_promises (operators.Arithmetic arithmetics.Remainder) a b site span ha hb

  element_promises : (t : CType) (v w : core.Expression) (site : Site) (span : Span) → IsKnown s.structs t → HasType g types s v t → HasNode g.structs s.flow.vars t v → HasType g types s w Int → Promises FitsCell (element_at t v w site span)
  element_promises Int v w site span known h node number = tt
  element_promises Char v w site span known h node number = tt
  element_promises (Struct n) v w site span known h node number = tt
  element_promises (Pointer m kinds.One t) v w site span known h node number = tt
  element_promises (Pointer m kinds.Nt t) v w site span known h node number =
      elements_promise FitsCell m kinds.Nt t v span _ node (λ p elements. number_at_fits t (core.Through v (core.Element w true) 0 site) known.0 (rules.ended h elements number))
  element_promises (Pointer m kinds.Array t) v w site span known h node number =
      elements_promise FitsCell m kinds.Array t v span _ node (λ p elements. at_place_fits t (core.Through v (core.Element w false) 0 site) (rules.element h elements number))

  pub indexed_promises : (a b : Typed) (site : Site) (span : Span) → IsKnownTyped s.structs a → Fits a → Fits b → Promises FitsCell (indexed a b site span)
  indexed_promises (Value t z v p) (Value u y w q) site span known ha hb =
      needs_promises FitsCell (is_pointer t && is_number u) E13 span (element_at t v w site span)
      (λ both. element_promises t v w site span known ha.has_type ha.node (as_int u w (and_parts (is_pointer t) (is_number u) both).1 hb.has_type))
  indexed_promises (Value t z v p) (AStruct n q) site span known ha hb = tt
  indexed_promises (AStruct n p) b site span known ha hb = tt
