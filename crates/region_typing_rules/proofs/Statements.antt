-- Simple statements that break no rule have types, where all locals of their function are known.
use Rattle.std.proofs.Common.{◌≡◌, ℕ, ◌≤◌, Bool, true, false, List, length, Option, Some, None, refl, sym, subst}
use Rattle.std.specs.Prelude.{slice_get}
use Rattle.std.specs.List.{AllByRecursion}
use Rattle.ckc_text.specs.declared.place.Span.{Span}
use Rattle.ckc_text.specs.declared.code.Code.TheVariants.{E17}
use Rattle.ckc_tree.specs.declared.stmt.StoreOperator.{StoreOperator}
use Rattle.ckc_tree.specs.declared.stmt.StoreOperator.TheVariants as stores
use Rattle.ckc_tree.specs.Expressions.{Expression, expression_span}
use Rattle.ckc_tree.specs.Statements as trees
use Rattle.ckc_tree.specs.Statements.{Initializer, Declarator, Declaration, Assignment, ForInitial, Statement, Statements}
use Rattle.pointer_modes.specs.declared.ctype.Mode.{Mode}
use Rattle.pointer_modes.specs.declared.ctype.Kind.{Kind}
use Rattle.pointer_modes.specs.declared.ctype.Kind.TheVariants as kinds
use Rattle.pointer_modes.specs.Types.{CType, Int, Char, Struct, Pointer}
use Rattle.ckc_core.specs.declared.program.Site.{Site}
use Rattle.act_words.specs.declared.operator.Operator.{Operator}
use Rattle.ckc_core.specs.declared.program.Direction.{Direction}
use Rattle.ckc_core.specs.declared.program.Direction.TheVariants as directions
use Rattle.ckc_core.specs.declared.program.PointerBounds.{PointerBounds}
use Rattle.bounds_exprs.specs.declared.term.Bounds.{Bounds}
use Rattle.bounds_flow.specs.Conditions.{IsFlow}
use Rattle.ckc_core.specs.Core as core
use Rattle.ckc_core.specs.Meaning.{bounds_of}
use Rattle.region_typing_rules.specs.Verdicts.{Verdict, Passes, picked}
use Rattle.bounds_flow_meaning.specs.Holding.{IsInt, AreInts}
use Rattle.region_typing_rules.specs.Scopes.{Scope}
use Rattle.region_typing_rules.specs.Types.{is_number, Counts}
use Rattle.region_typing_rules.specs.Operands.{Places, Typed, Value, AStruct, ForNothing, ForArray, For, Called, Gives, GivesNothing, Lvalue, OfLocal, OfCell, OfBounded, site_at, two_numbers, is_single_value, lacks_bounds, operator_along, sum_node, converted, bounds_met, meets, OfUnknown}
use Rattle.region_typing_rules.specs.Expressions.{typed}
use Rattle.region_typing_rules.specs.DeclaredBounds.{row_of, unwritten_bounds}
use Rattle.region_typing_rules.specs.Statements.{both, store, updated_place, update, assigned, set_to, declared_for, meets_declared, moved, updated_as, updated, stored, step_of, one, assignment, zero_value, initialised, in_loop, condition, optional_condition, alone}
use Rattle.region_typing_rules.specs.Typed as rules
use Rattle.region_typing_rules.specs.Typed.{Frame, HasType, HasPlace, IsReturned, IsSimple, IsStatement, AreStatements, IsScalar, HasAccess, IsAsked}
use Rattle.region_typing_rules.proofs.Verdicts.{Promises, passing_promises, needs_promises, Extends}
use Rattle.region_typing_rules.proofs.InForce.{AreSo, IsPointing}
use Rattle.region_typing_rules.proofs.Knowledge.{KnowsFile, Knows}
use Rattle.region_typing_rules.proofs.Nodes.{IsRow}
use Rattle.region_typing_rules.proofs.Operands.{FitsPlace, Fits, FitsCall, without_ptr_promises, number_of_promises, two_numbers_promise, sum_fits, scalar_of_promises}
use Rattle.region_typing_rules.proofs.Conversions.{met_promises, converted_promises, so_converted, result_type_met, result_asked, row_asked}
use Rattle.region_typing_rules.proofs.Expressions.{typed_promises}
use Rattle.region_typing_rules.proofs.Growth.{Grows}

module _ (g : Frame) (types : List CType) (all_scalar : AllByRecursion IsScalar types) where
  -- a statement that is one in every function and loop
  abbrev pub IsAny : core.Statement → Type 0
  IsAny x = (result : Option CType) (bounds : Option Bounds) (loop : Bool) → IsStatement g types result bounds loop x

  pub simple_any : (s : Scope) (x : core.Statement) → IsSimple g types s x → IsAny x
  simple_any s x h = λ result bounds loop. rules.simple h

  pub zero_typed : (s : Scope) (t : CType) → IsScalar t → HasType g types s (zero_value t) t
  zero_typed s Int h = rules.word refl
  zero_typed s Char h = rules.byte refl
  zero_typed s (Struct n) h = absurd (cc)
  zero_typed s (Pointer m k t) h = rules.null

  -- an expression with some type
  pub record IsScalarValue (s : Scope) (e : core.Expression) : Type 0 where
    pub type : CType
    pub typed : HasType g types s e type

  module _ (s : Scope) where
    -- a statement with types in the scope
    abbrev IsHere : core.Statement → Type 0
    IsHere x = IsSimple g types s x

    -- ---- assignments

    assigned_promises : (Q : core.Statement → Type 0) (target : Typed) (span : Span) (next : CType → Lvalue → Verdict core.Statement) → Fits g types s target → ((type : CType) (place : Lvalue) → FitsPlace g types s type (For place) → IsScalar type → Promises Q (next type place)) → Promises Q (assigned target span next)
    assigned_promises Q (Value type zero value ForNothing) span next h more = tt
    assigned_promises Q (Value type zero value ForArray) span next h more = tt
    assigned_promises Q (Value type zero value (For place)) span next h more = more type place h.stands h.scalar
    assigned_promises Q (AStruct number place) span next h more = tt

    -- what is asked of a value that goes there is so
    store_typed : (place : Lvalue) (type : CType) (value : core.Expression) → FitsPlace g types s type (For place) → IsScalar type → HasType g types s value type → IsReturned g.structs s value type (declared_for place type) → IsHere (store place type value)
    store_typed (OfLocal k) type value h scalar typed asked = rules.set_local h typed
    store_typed (OfCell p) type value h scalar typed asked = rules.store scalar h typed
    store_typed (OfUnknown k) type value h scalar typed asked = rules.store scalar (rules.at_place h) typed
    store_typed (OfBounded k b) type value h scalar typed asked =
        subst (λ t. IsHere (core.Store t (core.Direct k 0) value)) (sym h.own)
        (rules.store_bounded h.counts h.object (subst (HasType g types s value) h.own typed) (asked_there h.mode h.kind h.element b value h.counts (subst (λ t. IsReturned g.structs s value t (Some b)) h.own asked)))
      where
        asked_there : (m : Mode) (kind : Kind) (t : CType) (b : Bounds) (value : core.Expression) → Counts kind → IsReturned g.structs s value (Pointer m kind t) (Some b) → IsAsked g.structs s value b
        asked_there m kinds.One t b value counts asked = absurd counts
        asked_there m kinds.Array t b value counts asked = asked
        asked_there m kinds.Nt t b value counts asked = asked

    updated_typed : {p : core.Place} {t : CType} → HasPlace g types s p t → (site : Site) → HasPlace g types s (updated_place p site) t
    updated_typed (rules.direct found row) site = rules.direct found row
    updated_typed (rules.pointed h) site = rules.pointed h
    updated_typed (rules.member k h found scalar) site = rules.member k h found scalar
    updated_typed (rules.element h elements index) site = rules.element h elements index
    updated_typed (rules.element_member k h elements index found scalar) site = rules.element_member k h elements index found scalar

    updated_access : {p : core.Place} {t : CType} → HasAccess g types s p t → (site : Site) → HasAccess g types s (updated_place p site) t
    updated_access (rules.at_place h) site = rules.at_place (updated_typed h site)
    updated_access (rules.ended h elements index) site = rules.ended h elements index

    update_typed : (place : Lvalue) (type : CType) (operator : Operator) (value : core.Expression) (site : Site) → FitsPlace g types s type (For place) → is_number type ≡ true → HasType g types s value Int → IsHere (update place type operator value site)
    update_typed (OfLocal k) type operator value site h number typed = rules.update_local h number refl typed
    update_typed (OfCell p) type operator value site h number typed = rules.update number (updated_access h site) typed
    update_typed (OfUnknown k) type operator value site h number typed = rules.update number (rules.at_place h) typed
    update_typed (OfBounded k b) type operator value site h number typed = absurd (let pointer : is_number (Pointer h.mode h.kind h.element) ≡ true = subst (λ t. is_number t ≡ true) h.own number in cc)

    -- the bounds that are declared for where a value goes speak of no variable
    unwritten_ints : (type : CType) (b : Bounds) → unwritten_bounds type ≡ Some b → AreInts s.locals b
    unwritten_ints Int b e = absurd (cc)
    unwritten_ints Char b e = absurd (cc)
    unwritten_ints (Struct n) b e = absurd (cc)
    unwritten_ints (Pointer m kinds.One t) b e = absurd (cc)
    unwritten_ints (Pointer m kinds.Array t) b e = absurd (cc)
    unwritten_ints (Pointer m kinds.Nt t) b e = by (is_number t) e
      where
        by : (test : Bool) → picked test (Some (row_of 0)) None ≡ Some b → AreInts s.locals b
        by true q = let same : row_of 0 ≡ b = cc in subst (AreInts s.locals) same (record { lo = tt; hi = tt })
        by false q = absurd (cc)

    declared_ints : (place : Lvalue) (type : CType) → FitsPlace g types s type (For place) → (b : Bounds) → declared_for place type ≡ Some b → AreInts s.locals b
    declared_ints (OfLocal k) type h b e = absurd (cc)
    declared_ints (OfCell p) type h b e = unwritten_ints type b e
    declared_ints (OfUnknown k) type h b e = absurd (cc)
    declared_ints (OfBounded k d) type h b e =
        let same : d ≡ b = cc in
        let c = h.object.constant in
        subst (AreInts s.locals) same (record { lo = subst (IsInt s.locals) (sym c.lo) tt; hi = subst (IsInt s.locals) (sym c.hi) tt })

    numbers_updated : (direction : Direction) (type : CType) (zero : Bool) (value : core.Expression) (place : Lvalue) (right : Typed) (site : Site) (span : Span) → is_number type ≡ true → Fits g types s (Value type zero value (For place)) → Fits g types s right
        → Promises IsHere (two_numbers (Value type zero value (For place)) right span (λ old v. Passes (update place type (operator_along direction) v site)))
    numbers_updated direction type zero value place right site span number ht hr =
        two_numbers_promise g types s IsHere (Value type zero value (For place)) right span (λ old v. Passes (update place type (operator_along direction) v site)) ht hr (λ old v o typed. update_typed place type (operator_along direction) v site ht.stands number typed)

    one_fits : Fits g types s one
    one_fits = record { has_type = rules.word refl; is_number = λ x. refl; stands = tt; scalar = refl; node = tt }

    module _ (knows : Knows g types s) where
      -- a pointer becomes a sum of it
      moved_promises : (place : Lvalue) (m : Mode) (kind : Kind) (t : CType) (sum : core.Expression) (span : Span) → Counts kind → FitsPlace g types s (Pointer m kind t) (For place) → HasType g types s sum (Pointer m kind t) → IsRow g.structs s.flow.vars kind t sum
          → Promises IsHere (moved s.flow place (Pointer m kind t) sum span)
      moved_promises (OfLocal k) m kind t sum span counts h typed node = rules.set_local h typed
      moved_promises (OfCell p) m kind t sum span counts h typed node = needs_promises IsHere (meets s.flow sum (unwritten_bounds (Pointer m kind t))) E17 span _ (λ met. tt)
      moved_promises (OfUnknown k) m kind t sum span counts h typed node = tt
      moved_promises (OfBounded k b) m kind t sum span counts h typed node =
          needs_promises IsHere (meets s.flow sum (Some b)) E17 span _
          (λ met. store_typed (OfBounded k b) (Pointer m kind t) sum h refl typed (returned_there m kind t sum b counts (row_asked g types s knows kind t sum b node (declared_ints (OfBounded k b) (Pointer m kind t) h b refl) met)))
        where
          returned_there : (m : Mode) (kind : Kind) (t : CType) (value : core.Expression) (b : Bounds) → Counts kind → IsAsked g.structs s value b → IsReturned g.structs s value (Pointer m kind t) (Some b)
          returned_there m kinds.One t value b counts asked = tt
          returned_there m kinds.Array t value b counts asked = asked
          returned_there m kinds.Nt t value b counts asked = asked

      updated_as_promises : (direction : Direction) (type : CType) (zero : Bool) (value : core.Expression) (place : Lvalue) (right : Typed) (site : Site) (span : Span) → Fits g types s (Value type zero value (For place)) → Fits g types s right
          → is_single_value (Value type zero value (For place)) ≡ false → lacks_bounds (Value type zero value (For place)) ≡ false → Promises IsHere (updated_as s direction type place (Value type zero value (For place)) right site span)
      updated_as_promises direction Int zero value place right site span ht hr single lacks = numbers_updated direction Int zero value place right site span refl ht hr
      updated_as_promises direction Char zero value place right site span ht hr single lacks = numbers_updated direction Char zero value place right site span refl ht hr
      updated_as_promises direction (Struct n) zero value place right site span ht hr single lacks = tt
      updated_as_promises direction (Pointer m kinds.One t) zero value place right site span ht hr single lacks = absurd (cc)
      updated_as_promises direction (Pointer m kinds.Nt t) zero value place right site span ht hr single lacks =
          number_of_promises g types s IsHere right span _ hr (λ w number. by w number (bounds_of value) refl)
        where
          by : (w : core.Expression) → HasType g types s w Int → (o : Option PointerBounds) → bounds_of value ≡ o → Promises IsHere (moved s.flow place (Pointer m kinds.Nt t) (core.Sum value direction w site (sum_node s.locals direction value w site)) span)
          by w number None e = let none = rw e at lacks in absurd (cc)
          by w number (Some p) e =
              let sum = core.Sum value direction w site (sum_node s.locals direction value w site) in
              let fits = sum_fits g types s m kinds.Nt t value w direction site p tt e ht.has_type ht.node number in
              moved_promises place m kinds.Nt t sum span tt ht.stands fits.has_type fits.node
      updated_as_promises direction (Pointer m kinds.Array t) zero value place right site span ht hr single lacks =
          number_of_promises g types s IsHere right span _ hr (λ w number. by w number (bounds_of value) refl)
        where
          by : (w : core.Expression) → HasType g types s w Int → (o : Option PointerBounds) → bounds_of value ≡ o → Promises IsHere (moved s.flow place (Pointer m kinds.Array t) (core.Sum value direction w site (sum_node s.locals direction value w site)) span)
          by w number None e = let none = rw e at lacks in absurd (cc)
          by w number (Some p) e =
              let sum = core.Sum value direction w site (sum_node s.locals direction value w site) in
              let fits = sum_fits g types s m kinds.Array t value w direction site p tt e ht.has_type ht.node number in
              moved_promises place m kinds.Array t sum span tt ht.stands fits.has_type fits.node

      updated_promises : (at : Places) (direction : Direction) (target right : Typed) (span : Span) → Fits g types s target → Fits g types s right → Promises IsHere (updated at s direction target right span)
      updated_promises at direction (Value type zero value ForNothing) right span ht hr = tt
      updated_promises at direction (Value type zero value ForArray) right span ht hr = tt
      updated_promises at direction (Value type zero value (For place)) right span ht hr =
          without_ptr_promises g types s IsHere (Value type zero value (For place)) right span _ (updated_as_promises direction type zero value place right (site_at at span) span ht hr)
      updated_promises at direction (AStruct number place) right span ht hr = tt

      -- a value of a type, where its bounds are met
      value_promises : (Q : core.Statement → Type 0) (t : Typed) (type : CType) (span : Span) (of : core.Expression → core.Statement) → Fits g types s t → ((v : core.Expression) → HasType g types s v type → Q (of v))
          → Promises Q (converted t type span (λ v. bounds_met s.flow t type span (Passes (of v))))
      value_promises Q t type span of h more =
          converted_promises g types s knows Q t type span _ h (λ v typed. met_promises g types s Q t type span (Passes (of v)) (λ met. more v (typed met)))

      set_promises : (target right : Typed) (span : Span) → Fits g types s target → Fits g types s right → Promises IsHere (set_to s.flow target right span)
      set_promises target right span ht hr =
          assigned_promises IsHere target span _ ht
          (λ type place h scalar. so_converted g types s knows IsHere right type span _ hr
          (λ v is typed. needs_promises IsHere (meets_declared s.flow (declared_for place type) right type) E17 span _
          (λ met. store_typed place type v h scalar (typed (result_type_met g types s knows (declared_for place type) right type met)) (result_asked g types s knows (declared_for place type) right type v (declared_ints place type h) hr is met))))

      stored_promises : (at : Places) (operator : StoreOperator) (target right : Typed) (span : Span) → Fits g types s target → Fits g types s right → Promises IsHere (stored at s operator target right span)
      stored_promises at stores.Set target right span ht hr = set_promises target right span ht hr
      stored_promises at stores.Add target right span ht hr = updated_promises at directions.Forward target right span ht hr
      stored_promises at stores.Subtract target right span ht hr = updated_promises at directions.Backward target right span ht hr

  pub assignment_promises : (at : Places) (s : Scope) → Knows g types s → (a : Assignment) → Promises (IsSimple g types s) (assignment at s a)
  assignment_promises at s knows (trees.Store operator target value span) =
      passing_promises (Fits g types s) (IsSimple g types s) (typed at s target) _ (typed_promises g types s knows at target)
      (λ a ha. passing_promises (Fits g types s) (IsSimple g types s) (typed at s value) _ (typed_promises g types s knows at value) (λ b hb. stored_promises s knows at operator a b span ha hb))
  assignment_promises at s knows (trees.Step operator side target span) =
      passing_promises (Fits g types s) (IsSimple g types s) (typed at s target) _ (typed_promises g types s knows at target) (λ a ha. updated_promises s knows at (step_of operator) a one span ha (one_fits s))

  -- ---- conditions and results

  pub condition_promises : (at : Places) (s : Scope) → Knows g types s → (x : Expression) → Promises (IsScalarValue s) (condition at s x)
  condition_promises at s knows x =
      passing_promises (Fits g types s) (IsScalarValue s) (typed at s x) _ (typed_promises g types s knows at x)
      (λ t h. scalar_of_promises g types s (IsScalarValue s) t (expression_span x) Passes h (λ v u typed. record { type = u; typed = typed }))

  pub optional_promises : (at : Places) (s : Scope) → Knows g types s → (o : Option Expression) → Promises (IsScalarValue s) (optional_condition at s o)
  optional_promises at s knows None = record { type = Int; typed = rules.word refl }
  optional_promises at s knows (Some x) = condition_promises at s knows x

  pub alone_typed : (s : Scope) (c : Called) → FitsCall g types s c → IsSimple g types s (alone c)
  alone_typed s (Gives type value) h = rules.evaluate h.0
  alone_typed s (GivesNothing call) h = h

  -- ---- locals

  pub initialised_promises : (at : Places) (s : Scope) → Knows g types s → (o : Option Initializer) (t : CType) (k : ℕ) (span : Span) → slice_get types k ≡ Some t → Promises (IsSimple g types s) (initialised at s o t k span)
  initialised_promises at s knows None t k span there = rules.nothing
  initialised_promises at s knows (Some (trees.Value value)) t k span there =
      passing_promises (Fits g types s) (IsSimple g types s) (typed at s value) _ (typed_promises g types s knows at value) (λ x h. value_promises s knows (IsSimple g types s) x t span (core.SetLocal k) h (λ v typed. rules.set_local there typed))
  initialised_promises at s knows (Some (trees.Constants constants list)) t k span there = tt

  pub both_typed : (x y : core.Statement) → IsAny x → IsAny y → IsAny (both x y)
  both_typed x y hx hy = λ result bounds loop. rules.block (rules.then_more (hx result bounds loop) (rules.then_more (hy result bounds loop) rules.no_more))

  -- all locals of a scope are among those of the function
  abbrev pub Reaches : Scope → Type 0
  Reaches s = Extends s.locals types

  pub knows_from : (s : Scope) → KnowsFile g s → IsFlow s.flow → AreSo (IsPointing s.locals) s.flow → length s.locals ≤ s.flow.vars → ((b : Bounds) → s.result_bounds ≡ Some b → AreInts s.locals b) → Reaches s → Knows g types s
  knows_from s file flow pointers few result reaches = record { file = file; flow = flow; pointers = pointers; few = few; result = result; locals = reaches; scalar = all_scalar }

  -- where its locals are reached, what is behind it has a type
  abbrev pub Becomes : {A : Type 0} → (A → Type 0) → A × Scope → Type 0
  Becomes P w = Reaches w.1 → P w.0

  pub earlier : (a b : Scope) → Grows a b → Reaches b → Reaches a
  earlier a b h reaches = λ k x e. reaches k x (h.locals k x e)

  -- what is typed behind others is typed as they are
  abbrev pub IsIn : Scope → core.Statement → Type 0
  IsIn s x = IsStatement g types s.result s.result_bounds s.in_loop x

  abbrev pub AreIn : Scope → core.Statements → Type 0
  AreIn s xs = AreStatements g types s.result s.result_bounds s.in_loop xs

  pub statement_from : (a b : Scope) (x : core.Statement) → Grows a b → IsIn b x → IsIn a x
  statement_from a b x h typed = subst (λ r. IsStatement g types r a.result_bounds a.in_loop x) (sym h.result) (subst (λ k. IsStatement g types b.result k a.in_loop x) (sym h.asked) (subst (λ l. IsStatement g types b.result b.result_bounds l x) (sym h.loop) typed))

  pub statements_from : (a b : Scope) (xs : core.Statements) → Grows a b → AreIn b xs → AreIn a xs
  statements_from a b xs h typed = subst (λ r. AreStatements g types r a.result_bounds a.in_loop xs) (sym h.result) (subst (λ k. AreStatements g types b.result k a.in_loop xs) (sym h.asked) (subst (λ l. AreStatements g types b.result b.result_bounds l xs) (sym h.loop) typed))

pub in_loop_known : (g : Frame) (s : Scope) → KnowsFile g s → KnowsFile g (in_loop s)
in_loop_known g s file = record { structs = file.structs; closed = file.closed; few_members = file.few_members; scalar_members = file.scalar_members; variables = file.variables; texts = file.texts; trusted = file.trusted; tainted = file.tainted }
