-- Conversions, calls and members that break no rule have types.
use Rattle.std.proofs.Common.{◌≡◌, ℕ, suc, Bool, true, false, List, [], ◌∷◌, map, replicate, length, Option, Some, None, ◌<◌, refl, sym, ap, ◌∙◌, subst, arith, ⊎_elim, inl}
use Rattle.std.specs.Prelude.{◌==◌, slice_get, ◌&&◌, ◌||◌, is_some}
use Rattle.std.specs.List.{AllByRecursion}
use Rattle.std.proofs.lemmas.Bool.{and_parts, or_cases, eqb-true}
use Rattle.ckc_text.specs.declared.place.Span.{Span}
use Rattle.ckc_text.specs.declared.code.Code.TheVariants.{E13, E14, E17, E18}
use Rattle.pointer_modes.specs.declared.ctype.Mode.{Mode}
use Rattle.pointer_modes.specs.declared.ctype.Mode.TheVariants as modes
use Rattle.pointer_modes.specs.declared.ctype.Kind.{Kind}
use Rattle.pointer_modes.specs.declared.ctype.Kind.TheVariants as kinds
use Rattle.pointer_modes.specs.Types.{CType, Int, Char, Struct, Pointer, members_of}
use Rattle.pointer_modes.specs.Layout.{cells_of, size_of}
use Rattle.ckc_core.specs.declared.program.Site.{Site}
use Rattle.ckc_core.specs.declared.program.Callee.{Callee}
use Rattle.ckc_core.specs.declared.program.Callee.TheVariants as callees
use Rattle.ckc_core.specs.declared.program.PointerBounds.{PointerBounds}
use Rattle.ckc_core.specs.Core as core
use Rattle.ckc_core.specs.Meaning.{bounds_of}
use Rattle.ckc_core.specs.States.{same_mode, same_type}
use Rattle.ckc_core.proofs.Elements.{of_element}
use Rattle.ckc_names_rules.specs.declared.given.Given.{Given}
use Rattle.bounds_exprs.specs.declared.term.Bounds.{Bounds}
use Rattle.bounds_exprs.specs.declared.term.Term.{Term}
use Rattle.bounds_flow.specs.Conditions.{AreEndsBelow}
use Rattle.bounds_flow.specs.Settling.{bounds_find}
use Rattle.bounds_flow_meaning.specs.Holding.{at_node, is_ended}
use Rattle.bounds_flow_meaning.proofs.AllSteps.{flows_hold}
use Rattle.region_typing_rules.specs.Verdicts.{Verdict, Passes, picked}
use Rattle.region_typing_rules.specs.Scopes.{Scope, Signature, WrittenBounds, bounds_in, named, function_named, members_named}
use Rattle.region_typing_rules.specs.Types.{is_number, kind_converts, pointer_converts, converts, Counts}
use Rattle.region_typing_rules.specs.Readings.{own_bounds, based_bounds, is_null, is_pointer_type, pointer_local, term}
use Rattle.region_typing_rules.specs.Operands.{OfLocal, OfCell, OfBounded, Standing, Typed, Value, AStruct, Called, Gives, GivesNothing, bounds_at, one_element, number, at_place, member_place, member_from, offset_among, member_at, dotted, first_element, pointed_by, arrowed, as_pointer, is_met, in_type, asked_as, asked_of, meets, bounds_met, converted, OfUnknown}
use Rattle.region_typing_rules.specs.Calls.{arguments_as, arguments_met, is_import, side_number, callee_of, call_of, first_of, writes, predefined_call, called, with_result, argument_meets, at_call, meets_all, pointer_for, pointers_for, term_for, terms_for, call_bounds, result_at, is_text, length_typed, text_pointer, measures}
use Rattle.region_typing_rules.specs.Expressions.{typed}
use Rattle.bounds_flow_meaning.specs.Sums.{counted}
use Rattle.region_typing_rules.specs.Typed as rules
use Rattle.region_typing_rules.specs.Typed.{Frame, AreAsked, AreOfResult, HasCallBounds, HasResultBounds, HaveRows, IsAsked, IsAskedAt, IsCallee, IsReturned, pointers_of, term_of, terms_of, LeadsToOne, HasType, HaveTypes, HasPlace, IsSimple, IsScalar, IsScalarResult, IsNumberResult}
use Rattle.region_typing_rules.proofs.Verdicts.{Promises, passing_promises, needs_promises, convertible_promises, anything_promised}
use Rattle.region_typing_rules.proofs.Known.{IsKnown, IsKnownResult, IsSizedResult, size_kept, bounds_kept}
use Rattle.region_typing_rules.proofs.Signatures.{named_has}
use Rattle.region_typing_rules.proofs.Knowledge.{IsNumberType, IsTrusted, IsTainted, Knows, crossing_promises, HasMember, IfMember, member_there, member_slot}
use Rattle.region_typing_rules.proofs.SameTypes.{mode_equal, same_equal}
use Rattle.region_typing_rules.proofs.Alike.{alike_here}
use Rattle.region_typing_rules.specs.Statements.{meets_declared}
use Rattle.bounds_exprs.specs.Changes.{ends_filled_in}
use Rattle.bounds_flow_meaning.specs.Holding.{AreInts}
use Rattle.region_typing_rules.proofs.Asked.{AreTerms, HasEndsBelow, are_terms, asked_at, asked_so, ends_below, result_at_so}
use Rattle.bounds_exprs.specs.declared.term.Term.{Term}
use Rattle.region_typing_rules.proofs.Told.{null_is}
use Rattle.region_typing_rules.proofs.Nodes.{AreCounted, CountElements, HasNode, IsRow, MeetsEnds, at_mode, based_unmet, counted_node, ended_alike, no_ended, node_with, number_scalar, one_met, single_below}
use Rattle.region_typing_rules.proofs.Operands.{Fits, FitsCall, FitsCell, as_int, at_place_fits, member_of, plain_fits}

module _ (g : Frame) (types : List CType) (s : Scope) where
  -- ---- what conversions ask of bounds

  -- the bounds of a value meet those that are asked for, where it becomes one of the type
  abbrev pub AreMet : Typed → CType → Type 0
  AreMet (Value type zero value place) to = (zero || meets s.flow value (asked_of type to)) ≡ true
  AreMet (AStruct number place) to = Unit {0}

  pub met_promises : {A : Type 0} (Q : A → Type 0) (a : Typed) (to : CType) (span : Span) (next : Verdict A) → (AreMet a to → Promises Q next) → Promises Q (bounds_met s.flow a to span next)
  met_promises Q (Value type zero value place) to span next h = needs_promises Q (zero || meets s.flow value (asked_of type to)) E17 span next h
  met_promises Q (AStruct number place) to span next h = h tt

  -- the same of arguments and the types of their parameters
  abbrev AreAllMet : List (Typed × Span) → List CType → Type 0
  AreAllMet [] ts = Unit {0}
  AreAllMet (a ∷ arguments) [] = Unit {0}
  AreAllMet (a ∷ arguments) (t ∷ ts) = AreMet a.0 t × AreAllMet arguments ts

  -- and of arguments, the types of their parameters and the bounds of these
  abbrev AllMet : List (Option Term) → List (Option ℕ) → List (Typed × Span) → List CType → List WrittenBounds → Type 0
  AllMet terms pointers [] ts bounds = Unit {0}
  AllMet terms pointers (a ∷ arguments) [] bounds = Unit {0}
  AllMet terms pointers (a ∷ arguments) (t ∷ ts) [] = (argument_meets s.flow terms pointers a.0 t None ≡ true) × AllMet terms pointers arguments ts []
  AllMet terms pointers (a ∷ arguments) (t ∷ ts) (b ∷ bounds) = (argument_meets s.flow terms pointers a.0 t (bounds_in b) ≡ true) × AllMet terms pointers arguments ts bounds

  arguments_met_promise : {A : Type 0} (Q : A → Type 0) (terms : List (Option Term)) (pointers : List (Option ℕ)) (arguments : List (Typed × Span)) (ts : List CType) (bounds : List WrittenBounds) (next : Verdict A)
      → (AllMet terms pointers arguments ts bounds → Promises Q next) → Promises Q (arguments_met s.flow terms pointers arguments ts bounds next)
  arguments_met_promise Q terms pointers [] ts bounds next h = h tt
  arguments_met_promise Q terms pointers (a ∷ arguments) [] bounds next h = h tt
  arguments_met_promise Q terms pointers (a ∷ arguments) (t ∷ ts) [] next h =
      needs_promises Q (argument_meets s.flow terms pointers a.0 t None) E17 a.1 _ (λ first. arguments_met_promise Q terms pointers arguments ts [] next (λ others. h (first, others)))
  arguments_met_promise Q terms pointers (a ∷ arguments) (t ∷ ts) (b ∷ bounds) next h =
      needs_promises Q (argument_meets s.flow terms pointers a.0 t (bounds_in b)) E17 a.1 _ (λ first. arguments_met_promise Q terms pointers arguments ts bounds next (λ others. h (first, others)))

  either_true : (test : Bool) → (test || true) ≡ true
  either_true true = refl
  either_true false = refl

  -- nothing is asked of a number
  number_met : (a : Typed) → AreMet a Int
  number_met (Value Int zero value place) = either_true zero
  number_met (Value Char zero value place) = either_true zero
  number_met (Value (Struct n) zero value place) = either_true zero
  number_met (Value (Pointer m k t) zero value place) = either_true zero
  number_met (AStruct number place) = tt

  all_met : (arguments : List (Typed × Span)) → AreAllMet arguments (Int ∷ [])
  all_met [] = tt
  all_met (a ∷ []) = (number_met a.0, tt)
  all_met (a ∷ b ∷ arguments) = (number_met a.0, tt)

  -- nothing is asked by its type of a pointer that counts elements
  row_met : (zero : Bool) (value : core.Expression) (type : CType) (m : Mode) (kind : Kind) (u : CType) → Counts kind → (zero || meets s.flow value (asked_of type (Pointer m kind u))) ≡ true
  row_met zero value Int m kind u counts = either_true zero
  row_met zero value Char m kind u counts = either_true zero
  row_met zero value (Struct n) m kind u counts = either_true zero
  row_met zero value (Pointer m' from t) m kinds.One u counts = absurd counts
  row_met zero value (Pointer m' kinds.One t) m kinds.Array u counts = either_true zero
  row_met zero value (Pointer m' kinds.Array t) m kinds.Array u counts = either_true zero
  row_met zero value (Pointer m' kinds.Nt t) m kinds.Array u counts = either_true zero
  row_met zero value (Pointer m' kinds.One t) m kinds.Nt u counts = either_true zero
  row_met zero value (Pointer m' kinds.Array t) m kinds.Nt u counts = either_true zero
  row_met zero value (Pointer m' kinds.Nt t) m kinds.Nt u counts = either_true zero

  -- a type that has bounds
  abbrev IsRowOf : CType → Type 0
  IsRowOf t = (m : Mode) × (k : Kind) × (u : CType) × (t ≡ Pointer m k u) × Counts k

  -- where an argument meets the bounds of its parameter, it meets those that its type asks for
  type_met : (terms : List (Option Term)) (pointers : List (Option ℕ)) (a : Typed) (t : CType) (o : Option Bounds) → ((b : Bounds) → o ≡ Some b → IsRowOf t) → argument_meets s.flow terms pointers a t o ≡ true → AreMet a t
  type_met terms pointers (Value type zero value place) t None row h = h
  type_met terms pointers (Value type zero value place) t (Some b) row h = let it = row b refl in subst (λ t. (zero || meets s.flow value (asked_of type t)) ≡ true) (sym it.3) (row_met zero value type it.0 it.1 it.2 it.4)
  type_met terms pointers (AStruct number place) t o row h = tt

  types_met : (terms : List (Option Term)) (pointers : List (Option ℕ)) (arguments : List (Typed × Span)) (ts : List CType) (bounds : List WrittenBounds) → HaveRows ts (map bounds_in bounds) → AllMet terms pointers arguments ts bounds → AreAllMet arguments ts
  types_met terms pointers [] ts bounds rows h = tt
  types_met terms pointers (a ∷ arguments) [] bounds rows h = tt
  types_met terms pointers (a ∷ arguments) (t ∷ ts) [] rows h = (type_met terms pointers a.0 t None (λ b e. absurd (cc)) h.0, types_met terms pointers arguments ts [] (λ x b e. absurd (cc)) h.1)
  types_met terms pointers (a ∷ arguments) (t ∷ ts) (b ∷ bounds) rows h = (
    type_met terms pointers a.0 t (bounds_in b) (λ d e. let it = rows 0 d (ap Some e) in (it.0, it.1, it.2, same_type t (Pointer it.0 it.1 it.2) it.3, it.4)) h.0,
    types_met terms pointers arguments ts bounds (λ x d e. rows (suc x) d e) h.1,
  )
    where
      same_type : (t u : CType) → Some t ≡ Some u → t ≡ u
      same_type t u q = cc

  -- what converted a value
  abbrev pub IsConverted : Typed → CType → core.Expression → Type 0
  IsConverted (Value type zero value place) t v = (converts type zero t ≡ true) × (v ≡ in_type t (zero && is_number type) value)
  IsConverted (AStruct number place) t v = ⊥

  abbrev AreConverted : List (Typed × Span) → List CType → core.Arguments → Type 0
  AreConverted [] ts core.Done = Unit {0}
  AreConverted [] ts (core.More v rest) = ⊥
  AreConverted (a ∷ arguments) [] values = ⊥
  AreConverted (a ∷ arguments) (t ∷ ts) core.Done = ⊥
  AreConverted (a ∷ arguments) (t ∷ ts) (core.More v rest) = IsConverted a.0 t v × AreConverted arguments ts rest

  -- ---- calls

  abbrev pub AllFit : List (Typed × Span) → Type 0
  AllFit [] = Unit {0}
  AllFit (a ∷ arguments) = Fits g types s a.0 × AllFit arguments

  -- numbers cross as ints
  crossing : {values : core.Arguments} {ts : List CType} → HaveTypes g types s values ts → AllByRecursion IsNumberType ts → HaveTypes g types s values (replicate (length ts) Int)
  crossing rules.done all = rules.done
  crossing (rules.more {e = v} {t = t} h hs) all = rules.more (as_int g types s t v all.0 h) (crossing hs all.1)

  scalar_result : (result : Option CType) → IsNumberResult result → IsScalarResult result
  scalar_result None h = tt
  scalar_result (Some t) h = number_scalar t h

  trusted_callee : (number : ℕ) (f : Signature) → IsTrusted g number f → IsCallee g (callees.Trusted number) f.parameters (map bounds_in f.bounds) f.result (bounds_in f.result_bounds)
  trusted_callee number f is =
      let bs = map bounds_in f.bounds in
      let r = bounds_in f.result_bounds in
      subst (λ result. IsCallee g (callees.Trusted number) f.parameters bs result r) is.result
      (subst (λ ts. IsCallee g (callees.Trusted number) ts bs is.function.result r) is.parameters
      (rules.trusted is.found is.bounds is.told (subst (λ ts. HaveRows ts bs) (sym is.parameters) is.rows)
      (subst (λ ts. HasResultBounds ts is.function.result r) (sym is.parameters) (subst (λ result. HasResultBounds f.parameters result r) (sym is.result) is.sound))))

  tainted_callee : (number : ℕ) (f : Signature) (site : Site) → IsTainted g number f → IsCallee g (callees.Tainted number site) (replicate (length f.parameters) Int) [] f.result None
  tainted_callee number f site is =
      subst (λ result. IsCallee g (callees.Tainted number site) (replicate (length f.parameters) Int) [] result None) is.result
      (subst (λ n. IsCallee g (callees.Tainted number site) (replicate n Int) [] is.import.result None) is.parameters
      (rules.tainted is.found (subst IsNumberResult (sym is.result) is.number_result)))

  pub with_result_promises : (c : Called) (span : Span) → FitsCall g types s c → Promises (Fits g types s) (with_result c span)
  with_result_promises (Gives type value) span h = plain_fits g types s type value h.1.0 h.0 h.1.1
  with_result_promises (GivesNothing call) span h = tt

  module _ (knows : Knows g types s) where
    -- ---- conversions

    -- a pointer whose bounds lie around one element leads to it
    leads_to_one : (b : Bounds) → AreEndsBelow s.flow.vars b → MeetsEnds s.flow.facts one_element b → LeadsToOne g.structs s b
    leads_to_one b below met state known l valid =
        (flows_hold g.structs s.flow knows.flow).narrow b one_element l state below (record { lo = tt; hi = tt }) (record { lo = tt; hi = tt }) (sym met.base) met.ends (known state (alike_here (length s.locals) state)).holds.met valid

    -- a pointer that meets them is null, or its bounds do, or those that it has from a base
    abbrev Finds : Option Bounds → Type 0
    Finds b = is_met (bounds_find s.flow.facts one_element b) ≡ true

    met_by : (P : Type 0) (value : core.Expression) → meets s.flow value (Some one_element) ≡ true → (is_null value ≡ true → P) → (Finds (own_bounds value) → P) → (Finds (based_bounds value) → P) → P
    met_by P value met null own based =
        let facts = s.flow.facts in
        let first = is_met (bounds_find facts one_element (own_bounds value)) in
        let second = is_met (bounds_find facts one_element (based_bounds value)) in
        ⊎_elim null (λ found. ⊎_elim own based (or_cases first second found)) (or_cases (is_null value) (first || second) met)

    none_met : (P : Type 0) (value : core.Expression) → Finds (based_bounds value) → P
    none_met P value met = absurd (based_unmet s.flow.facts value met)

    null_typed : (m : Mode) (t : CType) (value : core.Expression) → is_null value ≡ true → HasType g types s value (Pointer m kinds.One t)
    null_typed m t value null = subst (λ e. HasType g types s e (Pointer m kinds.One t)) (sym (null_is value null)) rules.null

    -- a pointer with bounds as one to the element at which it stands
    single_typed : (m : Mode) (kind : Kind) (t : CType) (value : core.Expression) → HasType g types s value (Pointer m kind t) → IsRow g.structs s.flow.vars kind t value → meets s.flow value (Some one_element) ≡ true → HasType g types s value (Pointer m kinds.One t)
    single_typed m kind t value h row met =
        met_by (HasType g types s value (Pointer m kinds.One t)) value met (null_typed m t value) (by (bounds_of value) refl row.own) (none_met (HasType g types s value (Pointer m kinds.One t)) value)
      where
        by : (o : Option PointerBounds) → bounds_of value ≡ o → AreCounted g.structs s.flow.vars kind t o → Finds (own_bounds value) → HasType g types s value (Pointer m kinds.One t)
        by None e counted own = let found = rw e at own in absurd (cc)
        by (Some p) e counted own =
            let found : Finds (Some p.bounds) = rw e at own in
            rules.single h (record { bounds = e; node = at_mode m counted.node; some = counted.some }) (leads_to_one p.bounds counted.below (one_met s.flow.facts p.bounds found))

    kind_typed : (m : Mode) (t : CType) (from to : Kind) (value : core.Expression) → kind_converts from to ≡ true → HasType g types s value (Pointer m from t) → HasNode g.structs s.flow.vars (Pointer m from t) value → meets s.flow value (asked_as from to) ≡ true → HasType g types s value (Pointer m to t)
    kind_typed m t kinds.One kinds.One value converts h node met = h
    kind_typed m t kinds.One kinds.Array value converts h node met = rules.row h node.own
    kind_typed m t kinds.One kinds.Nt value converts h node met = absurd (cc)
    kind_typed m t kinds.Array kinds.One value converts h node met = single_typed m kinds.Array t value h node met
    kind_typed m t kinds.Array kinds.Array value converts h node met = h
    kind_typed m t kinds.Array kinds.Nt value converts h node met = absurd (cc)
    kind_typed m t kinds.Nt kinds.One value converts h node met = single_typed m kinds.Nt t value h node met
    kind_typed m t kinds.Nt kinds.Array value converts h node met = rules.ended_row h
    kind_typed m t kinds.Nt kinds.Nt value converts h node met = h

    converted_pointer : (type : CType) (m : Mode) (k : Kind) (t : CType) (value : core.Expression) → pointer_converts type k (Pointer m k t) ≡ true → HasType g types s value type → HasNode g.structs s.flow.vars type value → meets s.flow value (asked_of type (Pointer m k t)) ≡ true → HasType g types s value (Pointer m k t)
    converted_pointer Int m k t value converts h node met = absurd (cc)
    converted_pointer Char m k t value converts h node met = absurd (cc)
    converted_pointer (Struct n) m k t value converts h node met = absurd (cc)
    converted_pointer (Pointer m' k' t') m k t value converts h node met =
        let both = and_parts (same_mode m' m && same_type t' t) (kind_converts k' k) converts in
        let same = and_parts (same_mode m' m) (same_type t' t) both.0 in
        subst (λ x. HasType g types s value (Pointer x k t)) (mode_equal m' m same.0)
        (subst (λ x. HasType g types s value (Pointer m' k x)) (same_equal t' t same.1) (kind_typed m' t' k' k value both.1 h node met))

    -- the constant 0 is null
    null_or : (zero : Bool) (type : CType) (m : Mode) (k : Kind) (t : CType) (value : core.Expression) → (zero ≡ true → IsNumberType type) → converts type zero (Pointer m k t) ≡ true → HasType g types s value type → HasNode g.structs s.flow.vars type value
        → (zero || meets s.flow value (asked_of type (Pointer m k t))) ≡ true → HasType g types s (as_pointer (zero && is_number type) value) (Pointer m k t)
    null_or true type m k t value number converts h node met = rw (number refl) rules.null
    null_or false type m k t value number converts h node met = converted_pointer type m k t value converts h node met

    in_type_typed : (to type : CType) (zero : Bool) (value : core.Expression) → (zero ≡ true → IsNumberType type) → converts type zero to ≡ true → HasType g types s value type → HasNode g.structs s.flow.vars type value → (zero || meets s.flow value (asked_of type to)) ≡ true → HasType g types s (in_type to (zero && is_number type) value) to
    in_type_typed Int type zero value number h typed node met = as_int g types s type value h typed
    in_type_typed Char type zero value number h typed node met = rules.low_byte (as_int g types s type value h typed)
    in_type_typed (Struct n) type zero value number h typed node met = absurd (cc)
    in_type_typed (Pointer m k t) type zero value number h typed node met = null_or zero type m k t value number h typed node met

    -- a value that converts has the type where its bounds meet those that are asked for
    pub so_converted : {A : Type 0} (Q : A → Type 0) (a : Typed) (to : CType) (span : Span) (next : core.Expression → Verdict A) → Fits g types s a → ((v : core.Expression) → IsConverted a to v → (AreMet a to → HasType g types s v to) → Promises Q (next v)) → Promises Q (converted a to span next)
    so_converted Q (Value type zero value place) to span next h more =
        needs_promises Q (converts type zero to) E13 span (next (in_type to (zero && is_number type) value)) (λ c. more (in_type to (zero && is_number type) value) (c, refl) (in_type_typed to type zero value h.is_number c h.has_type h.node))
    so_converted Q (AStruct number place) to span next h more = tt

    pub converted_promises : {A : Type 0} (Q : A → Type 0) (a : Typed) (to : CType) (span : Span) (next : core.Expression → Verdict A) → Fits g types s a → ((v : core.Expression) → (AreMet a to → HasType g types s v to) → Promises Q (next v)) → Promises Q (converted a to span next)
    converted_promises Q a to span next h more = so_converted Q a to span next h (λ v is. more v)

    abbrev HaveConverted : List (Typed × Span) → List CType → core.Arguments → Type 0
    HaveConverted arguments ts values = (AreAllMet arguments ts → HaveTypes g types s values ts) × AreConverted arguments ts values

    arguments_promise : (arguments : List (Typed × Span)) (ts : List CType) → length ts ≡ length arguments → AllFit arguments → Promises (HaveConverted arguments ts) (arguments_as arguments ts)
    arguments_promise [] [] many all = (λ met. rules.done, tt)
    arguments_promise [] (t ∷ ts) many all = absurd (omega arith)
    arguments_promise (a ∷ arguments) [] many all = absurd (omega arith)
    arguments_promise (a ∷ arguments) (t ∷ ts) many all =
        so_converted (HaveConverted (a ∷ arguments) (t ∷ ts)) a.0 t a.1 _ all.0
        (λ v is typed. passing_promises (HaveConverted arguments ts) (HaveConverted (a ∷ arguments) (t ∷ ts)) (arguments_as arguments ts) _ (arguments_promise arguments ts (omega arith) all.1) (λ others h. (λ met. rules.more (typed met.0) (h.0 met.1), (is, h.1))))

    -- ---- what stands for parameters

    -- a number isn't a local pointer
    local_number : (x : ℕ) (b : Option PointerBounds) (type : CType) → is_number type ≡ true → HasType g types s (core.Local x b) type → (t : CType) × (slice_get s.locals x ≡ Some t) × (is_number t ≡ true)
    local_number x b type number (rules.local {t = t} found bounds) = (t, found, number)
    local_number x b type number (rules.bounded found size limited named force) = absurd (cc)
    local_number x b type number (rules.widened h) = local_number x b Char refl h
    local_number x b type number (rules.single h elements leads) = absurd (cc)
    local_number x b type number (rules.row h bounds) = absurd (cc)
    local_number x b type number (rules.ended_row h) = absurd (cc)

    number_local : (type : CType) (value : core.Expression) → is_number type ≡ true → HasType g types s value type → pointer_local s.locals value ≡ None
    number_local type (core.Local x b) number h = by (slice_get s.locals x) refl
      where
        by : (o : Option CType) → slice_get s.locals x ≡ o → picked (is_pointer_type o) (Some x) None ≡ None
        by None e = refl
        by (Some Int) e = refl
        by (Some Char) e = refl
        by (Some (Struct n)) e = refl
        by (Some (Pointer m k t)) e =
            let it = local_number x b type number h in
            let same : it.0 ≡ Pointer m k t = (let found = it.1 in cc) in
            absurd (let none = subst (λ t. is_number t ≡ true) same it.2 in cc)
    number_local type value number h = refl

    -- a value as it is passed stands for its parameter as it stood before
    term_same : (a : Typed) (t : CType) (v : core.Expression) → IsConverted a t v → term_for s.locals a t ≡ term_of s.locals v t
    term_same (Value type zero value place) Int v is = ap (term s.locals) (sym is.1)
    term_same (Value type zero value place) Char v is = refl
    term_same (Value type zero value place) (Struct n) v is = refl
    term_same (Value type zero value place) (Pointer m k u) v is = refl
    term_same (AStruct number place) t v is = absurd is

    pointer_same : (a : Typed) (t : CType) (v : core.Expression) → Fits g types s a → IsConverted a t v → pointer_for s.locals a ≡ pointer_local s.locals v
    pointer_same (Value type zero value place) Int v h is = ap (pointer_local s.locals) (sym is.1)
    pointer_same (Value type zero value place) Char v h is = number_local type value (number_of type is.0) h.has_type ∙ ap (pointer_local s.locals) (sym is.1)
      where
        number_of : (type : CType) → converts type zero Char ≡ true → is_number type ≡ true
        number_of Int e = refl
        number_of Char e = refl
        number_of (Struct n) e = absurd (cc)
        number_of (Pointer m k t) e = absurd (cc)
    pointer_same (Value type zero value place) (Struct n) v h is = absurd (let none = is.0 in cc)
    pointer_same (Value type zero value place) (Pointer m k u) v h is = by (zero && is_number type) refl
      where
        by : (test : Bool) → (zero && is_number type) ≡ test → pointer_local s.locals value ≡ pointer_local s.locals v
        by true e = number_local type value (and_parts zero (is_number type) e).1 h.has_type ∙ ap (pointer_local s.locals) (sym (is.1 ∙ ap (λ test. as_pointer test value) e))
        by false e = ap (pointer_local s.locals) (sym (is.1 ∙ ap (λ test. as_pointer test value) e))
    pointer_same (AStruct number place) t v h is = absurd is

    terms_same : (arguments : List (Typed × Span)) (ts : List CType) (values : core.Arguments) → AreConverted arguments ts values → terms_for s.locals arguments ts ≡ terms_of s.locals values ts
    terms_same [] ts core.Done are = refl
    terms_same [] ts (core.More v rest) are = absurd are
    terms_same (a ∷ arguments) [] values are = absurd are
    terms_same (a ∷ arguments) (t ∷ ts) core.Done are = absurd are
    terms_same (a ∷ arguments) (t ∷ ts) (core.More v rest) are = rw (term_same a.0 t v are.0, terms_same arguments ts rest are.1) refl

    pointers_same : (arguments : List (Typed × Span)) (ts : List CType) (values : core.Arguments) → AllFit arguments → AreConverted arguments ts values → pointers_for s.locals arguments ≡ pointers_of s.locals values
    pointers_same [] ts core.Done all are = refl
    pointers_same [] ts (core.More v rest) all are = absurd are
    pointers_same (a ∷ arguments) [] values all are = absurd are
    pointers_same (a ∷ arguments) (t ∷ ts) core.Done all are = absurd are
    pointers_same (a ∷ arguments) (t ∷ ts) (core.More v rest) all are = rw (pointer_same a.0 t v all.0 are.0, pointers_same arguments ts rest all.1 are.1) refl

    -- ---- what arguments are asked

    -- the bounds of a pointer that counts elements
    row_ends : (kind : Kind) (t : CType) (value : core.Expression) → IsRow g.structs s.flow.vars kind t value → HasEndsBelow g.structs s knows.flow knows.few value
    row_ends kind t value node = record { own = λ b e. row_own b e; based = node.based }
      where
        row_own : (b : Bounds) → own_bounds value ≡ Some b → AreEndsBelow s.flow.vars b
        row_own b e = by (bounds_of value) refl node.own
          where
            by : (o : Option PointerBounds) → bounds_of value ≡ o → AreCounted g.structs s.flow.vars kind t o → AreEndsBelow s.flow.vars b
            by None n counted = absurd (let none = rw n at e in cc)
            by (Some p) n counted = let found : Some p.bounds ≡ Some b = rw n at e in let same : p.bounds ≡ b = cc in subst (AreEndsBelow s.flow.vars) same counted.below

    -- where it meets bounds, it is valid with them
    pub row_asked : (kind : Kind) (t : CType) (value : core.Expression) (b : Bounds) → IsRow g.structs s.flow.vars kind t value → AreInts s.locals b → meets s.flow value (Some b) ≡ true → IsAsked g.structs s value b
    row_asked kind t value b node ints met = asked_so g.structs s knows.flow knows.few value b (row_ends kind t value node) ints met

    -- and of one that converts to it
    row_below : (type : CType) (m : Mode) (kind : Kind) (u : CType) (value : core.Expression) → pointer_converts type kind (Pointer m kind u) ≡ true → HasNode g.structs s.flow.vars type value → HasEndsBelow g.structs s knows.flow knows.few value
    row_below Int m kind u value c node = absurd (cc)
    row_below Char m kind u value c node = absurd (cc)
    row_below (Struct n) m kind u value c node = absurd (cc)
    row_below (Pointer m' kinds.One t) m kind u value c node = record { own = λ b e. one_own b e; based = node.based }
      where
        one_own : (b : Bounds) → own_bounds value ≡ Some b → AreEndsBelow s.flow.vars b
        one_own b e = by (bounds_of value) refl
          where
            by : (o : Option PointerBounds) → bounds_of value ≡ o → AreEndsBelow s.flow.vars b
            by None n = absurd (let none = rw n at e in cc)
            by (Some p) n = let found : Some p.bounds ≡ Some b = rw n at e in let same : p.bounds ≡ b = cc in subst (AreEndsBelow s.flow.vars) same (single_below g.structs s.flow.vars m' t node.own.0 p (sym node.own.1 ∙ n))
    row_below (Pointer m' kinds.Array t) m kind u value c node = row_ends kinds.Array t value node
    row_below (Pointer m' kinds.Nt t) m kind u value c node = row_ends kinds.Nt t value node

    argument_asked : (terms : List (Option Term)) (pointers : List (Option ℕ)) (a : Typed) (t : CType) (v : core.Expression) (o : Option Bounds) → AreTerms s.locals terms → ((b : Bounds) → o ≡ Some b → IsRowOf t) → Fits g types s a → IsConverted a t v
        → argument_meets s.flow terms pointers a t o ≡ true → IsAskedAt g.structs s terms pointers v o
    argument_asked terms pointers a t v None are row h is met = tt
    argument_asked terms pointers (AStruct number place) t v (Some b) are row h is met = absurd is
    argument_asked terms pointers (Value type zero value place) t v (Some b) are row h is met =
        let it = row b refl in
        by (zero && is_number type) refl it.0 it.1 it.2 (subst (λ t. converts type zero t ≡ true) it.3 is.0) (is.1 ∙ ap (λ t. in_type t (zero && is_number type) value) it.3)
      where
        passed : (m : Mode) (kind : Kind) (u : CType) (z : Bool) → zero ≡ z → (zero && is_number type) ≡ false → converts type zero (Pointer m kind u) ≡ true → v ≡ value → IsAskedAt g.structs s terms pointers v (Some b)
        passed m kind u true e unlike c same = absurd (let int = h.is_number e in let none = rw (e, int) at unlike in cc)
        passed m kind u false e unlike c same =
            let found : pointer_converts type kind (Pointer m kind u) ≡ true = rw e at c in
            let asked : (is_null value || meets_all s.flow value (at_call terms pointers b)) ≡ true = rw e at met in
            subst (λ e. IsAskedAt g.structs s terms pointers e (Some b)) (sym same) (asked_at g.structs s knows.flow knows.few terms pointers value b are (row_below type m kind u value found h.node) asked)

        by : (test : Bool) → (zero && is_number type) ≡ test → (m : Mode) (kind : Kind) (u : CType) → converts type zero (Pointer m kind u) ≡ true → v ≡ as_pointer (zero && is_number type) value → IsAskedAt g.structs s terms pointers v (Some b)
        by true e m kind u c same = inl (same ∙ ap (λ test. as_pointer test value) e)
        by false e m kind u c same = passed m kind u zero refl e c (same ∙ ap (λ test. as_pointer test value) e)

    all_asked : (terms : List (Option Term)) (pointers : List (Option ℕ)) → AreTerms s.locals terms → (arguments : List (Typed × Span)) (ts : List CType) (bounds : List WrittenBounds) (values : core.Arguments) → HaveRows ts (map bounds_in bounds) → AllFit arguments → AreConverted arguments ts values
        → AllMet terms pointers arguments ts bounds → AreAsked g.structs s terms pointers values (map bounds_in bounds)
    all_asked terms pointers terms_are [] ts bounds core.Done rows all are met = tt
    all_asked terms pointers terms_are [] ts bounds (core.More v rest) rows all are met = absurd are
    all_asked terms pointers terms_are (a ∷ arguments) [] bounds values rows all are met = absurd are
    all_asked terms pointers terms_are (a ∷ arguments) (t ∷ ts) bounds core.Done rows all are met = absurd are
    all_asked terms pointers terms_are (a ∷ arguments) (t ∷ ts) [] (core.More v rest) rows all are met = tt
    all_asked terms pointers terms_are (a ∷ arguments) (t ∷ ts) (b ∷ bounds) (core.More v rest) rows all are met = (
      argument_asked terms pointers a.0 t v (bounds_in b) terms_are (λ d e. let it = rows 0 d (ap Some e) in (it.0, it.1, it.2, same_type t (Pointer it.0 it.1 it.2) it.3, it.4)) all.0 are.0 met.0,
      all_asked terms pointers terms_are arguments ts bounds rest (λ x d e. rows (suc x) d e) all.1 are.1 met.1,
    )
      where
        same_type : (t u : CType) → Some t ≡ Some u → t ≡ u
        same_type t u q = cc

    -- ---- what a call gives

    -- a value that is returned
    type_met_by : (r : Option Bounds) (t : Typed) (type : CType) → meets_declared s.flow r t type ≡ true → AreMet t type
    type_met_by None (Value u zero value place) type met = met
    type_met_by (Some b) (Value u zero value place) type met = ⊎_elim (first zero) (λ both. second zero (and_parts (meets s.flow value (asked_of u type)) (meets s.flow value (Some b)) both).0) (or_cases zero (meets s.flow value (asked_of u type) && meets s.flow value (Some b)) met)
      where
        first : (z : Bool) → z ≡ true → (z || meets s.flow value (asked_of u type)) ≡ true
        first z e = rw e refl

        second : (z : Bool) → meets s.flow value (asked_of u type) ≡ true → (z || meets s.flow value (asked_of u type)) ≡ true
        second true e = refl
        second false e = e
    type_met_by r (AStruct number place) type met = tt

    pub result_type_met : (r : Option Bounds) (t : Typed) (type : CType) → meets_declared s.flow r t type ≡ true → AreMet t type
    result_type_met = type_met_by

    row_returned : (b : Bounds) (m : Mode) (kind : Kind) (u type : CType) (zero : Bool) (value v : core.Expression) (place : Standing) → AreInts s.locals b → Fits g types s (Value type zero value place) → IsConverted (Value type zero value place) (Pointer m kind u) v
        → meets_declared s.flow (Some b) (Value type zero value place) (Pointer m kind u) ≡ true → IsAsked g.structs s v b
    row_returned b m kind u type zero value v place ints h is met = by (zero && is_number type) refl
      where
        passed : (z : Bool) → zero ≡ z → (zero && is_number type) ≡ false → v ≡ value → IsAsked g.structs s v b
        passed true e unlike same = absurd (let int = h.is_number e in let none = rw (e, int) at unlike in cc)
        passed false e unlike same =
            let found : pointer_converts type kind (Pointer m kind u) ≡ true = rw e at is.0 in
            let both : (meets s.flow value (asked_of type (Pointer m kind u)) && meets s.flow value (Some b)) ≡ true = rw e at met in
            subst (λ e. IsAsked g.structs s e b) (sym same) (asked_so g.structs s knows.flow knows.few value b (row_below type m kind u value found h.node) ints (and_parts (meets s.flow value (asked_of type (Pointer m kind u))) (meets s.flow value (Some b)) both).1)

        by : (test : Bool) → (zero && is_number type) ≡ test → IsAsked g.structs s v b
        by true e = rules.null (is.1 ∙ ap (λ test. as_pointer test value) e)
        by false e = passed zero refl e (is.1 ∙ ap (λ test. as_pointer test value) e)

    pub result_asked : (r : Option Bounds) (t : Typed) (type : CType) (v : core.Expression) → ((b : Bounds) → r ≡ Some b → AreInts s.locals b) → Fits g types s t → IsConverted t type v → meets_declared s.flow r t type ≡ true → IsReturned g.structs s v type r
    result_asked r t Int v ints h is met = tt
    result_asked r t Char v ints h is met = tt
    result_asked r t (Struct n) v ints h is met = tt
    result_asked r t (Pointer m kinds.One u) v ints h is met = tt
    result_asked None t (Pointer m kinds.Nt u) v ints h is met = tt
    result_asked (Some b) (Value type zero value place) (Pointer m kinds.Nt u) v ints h is met = row_returned b m kinds.Nt u type zero value v place (ints b refl) h is met
    result_asked (Some b) (AStruct number place) (Pointer m kinds.Nt u) v ints h is met = absurd is
    result_asked None t (Pointer m kinds.Array u) v ints h is met = tt
    result_asked (Some b) (Value type zero value place) (Pointer m kinds.Array u) v ints h is met = row_returned b m kinds.Array u type zero value v place (ints b refl) h is met
    result_asked (Some b) (AStruct number place) (Pointer m kinds.Array u) v ints h is met = absurd is

    -- the bounds of a call, and what is at its node
    record IsCalledWith (terms : List (Option Term)) (t : CType) (r : Option Bounds) (callee : Callee) (values : core.Arguments) (b : Option PointerBounds) : Type 0 where
      bounds : HasCallBounds g.structs s.locals terms t r b
      node : HasNode g.structs s.flow.vars t (core.Call callee values b)

    by_its_type : (terms : List (Option Term)) (t : CType) (r : Option Bounds) (callee : Callee) (values : core.Arguments) (site : Site) → IsKnown s.structs t → IsCalledWith terms t r callee values (bounds_at s.structs t site)
    by_its_type terms t r callee values site known =
        let kept = bounds_kept s.structs g.structs t site knows.file.structs known in
        record {
          bounds = rules.by_type (site, kept);
          node = subst (λ b. HasNode g.structs s.flow.vars t (core.Call callee values b)) (sym kept) (node_with g.structs s.flow.vars t site (core.Call callee values) (record { own = λ o. refl; none = refl; based = λ vars p b below e. absurd (cc) }));
        }

    row_called : (terms : List (Option Term)) (m : Mode) (kind : Kind) (u : CType) (b d : Bounds) (ts : List CType) (callee : Callee) (values : core.Arguments) (site : Site) → Counts kind → AreTerms s.locals terms → IsKnown s.structs u → 0 < size_of s.structs u → AreOfResult ts (Some (Pointer m kind u)) b → ends_filled_in terms b ≡ Some d
        → IsCalledWith terms (Pointer m kind u) (Some b) callee values (Some (at_node d (size_of s.structs u) (is_ended (Pointer m kind u)) site))
    row_called terms m kind u b d ts callee values site counts are known some sound e =
        let at = result_at_so s.locals terms are b d e in
        let size = size_kept s.structs g.structs u knows.file.structs known in
        let some' : 0 < size_of g.structs u = subst (λ n. 0 < n) size some in
        record {
          bounds = rules.by_result e counts (record { size = size; terminated = refl }) some' at.limited (at.base ∙ sound.base) at.ints;
          node = counted_node m kind counts (record { own = record { node = record { size = size; terminated = sym (ended_alike m kind u) }; some = some'; below = ends_below g.structs s knows.flow knows.few d at.ints }; based = λ c q. absurd (cc) });
        }

    -- and where something doesn't stand for them
    array_called : (terms : List (Option Term)) (m : Mode) (u : CType) (b : Bounds) (ts : List CType) (callee : Callee) (values : core.Arguments) (site : Site) → AreTerms s.locals terms → IsKnown s.structs (Pointer m kinds.Array u) → 0 < size_of s.structs u → AreOfResult ts (Some (Pointer m kinds.Array u)) b → (o : Option Bounds) → ends_filled_in terms b ≡ o
        → IsCalledWith terms (Pointer m kinds.Array u) (Some b) callee values (call_bounds s.structs (Pointer m kinds.Array u) o site)
    array_called terms m u b ts callee values site are known some sound None e = by_its_type terms (Pointer m kinds.Array u) (Some b) callee values site known
    array_called terms m u b ts callee values site are known some sound (Some d) e = row_called terms m kinds.Array u b d ts callee values site tt are known.1 some sound e

    unknown_called : (terms : List (Option Term)) (m : Mode) (u : CType) (r : Option Bounds) (callee : Callee) (values : core.Arguments) → IsCalledWith terms (Pointer m kinds.Nt u) r callee values None
    unknown_called terms m u r callee values = record { bounds = rules.by_type (record { place = record { line = 0; col = 0 } }, sym (no_ended m _)); node = record { own = tt; based = λ b e. absurd (cc) } }

    ended_called : (terms : List (Option Term)) (m : Mode) (u : CType) (b : Bounds) (ts : List CType) (callee : Callee) (values : core.Arguments) (site : Site) → AreTerms s.locals terms → IsKnown s.structs (Pointer m kinds.Nt u) → 0 < size_of s.structs u → AreOfResult ts (Some (Pointer m kinds.Nt u)) b → (o : Option Bounds) → ends_filled_in terms b ≡ o
        → IsCalledWith terms (Pointer m kinds.Nt u) (Some b) callee values (call_bounds s.structs (Pointer m kinds.Nt u) o site)
    ended_called terms m u b ts callee values site are known some sound None e = unknown_called terms m u (Some b) callee values
    ended_called terms m u b ts callee values site are known some sound (Some d) e = row_called terms m kinds.Nt u b d ts callee values site tt are known.1 some sound e

    call_with : (terms : List (Option Term)) (t : CType) (r : Option Bounds) (ts : List CType) (callee : Callee) (values : core.Arguments) (site : Site) → AreTerms s.locals terms → IsKnown s.structs t → IsSizedResult s.structs (Some t) r → HasResultBounds ts (Some t) r
        → IsCalledWith terms t r callee values (call_bounds s.structs t (result_at terms r) site)
    call_with terms Int r ts callee values site are known sized sound = by_its_type terms Int r callee values site known
    call_with terms Char r ts callee values site are known sized sound = by_its_type terms Char r callee values site known
    call_with terms (Struct n) r ts callee values site are known sized sound = by_its_type terms (Struct n) r callee values site known
    call_with terms (Pointer m kinds.One u) r ts callee values site are known sized sound = by_its_type terms (Pointer m kinds.One u) r callee values site known
    call_with terms (Pointer m kinds.Nt u) None ts callee values site are known sized sound = unknown_called terms m u None callee values
    call_with terms (Pointer m kinds.Nt u) (Some b) ts callee values site are known sized sound = ended_called terms m u b ts callee values site are known sized (sound b refl) (ends_filled_in terms b) refl
    call_with terms (Pointer m kinds.Array u) None ts callee values site are known sized sound = by_its_type terms (Pointer m kinds.Array u) None callee values site known
    call_with terms (Pointer m kinds.Array u) (Some b) ts callee values site are known sized sound = array_called terms m u b ts callee values site are known sized (sound b refl) (ends_filled_in terms b) refl

    -- a call of a trusted function
    trusted_fits : (callee : Callee) (ts : List CType) (bs : List (Option Bounds)) (result : Option CType) (r : Option Bounds) (values : core.Arguments) (site : Site) → IsKnownResult s.structs result → IsSizedResult s.structs result r → HasResultBounds ts result r → IsCallee g callee ts bs result r → HaveTypes g types s values ts
        → AreAsked g.structs s (terms_of s.locals values ts) (pointers_of s.locals values) values bs → IsScalarResult result → AreTerms s.locals (terms_of s.locals values ts) → FitsCall g types s (call_of s.structs result (result_at (terms_of s.locals values ts) r) callee values site)
    trusted_fits callee ts bs None r values site known sized sound is h asked scalar are = rules.call_alone is h asked
    trusted_fits callee ts bs (Some t) r values site known sized sound is h asked scalar are =
        let it = call_with (terms_of s.locals values ts) t r ts callee values site are known sized sound in
        (rules.call is h asked it.bounds, (scalar, it.node))

    -- of a tainted one
    tainted_fits : (callee : Callee) (ts : List CType) (result : Option CType) (o : Option Bounds) (values : core.Arguments) (site : Site) → IsNumberResult result → IsCallee g callee ts [] result None → HaveTypes g types s values ts
        → AreAsked g.structs s (terms_of s.locals values ts) (pointers_of s.locals values) values [] → FitsCall g types s (call_of s.structs result o callee values site)
    tainted_fits callee ts None o values site number is h asked = rules.call_alone is h asked
    tainted_fits callee ts (Some Int) o values site number is h asked = (rules.call is h asked (rules.by_type (site, refl)), (refl, tt))
    tainted_fits callee ts (Some Char) o values site number is h asked = (rules.call is h asked (rules.by_type (site, refl)), (refl, tt))
    tainted_fits callee ts (Some (Struct n)) o values site number is h asked = absurd (cc)
    tainted_fits callee ts (Some (Pointer m k t)) o values site number is h asked = absurd (cc)

    -- nothing is asked where no parameter has bounds
    none_asked : (terms : List (Option Term)) (pointers : List (Option ℕ)) (values : core.Arguments) → AreAsked g.structs s terms pointers values []
    none_asked terms pointers core.Done = tt
    none_asked terms pointers (core.More v rest) = tt

    -- ---- predefined functions

    first_fits : (of : core.Expression → core.Statement) → ((v : core.Expression) → HasType g types s v Int → IsSimple g types s (of v)) → {values : core.Arguments} → HaveTypes g types s values (Int ∷ []) → IsSimple g types s (first_of of values)
    first_fits of h (rules.more {e = v} typed rest) = h v typed

    writes_promise : (of : core.Expression → core.Statement) → ((v : core.Expression) → HasType g types s v Int → IsSimple g types s (of v)) → (arguments : List (Typed × Span)) (span : Span) → AllFit arguments → Promises (FitsCall g types s) (writes of arguments span)
    writes_promise of h arguments span all =
        needs_promises (FitsCall g types s) (length arguments == 1) E14 span _
        (λ one. passing_promises (HaveConverted arguments (Int ∷ [])) (FitsCall g types s) (arguments_as arguments (Int ∷ [])) _ (arguments_promise arguments (Int ∷ []) (sym (eqb-true (length arguments) 1 one)) all) (λ values typed. first_fits of h (typed.0 (all_met arguments))))

    -- a checked null-terminated pointer to `char`s
    text_type : (type : CType) → is_text type ≡ true → type ≡ Pointer modes.Checked kinds.Nt Char
    text_type (Pointer modes.Checked kinds.Nt Char) h = refl
    text_type _ h = absurd (cc)

    length_promises : (a : Typed) (site : Site) (span : Span) → Fits g types s a → Promises (FitsCall g types s) (length_typed a site span)
    length_promises (Value type zero value place) site span h =
        needs_promises (FitsCall g types s) (is_text type && is_some (bounds_of value)) E13 span (Passes (Gives Int (core.Length value site)))
        (λ both. let parts = and_parts (is_text type) (is_some (bounds_of value)) both in
        let same = text_type type parts.0 in
        measured (subst (HasType g types s value) same h.has_type) (bounds_of value) refl (subst (λ t. HasNode g.structs s.flow.vars t value) same h.node).own parts.1)
      where
        measured : HasType g types s value (Pointer modes.Checked kinds.Nt Char) → (o : Option PointerBounds) → bounds_of value ≡ o → AreCounted g.structs s.flow.vars kinds.Nt Char (bounds_of value) → is_some (bounds_of value) ≡ true → FitsCall g types s (Gives Int (core.Length value site))
        measured typed None e counted there = absurd (let none = rw e at there in cc)
        measured typed (Some p) e counted there =
            let found : CountElements g.structs s.flow.vars kinds.Nt Char p = subst (AreCounted g.structs s.flow.vars kinds.Nt Char) e counted in
            (rules.byte_count typed (record { bounds = e; node = found.node; some = found.some }), (refl, tt))
    length_promises (AStruct number place) site span h = tt

    measures_promise : (arguments : List (Typed × Span)) (site : Site) (span : Span) → AllFit arguments → Promises (FitsCall g types s) (measures arguments site span)
    measures_promise [] site span all = tt
    measures_promise (a ∷ arguments) site span all = needs_promises (FitsCall g types s) (length (a ∷ arguments) == 1) E14 span _ (λ one. convertible_promises (FitsCall g types s) a.0 text_pointer a.1 (length_typed a.0 site span) (length_promises a.0 site span all.0))

    predefined_promises : (given : Given) (name : ℕ) (arguments : List (Typed × Span)) (site : Site) (span : Span) → AllFit arguments → Promises (FitsCall g types s) (predefined_call given name arguments site span)
    predefined_promises given name arguments site span all = by (name == given.next_input) (name == given.print_int) (name == given.putchar) (name == given.strlen) refl refl refl refl
      where
        by : (input print put measure : Bool) → (name == given.next_input) ≡ input → (name == given.print_int) ≡ print → (name == given.putchar) ≡ put → (name == given.strlen) ≡ measure → Promises (FitsCall g types s) (predefined_call given name arguments site span)
        by true print put measure e e1 e2 e3 = rw e (needs_promises (FitsCall g types s) (length arguments == 0) E14 span (Passes (Gives Int core.NextInput)) (λ none. (rules.next_input, (refl, tt))))
        by false true put measure e e1 e2 e3 = rw (e, e1) (writes_promise core.Print (λ v h. rules.print h) arguments span all)
        by false false true measure e e1 e2 e3 = rw (e, e1, e2) (writes_promise core.PutByte (λ v h. rules.put_byte h) arguments span all)
        by false false false true e e1 e2 e3 = rw (e, e1, e2, e3) (measures_promise arguments site span all)
        by false false false false e e1 e2 e3 = rw (e, e1, e2, e3) tt

    -- ---- members

    member_fits : (n : ℕ) (p : core.Place) (found : ℕ × CType) (site : Site) → HasPlace g types s p (Struct n) → HasMember (members_of s.structs n) 0 found → FitsCell g types s (at_place found.1 (member_place p (offset_among (cells_of s.structs (Struct n)) found.0) site))
    member_fits n p found site h m =
        let k : m.index ≡ found.0 = let e = m.counted in omega arith in
        let slot = member_slot g s knows.file n m.index m.member m.listed in
        let scalar = of_element (λ x. IsScalar x.ctype) (members_of s.structs n) m.index m.member (knows.file.scalar_members n) m.listed in
        let there = member_of g types s h m.index (offset_among (cells_of s.structs (Struct n)) m.index) m.member.ctype site slot scalar in
        let typed = subst (λ t. HasPlace g types s (member_place p (offset_among (cells_of s.structs (Struct n)) m.index) site) t) m.typed there in
        (at_place_fits g types s) found.1 _ (subst (λ i. HasPlace g types s (member_place p (offset_among (cells_of s.structs (Struct n)) i) site) found.1) k typed)

    member_at_promises : (n : ℕ) (p : core.Place) (name : ℕ) (site : Site) (span : Span) → HasPlace g types s p (Struct n) → Promises (FitsCell g types s) (member_at s n p name site span)
    member_at_promises n p name site span h = by (member_from 0 (members_named s n) (members_of s.structs n) name) refl
      where
        by : (o : Option (ℕ × CType)) → member_from 0 (members_named s n) (members_of s.structs n) name ≡ o → Promises (FitsCell g types s) (member_at s n p name site span)
        by None e = rw e tt
        by (Some found) e = rw e (member_fits n p found site h (subst (IfMember (members_of s.structs n) 0) e (member_there 0 (members_named s n) (members_of s.structs n) name)))

    pub dotted_promises : (a : Typed) (name : ℕ) (site : Site) (span : Span) → Fits g types s a → Promises (FitsCell g types s) (dotted s a name site span)
    dotted_promises (Value type zero value place) name site span h = tt
    dotted_promises (AStruct n (OfLocal k)) name site span h = absurd h
    dotted_promises (AStruct n (OfCell p)) name site span h = member_at_promises n p name site span h
    dotted_promises (AStruct n (OfBounded k b)) name site span h = absurd h
    dotted_promises (AStruct n (OfUnknown k)) name site span h = absurd h

    pointed_by_promises : (type : CType) (value : core.Expression) (name : ℕ) (site : Site) (span : Span) → HasType g types s value type → HasNode g.structs s.flow.vars type value → Promises (FitsCell g types s) (pointed_by s type value name site span)
    pointed_by_promises Int value name site span h node = tt
    pointed_by_promises Char value name site span h node = tt
    pointed_by_promises (Struct n) value name site span h node = tt
    pointed_by_promises (Pointer m kinds.One Int) value name site span h node = tt
    pointed_by_promises (Pointer m kinds.One Char) value name site span h node = tt
    pointed_by_promises (Pointer m kinds.One (Pointer m' k' t)) value name site span h node = tt
    pointed_by_promises (Pointer m kinds.One (Struct n)) value name site span h node = member_at_promises n (core.Through value core.First 0 site) name site span (rules.pointed h)
    pointed_by_promises (Pointer m kinds.Array Int) value name site span h node = tt
    pointed_by_promises (Pointer m kinds.Array Char) value name site span h node = tt
    pointed_by_promises (Pointer m kinds.Array (Pointer m' k' t)) value name site span h node = tt
    pointed_by_promises (Pointer m kinds.Array (Struct n)) value name site span h node = by (bounds_of value) refl node.own
      where
        by : (o : Option PointerBounds) → bounds_of value ≡ o → AreCounted g.structs s.flow.vars kinds.Array (Struct n) o → Promises (FitsCell g types s) (pointed_by s (Pointer m kinds.Array (Struct n)) value name site span)
        by None e counted =
            passing_promises (λ (t : Typed). Unit {0}) (FitsCell g types s) (member_at s n (first_element value site) name site span) _ (anything_promised (member_at s n (first_element value site) name site span)) (λ t _. rw e tt)
        by (Some p) e counted =
            passing_promises (FitsCell g types s) (FitsCell g types s) (member_at s n (first_element value site) name site span) _
            (member_at_promises n (first_element value site) name site span (rules.element h (record { bounds = e; node = at_mode m counted.node; some = counted.some }) (rules.word refl)))
            (λ t fits. needs_promises (FitsCell g types s) (is_some (bounds_of value)) E18 span (Passes t) (λ there. fits))
    pointed_by_promises (Pointer m kinds.Nt t) value name site span h node = tt

    pub arrowed_promises : (a : Typed) (name : ℕ) (site : Site) (span : Span) → Fits g types s a → Promises (FitsCell g types s) (arrowed s a name site span)
    arrowed_promises (Value type zero value place) name site span h = pointed_by_promises type value name site span h.has_type h.node
    arrowed_promises (AStruct n place) name site span h = tt

    -- ---- calls of functions that are declared

    result_known : (name : ℕ) (f : Signature) → function_named s.functions name ≡ Some f → IsKnownResult s.structs f.result
    result_known name f found = named_has (λ (x : Signature). IsKnownResult s.structs x.result) s.functions name f knows.file.closed.of_functions found

    result_sized : (name : ℕ) (f : Signature) → function_named s.functions name ≡ Some f → IsSizedResult s.structs f.result (bounds_in f.result_bounds)
    result_sized name f found = named_has (λ (x : Signature). IsSizedResult s.structs x.result (bounds_in x.result_bounds)) s.functions name f knows.file.closed.of_results found

    side_fits : (name : ℕ) (f : Signature) (arguments : List (Typed × Span)) (site : Site) (values : core.Arguments) (side : Bool) → is_import f ≡ side → function_named s.functions name ≡ Some f → AllFit arguments → HaveConverted arguments f.parameters values
        → AllMet (terms_for s.locals arguments f.parameters) (pointers_for s.locals arguments) arguments f.parameters f.bounds
        → FitsCall g types s (call_of s.structs f.result (result_at (terms_for s.locals arguments f.parameters) (bounds_in f.result_bounds)) (callee_of side (side_number side s.functions f.name 0) site) values site)
    side_fits name f arguments site values true e found all h met =
        let number = side_number true s.functions f.name 0 in
        let is = knows.file.tainted name f found e in
        tainted_fits (callees.Tainted number site) (replicate (length f.parameters) Int) f.result (result_at (terms_for s.locals arguments f.parameters) (bounds_in f.result_bounds)) values site is.number_result (tainted_callee number f site is)
        (crossing (h.0 (types_met (terms_for s.locals arguments f.parameters) (pointers_for s.locals arguments) arguments f.parameters f.bounds is.rows met)) is.numbers)
        (none_asked _ _ values)
    side_fits name f arguments site values false e found all h met =
        let number = side_number false s.functions f.name 0 in
        let is = knows.file.trusted name f found e in
        let terms = terms_for s.locals arguments f.parameters in
        let pointers = pointers_for s.locals arguments in
        let r = bounds_in f.result_bounds in
        let asked = all_asked terms pointers (are_terms s.locals arguments f.parameters) arguments f.parameters f.bounds values is.rows all h.1 met in
        let same = terms_same arguments f.parameters values h.1 in
        subst (λ ts. FitsCall g types s (call_of s.structs f.result (result_at ts r) (callees.Trusted number) values site)) (sym same)
        (trusted_fits (callees.Trusted number) f.parameters (map bounds_in f.bounds) f.result r values site (result_known name f found) (result_sized name f found) is.sound (trusted_callee number f is)
        (h.0 (types_met terms pointers arguments f.parameters f.bounds is.rows met))
        (subst (λ ts. AreAsked g.structs s ts (pointers_of s.locals values) values (map bounds_in f.bounds)) same
        (subst (λ ps. AreAsked g.structs s terms ps values (map bounds_in f.bounds)) (pointers_same arguments f.parameters values all h.1) asked)) is.scalar
        (subst (AreTerms s.locals) same (are_terms s.locals arguments f.parameters)))

    pub called_promises : (o : Option Signature) (name : ℕ) (arguments : List (Typed × Span)) (site : Site) (span : Span) → function_named s.functions name ≡ o → AllFit arguments → Promises (FitsCall g types s) (called s o name arguments site span)
    called_promises None name arguments site span e all = predefined_promises s.given name arguments site span all
    called_promises (Some f) name arguments site span e all =
        needs_promises (FitsCall g types s) (length f.parameters == length arguments) E14 span _
        (λ many. crossing_promises (FitsCall g types s) (is_import f) arguments _
        (passing_promises (HaveConverted arguments f.parameters) (FitsCall g types s) (arguments_as arguments f.parameters) _ (arguments_promise arguments f.parameters (eqb-true (length f.parameters) (length arguments) many) all)
        (λ values typed. arguments_met_promise (FitsCall g types s) (terms_for s.locals arguments f.parameters) (pointers_for s.locals arguments) arguments f.parameters f.bounds _ (λ met. side_fits name f arguments site values (is_import f) refl e all typed met))))
