-- What has types is never stuck and never unsound: what expressions do with the values of their operands.
use Rattle.std.proofs.Common.{◌≡◌, ◌+ℤ◌, ℕ, suc, ◌<◌, ◌≤◌, Bool, true, false, ℤ, List, length, cond, Option, Some, None, refl, sym, ap, ◌∙◌, subst, arith}
use Rattle.std.specs.Prelude.{◌==◌, is_some, slice_get, option_map, pos}
use Rattle.std.proofs.lemmas.Int.{ints}
use Rattle.std.proofs.lemmas.Bool.Decides.{nat_tests}
use Rattle.std.proofs.lemmas.Bool.{le-leb}
use Rattle.std.proofs.lemmas.Option.{cond_some, same_Some, slice_get_within}
use Rattle.ckc_core.specs.Outcome.{Gives, and_then}
use Rattle.act_words.specs.Operators.{holds}
use Rattle.ckc_text.specs.declared.code.Code.TheVariants.{C5}
use Rattle.pointer_modes.specs.Layout.{size_of}
use Rattle.ckc_core.specs.declared.program.Site.{Site}
use Rattle.act_words.specs.declared.operator.Comparison.{Comparison}
use Rattle.ckc_core.specs.declared.program.Callee.{Callee}
use Rattle.pointer_modes.specs.declared.ctype.Mode.{Mode}
use Rattle.pointer_modes.specs.declared.ctype.Mode.TheVariants as modes
use Rattle.pointer_modes.specs.declared.ctype.Kind.{Kind}
use Rattle.pointer_modes.specs.declared.ctype.Kind.TheVariants as kinds
use Rattle.pointer_modes.specs.Types.{CType, Int, Char, Struct, Pointer}
use Rattle.ckc_core.specs.Core as core
use Rattle.ckc_core.specs.States.{Value, Number, Null, At, Local, Grows, State, shape, shapes, has_type, object_block}
use Rattle.ckc_core.specs.declared.program.PointerBounds.{PointerBounds}
use Rattle.ckc_core.specs.declared.program.Terminator.{Terminator}
use Rattle.ckc_core.specs.Programs.{Initial, Variable}
use Rattle.ckc_core.specs.declared.program.Direction.{Direction}
use Rattle.bounds_exprs.specs.declared.term.Bounds.{Bounds}
use Rattle.ckc_core.specs.Bounds.{Ends as EndsOf, base_byte, ends_at, term_value, with_ends}
use Rattle.ckc_core.specs.Pointers.{allocated, is_terminated, are_within, not_null, ordered, ordered_if, number_given, checked_if}
use Rattle.ckc_core.specs.Steps.{Result, given, truth, number_of_test, asked, passed, result_given, choose, called}
use Rattle.ckc_core.specs.Meaning.{Knot, Setting, audit, bounds_of, cast_if, cast_to, cast_within, element, summed, value, values, place}
use Rattle.region_typing_rules.specs.Scopes.{Scope}
use Rattle.region_typing_rules.specs.Knowing.{when}
use Rattle.region_typing_rules.specs.Operands.{bounds_at}
use Rattle.region_typing_rules.specs.DeclaredBounds.{row_of}
use Rattle.bounds_flow_meaning.specs.Holding.{is_ended}
use Rattle.region_typing_rules.specs.Verdicts.{picked}
use Rattle.region_typing_rules.specs.Readings.{with_base, based_bounds, own_bounds, constant, constant_of, is_null, pointer_local, term}
use Rattle.region_typing_rules.specs.KnownIsSo.{IsAlike, WhereGiven, IsKnown}
use Rattle.region_typing_rules.specs.Typed as typed
use Rattle.bounds_exprs.specs.Values.{value as term_number}
use Rattle.bounds_exprs.specs.declared.term.Term.{Term}
use Rattle.bounds_exprs.specs.Normal.{constant as constant_term}
use Rattle.bounds_exprs.specs.Terms.{is_within, term_limit}
use Rattle.bounds_flow.specs.Conditions.{IsFlow}
use Rattle.bounds_flow_meaning.specs.Holding.{AreInts, HasSize, HaveTypes as AreTyped, IsInt, IsValid, at_node, numbers_in, types_of}
use Rattle.bounds_flow_meaning.specs.Sums.{counted, IsBeforeZero}
use Rattle.bounds_flow_meaning.proofs.Numbers.{int_term, same_number}
use Rattle.bounds_flow_meaning.proofs.Validity.{base_found, ends_parts, null_valid, valid_from}
use Rattle.region_typing_rules.specs.Typed.{IsBoundedObject, AreNewBounds, IsBaseOf, Frame, HasBounds, IsBoundedBy, HasValue, IsCallee, HasCallBounds, AreAsked, terms_of, pointers_of, AreRows, AreSumBounds, CountsAs, HasCellBounds, HasElements, IsNodeOf, IsEndedRow}
use Rattle.region_typing_rules.specs.Types.{Counts}
use Rattle.region_typing_rules.proofs.BoundedObjects.{constant_stays}
use Rattle.region_typing_rules.proofs.Values.{mapped_there, grows_here, value_grown, local_there}
use Rattle.region_typing_rules.proofs.Validity.{same_pointer}
use Rattle.region_typing_rules.proofs.Verdicts.{Extends}
use Rattle.region_typing_rules.proofs.Sure.{sure_further, sure_both, sure_given}
use Rattle.region_typing_rules.proofs.Keeping.{IsAfter, after_here}
use Rattle.region_typing_rules.proofs.Casts.{cast_valid, new_ends}
use Rattle.region_typing_rules.proofs.Terms.{before_formed, term_formed, so_always, so_both, so_further, audited_so, IsOfTerm, term_so}
use Rattle.region_typing_rules.proofs.Alike.{alike_here, alike_on, fits_after, types_alike}
use Rattle.region_typing_rules.proofs.Given.{IsGivenIf, AreGivenAt, AreGiven, bounds_alike, free_alike, given_later, local_given, none_given, own_given, plain_given, given_weaker}
use Rattle.region_typing_rules.proofs.Assigns.{IsGivenTo}
use Rattle.region_typing_rules.proofs.ReadElements.{AreRight}
use Rattle.region_typing_rules.proofs.Told.{null_given, pointer_so, told_fits, told_here, told_is}
use Rattle.region_typing_rules.proofs.Calls.{ArePassed, IsPassed}
use Rattle.region_typing_rules.proofs.Elements.{AreOf, pointing, ends_there, size_there, IsSum, sum_among, sum_based, sum_valid, array_valid, one_valid}
use Rattle.region_typing_rules.proofs.EndedRows.{cell_valid, valid_as_array, valid_as_single, row_valid, value_as}
use Rattle.region_typing_rules.proofs.LastZeros.{IsNewRow}
use Rattle.region_typing_rules.proofs.Goes.{Goes, IsBounded, IsKept, IsKnot, OfNode, OfType, OfTypes, goes_further, goes_on, has_locals, shaped}
use Rattle.region_typing_rules.proofs.Accesses.{IsAimed, aimed_here, aimed_later, allocated_goes, audited_goes, bounded_goes, given_back, new_valid, summed_goes, test_goes, valid_back}
use Rattle.region_typing_rules.proofs.CallsGo.{setting as setting_of, AreBegun, IsBack, begun_so, called_goes}

module _ (g : Frame) (budget ticks : ℕ) where
  module _ (sandbox trusted : ℕ) (k : Knot) (is : IsKnot g budget ticks k) where
    abbrev pub setting : Setting
    setting = setting_of g budget ticks sandbox trusted k is

    -- ---- expressions

    pub chosen_goes : {A : Type 0} (low : ℕ) (types : List CType) (r : State) (P : A → State → Type 0) (test : Bool) (first second : Result A) → (test ≡ true → Goes g budget ticks low types r P first) → (test ≡ false → Goes g budget ticks low types r P second) → Goes g budget ticks low types r P (choose test first second)
    chosen_goes low types r P true first second h h' = h refl
    chosen_goes low types r P false first second h h' = h' refl

    pub truth_goes : (low : ℕ) (types : List CType) (r : State) (t : CType) (o : Result Value) → Goes g budget ticks low types r (OfType g t) o → Goes g budget ticks low types r (OfType g Int) (and_then o (λ v u. Gives (number_of_test (truth v)) u))
    truth_goes low types r t o h = goes_on g budget ticks low types r (OfType g t) (OfType g Int) o _ h (λ v u _ typed kept. test_goes g budget ticks low types u (truth v) kept)

    -- no bounds at a node
    pub none_bounded : (t : CType) (v : Value) (s : State) → IsBounded g t None v s
    none_bounded Int v s = tt
    none_bounded Char v s = tt
    none_bounded (Struct number) v s = tt
    none_bounded (Pointer m k t) v s = tt

    -- and those of a type are none where it has bounds
    of_type_bounded : (t : CType) (site : Site) (v : Value) (s : State) → OfType g t v s → IsBounded g t (bounds_at g.structs t site) v s
    of_type_bounded Int site v s typed = tt
    of_type_bounded Char site v s typed = tt
    of_type_bounded (Struct number) site v s typed = tt
    of_type_bounded (Pointer modes.Checked kinds.One t) site v s typed = let h = one_valid g.structs modes.Checked t s v typed in record { passes = h.passes; leads = h.leads }
    of_type_bounded (Pointer modes.Checked kinds.Array t) site v s typed = tt
    of_type_bounded (Pointer modes.Checked kinds.Nt t) site v s typed = tt
    of_type_bounded (Pointer modes.Tainted k t) site v s typed = tt
    of_type_bounded (Pointer modes.Raw k t) site v s typed = tt

    pub plain_bounded : (t : CType) (b : Option PointerBounds) → HasBounds g.structs t b → (v : Value) (s : State) → OfType g t v s → IsBounded g t b v s
    plain_bounded t b h v s typed = subst (λ b. IsBounded g t b v s) (sym h.1) (of_type_bounded t h.0 v s typed)

    module _ (low : ℕ) (types : List CType) (here : Scope) (flow : IsFlow here.flow) (reaches : Extends here.locals types) where
      -- what is known is so, and the state is kept
      abbrev pub IsHere : State → Type 0
      IsHere s = IsKnown g.structs here s × IsKept g budget ticks low types s

      pub here_later : (s u : State) → IsAfter s u → IsHere s → IsKept g budget ticks low types u → IsHere u
      here_later s u after h kept = (fits_after g.structs (length here.locals) here.flow s u flow after h.0, kept)

      -- a value where the first operand's was worked out before
      pub behind : {B : Type 0} (t t' : CType) (Q : B → State → Type 0) (s : State) (v : Value) (o : Result Value) (next : Value → State → Result B) → OfType g t v s → Goes g budget ticks low types s (OfType g t') o
          → ((w : Value) (x : State) → OfType g t v x → OfType g t' w x → IsKept g budget ticks low types x → Goes g budget ticks low types x Q (next w x)) → Goes g budget ticks low types s Q (and_then o next)
      behind t t' Q s v o next typed h more =
          goes_on g budget ticks low types s (OfType g t') Q o next h (λ w x grown typed' x_kept. more w x (value_grown g.structs (shaped s) (shaped x) grown.0 t v typed) typed' x_kept)

      -- of a value only its type
      pub typed_alone : (e : core.Expression) (t : CType) (s : State) → Goes g budget ticks low types s (OfNode g e t) (value true setting k e s) → Goes g budget ticks low types s (OfType g t) (value true setting k e s)
      typed_alone e t s h = goes_further g budget ticks low types s (OfNode g e t) (OfType g t) (value true setting k e s) h (λ v u h. h.0)

      -- a value whose node has no bounds that are asked for
      pub with_none : (e : core.Expression) (t : CType) (s : State) → ((v : Value) (u : State) → OfType g t v u → IsBounded g t (bounds_of e) v u) → Goes g budget ticks low types s (OfType g t) (value true setting k e s) → Goes g budget ticks low types s (OfNode g e t) (value true setting k e s)
      with_none e t s none h = goes_further g budget ticks low types s (OfType g t) (OfNode g e t) (value true setting k e s) h (λ v u typed. (typed, none v u typed))

      -- the number of an index
      index_goes : (s : State) (site : Option Site) (v : Value) → OfType g Int v s → IsKept g budget ticks low types s → Goes g budget ticks low types s (λ (z : ℤ) (u : State). v ≡ Number z) (number_given site v s)
      index_goes s site (Number z) typed kept = (refl, after_here s, kept)
      index_goes s site Null typed kept = absurd typed
      index_goes s site (At block byte) typed kept = absurd typed

      -- a local that is read is what is read
      pub local_read : (i : ℕ) (b : Option PointerBounds) (s : State) → WhereGiven (λ (v : Value) (u : State). (l : Local) → slice_get u.locals i ≡ Some l → l.value ≡ v) (value true setting k (core.Local i b) s)
      local_read i b s = over (slice_get s.locals i) refl
        where
          over : (o : Option Local) → slice_get s.locals i ≡ o → WhereGiven (λ (v : Value) (u : State). (l : Local) → slice_get u.locals i ≡ Some l → l.value ≡ v) (and_then (given o s) (audit true b))
          over None e = tt
          over (Some l) e = audited_so (λ (v : Value) (u : State). (l : Local) → slice_get u.locals i ≡ Some l → l.value ≡ v) true b l.value s (λ other f. same other l (sym f ∙ e))
            where
              same : (a b : Local) → Some a ≡ Some b → a.value ≡ b.value
              same a b q = cc

      -- with where it stands among the states
      with_after : {A : Type 0} (low : ℕ) (types : List CType) (r : State) (P : A → State → Type 0) (o : Result A) → Goes g budget ticks low types r P o → Goes g budget ticks low types r (λ v s. P v s × IsAfter r s) o
      with_after low types r P o h = sure_further (λ v s. P v s × IsAfter r s × IsKept g budget ticks low types s) (λ v s. (P v s × IsAfter r s) × IsAfter r s × IsKept g budget ticks low types s) o h (λ v s k. ((k.0, k.1), k.1, k.2))

      -- with what is known
      pub known_too : {A : Type 0} (s : State) (P : A → State → Type 0) (o : Result A) → IsHere s → Goes g budget ticks low types s P o → Goes g budget ticks low types s (λ v u. P v u × IsKnown g.structs here u) o
      known_too s P o h goes =
          sure_further (λ v u. P v u × IsAfter s u × IsKept g budget ticks low types u) (λ v u. (P v u × IsKnown g.structs here u) × IsAfter s u × IsKept g budget ticks low types u) o goes
          (λ v u k. ((k.0, fits_after g.structs (length here.locals) here.flow s u flow k.1 h.0), k.1, k.2))

      -- where an expression is a local of a type, that local holds what it gives
      abbrev pub IsLocalOf : core.Expression → Mode → Kind → CType → Value → State → Type 0
      IsLocalOf e m kind t v u = (a : ℕ) (c : Option PointerBounds) → e ≡ core.Local a c → slice_get here.locals a ≡ Some (Pointer m kind t) → slice_get u.locals a ≡ Some (pointing (Pointer m kind t) v)

      local_is : (l : Local) (m : Mode) (kind : Kind) (t : CType) (v : Value) → l.type ≡ Pointer m kind t → l.value ≡ v → l ≡ pointing (Pointer m kind t) v
      local_is l m kind t v type value = ap (λ c. record { type = c; value = l.value }) type ∙ ap (λ v. pointing (Pointer m kind t) v) value

      local_held : (e : core.Expression) (m : Mode) (kind : Kind) (t : CType) (s : State) → IsHere s → WhereGiven (λ v u. IsAfter s u → IsLocalOf e m kind t v u) (value true setting k e s)
      local_held (core.Local a b) m kind t s h =
          so_further (λ (v : Value) (u : State). (l : Local) → slice_get u.locals a ≡ Some l → l.value ≡ v) (λ v u. IsAfter s u → IsLocalOf (core.Local a b) m kind t v u) (value true setting k (core.Local a b) s) (local_read a b s)
          (λ v u read after a' c same type.
          let is : a ≡ a' = cc in
          let l = local_there g.structs (shaped s) types s.locals a' (Pointer m kind t) h.1.locals (reaches a' (Pointer m kind t) type) in
          let there : slice_get u.locals a' ≡ Some l.0 = ap (λ ls. slice_get ls a') after.1 ∙ l.1 in
          there ∙ ap Some (local_is l.0 m kind t v l.2 (read l.0 (subst (λ a. slice_get u.locals a ≡ Some l.0) (sym is) there))))
      local_held e m kind t s h = so_always (λ v u. IsAfter s u → IsLocalOf e m kind t v u) (value true setting k e s) (λ v u after a c same type. absurd (cc))

      pub same_value : (b : Option PointerBounds) (v : Value) (u : State) → (with_ends b v u.locals).value ≡ v
      same_value b v u = same_pointer (λ w. w ≡ v) b v u refl

      -- a pointer with its bounds, as an access and a sum take it
      pub aimed_goes : (e : core.Expression) (m : Mode) (kind : Kind) (t : CType) (p : PointerBounds) (s : State) (elements : HasElements g.structs e (Pointer m kind t) p) → IsHere s → Goes g budget ticks low types s (OfNode g e (Pointer m kind t)) (value true setting k e s)
          → Goes g budget ticks low types s (λ v u. IsAimed g budget ticks low types m kind t p elements.node (with_ends (bounds_of e) v u.locals) u × IsLocalOf e m kind t v u) (value true setting k e s)
      aimed_goes e m kind t p s elements h goes =
          sure_further (λ v u. (OfNode g e (Pointer m kind t) v u × IsAfter s u × IsKept g budget ticks low types u) × (IsAfter s u → IsLocalOf e m kind t v u)) (λ v u. (IsAimed g budget ticks low types m kind t p elements.node (with_ends (bounds_of e) v u.locals) u × IsLocalOf e m kind t v u) × IsAfter s u × IsKept g budget ticks low types u)
          (value true setting k e s) (sure_both (λ v u. OfNode g e (Pointer m kind t) v u × IsAfter s u × IsKept g budget ticks low types u) (λ v u. IsAfter s u → IsLocalOf e m kind t v u) (value true setting k e s) goes (local_held e m kind t s h))
          (λ v u x. ((subst (λ b. IsAimed g budget ticks low types m kind t p elements.node (with_ends b v u.locals) u) (sym elements.bounds) (aimed_here g budget ticks low types m kind t p elements.node v u x.0.0.0 (subst (λ b. IsBounded g (Pointer m kind t) b v u) elements.bounds x.0.0.1)), x.1 x.0.1), x.0.1, x.0.2))

      -- the number behind it
      pub number_goes_on : (i : core.Expression) (s : State) (site : Option Site) → Goes g budget ticks low types s (OfType g Int) (value true setting k i s) → Goes g budget ticks low types s (λ (z : ℤ) (u : State). Unit {0}) (and_then (value true setting k i s) (number_given site))
      number_goes_on i s site h = goes_on g budget ticks low types s (OfType g Int) (λ (z : ℤ) (u : State). Unit {0}) (value true setting k i s) (number_given site) h (λ v u _ typed kept. goes_further g budget ticks low types u (λ (z : ℤ) (u : State). v ≡ Number z) (λ (z : ℤ) (u : State). Unit {0}) (number_given site v u) (index_goes u site v typed kept) (λ z w is. tt))

      constant_from : (ls : List Local) (var : Option ℕ) (plus : ℤ) (v : Value) (z c : ℤ) → IsOfTerm ls (Some (record { var = var; plus = plus })) v → v ≡ Number z → constant_of (Some (record { var = var; plus = plus })) ≡ Some c → z ≡ c
      constant_from ls (Some x) plus v z c h is e = absurd (cc)
      constant_from ls None plus v z c h is e =
          let same : plus ≡ c = cc in
          let number : v ≡ Number (pos 0 +ℤ plus) = h (record { var = None; plus = plus }) refl in
          let q : z ≡ pos 0 +ℤ plus = number_same z (pos 0 +ℤ plus) (sym is ∙ number) in
          omega (arith, ints, q, same)
        where
          number_same : (a b : ℤ) → Number a ≡ Number b → a ≡ b
          number_same a b q = cc

      constant_number : (ls : List Local) (o : Option Term) (v : Value) (z c : ℤ) → IsOfTerm ls o v → v ≡ Number z → constant_of o ≡ Some c → z ≡ c
      constant_number ls None v z c h is e = absurd (cc)
      constant_number ls (Some t) v z c h is e = constant_from ls t.var t.plus v z c h is e

      constant_goes : (i : core.Expression) (s : State) (site : Option Site) → IsHere s → Goes g budget ticks low types s (OfType g Int) (value true setting k i s)
          → Goes g budget ticks low types s (λ (z : ℤ) (u : State). (c : ℤ) → constant here.locals i ≡ Some c → z ≡ c) (and_then (value true setting k i s) (number_given site))
      constant_goes i s site h goes =
          goes_on g budget ticks low types s (λ v u. OfType g Int v u × IsOfTerm s.locals (term here.locals i) v) (λ (z : ℤ) (u : State). (c : ℤ) → constant here.locals i ≡ Some c → z ≡ c) (value true setting k i s) (number_given site)
          (sure_further (λ v u. (OfType g Int v u × IsAfter s u × IsKept g budget ticks low types u) × IsOfTerm s.locals (term here.locals i) v) (λ v u. (OfType g Int v u × IsOfTerm s.locals (term here.locals i) v) × IsAfter s u × IsKept g budget ticks low types u) (value true setting k i s)
          (sure_both (λ v u. OfType g Int v u × IsAfter s u × IsKept g budget ticks low types u) (λ v u. IsOfTerm s.locals (term here.locals i) v) (value true setting k i s) goes
          (term_so true setting k is.keeps here.locals s.locals (types_alike g.structs (length here.locals) here.flow s (λ t alike. (h.0 t alike).holds)) (has_locals g.structs (shaped s) here.locals types s.locals reaches h.1.locals) i s refl))
          (λ v u x. ((x.0.0, x.1), x.0.1, x.0.2)))
          (λ v u _ x u_kept. goes_further g budget ticks low types u (λ (z : ℤ) (w : State). v ≡ Number z) (λ (z : ℤ) (w : State). (c : ℤ) → constant here.locals i ≡ Some c → z ≡ c) (number_given site v u) (index_goes u site v x.0 u_kept)
          (λ z w same c e. constant_number s.locals (term here.locals i) v z c x.1 same e))

      -- the value of an expression is valid with the bounds that it has
      abbrev pub GivenTo : core.Expression → Mode → Kind → CType → Value → State → Type 0
      GivenTo e m d t v u = AreGiven g.structs (length here.locals) (Pointer m d t) e v u

      -- what a sum comes to, where something else is so of its pointer
      pub record IsSummed (e i : core.Expression) (m : Mode) (kind : Kind) (t : CType) (direction : Direction) (p : PointerBounds) (X : Value → State → Type 0) (x : Value) (y : State) : Type 0 where
        pub before : Value
        pub number : ℤ
        pub sum : IsSum g.structs (Pointer m kind t) direction number before x y
        pub valid : IsBounded g (Pointer m kind t) (Some p) before y
        pub local : (a : ℕ) (c : Option PointerBounds) → e ≡ core.Local a c → slice_get here.locals a ≡ Some (Pointer m kind t) → slice_get y.locals a ≡ Some (pointing (Pointer m kind t) before)
        pub constant : (c : ℤ) → constant here.locals i ≡ Some c → number ≡ c
        pub other : X before y

      pub sum_goes : (e i : core.Expression) (m : Mode) (kind : Kind) (t : CType) (direction : Direction) (p : PointerBounds) (site : Site) (elements : HasElements g.structs e (Pointer m kind t) p) (X : Value → State → Type 0) (s : State) → Counts kind → IsHere s
          → ((v : Value) (u w : State) → IsAfter u w → X v u → X v w) → Goes g budget ticks low types s (λ v u. OfNode g e (Pointer m kind t) v u × X v u) (value true setting k e s)
          → ((u : State) → IsHere u → Goes g budget ticks low types u (OfType g Int) (value true setting k i u))
          → Goes g budget ticks low types s (IsSummed e i m kind t direction p X)
          (and_then (value true setting k e s) (λ v u. and_then (and_then (value true setting k i u) (number_given (Some site))) (λ z w. summed direction site z v (with_ends (bounds_of e) v u.locals).ends w)))
      sum_goes e i m kind t direction p site elements X s counts h stable first second =
          goes_on g budget ticks low types s (λ v u. (IsAimed g budget ticks low types m kind t p elements.node (with_ends (bounds_of e) v u.locals) u × IsLocalOf e m kind t v u) × X v u) (IsSummed e i m kind t direction p X) (value true setting k e s) _
          (sure_further (λ v u. ((IsAimed g budget ticks low types m kind t p elements.node (with_ends (bounds_of e) v u.locals) u × IsLocalOf e m kind t v u) × IsAfter s u × IsKept g budget ticks low types u) × X v u)
          (λ v u. ((IsAimed g budget ticks low types m kind t p elements.node (with_ends (bounds_of e) v u.locals) u × IsLocalOf e m kind t v u) × X v u) × IsAfter s u × IsKept g budget ticks low types u) (value true setting k e s)
          (sure_both (λ v u. (IsAimed g budget ticks low types m kind t p elements.node (with_ends (bounds_of e) v u.locals) u × IsLocalOf e m kind t v u) × IsAfter s u × IsKept g budget ticks low types u) X (value true setting k e s)
          (aimed_goes e m kind t p s elements h (goes_further g budget ticks low types s (λ v u. OfNode g e (Pointer m kind t) v u × X v u) (OfNode g e (Pointer m kind t)) (value true setting k e s) first (λ v u x. x.0)))
          (sure_given X (value true setting k e s) (sure_further (λ v u. (OfNode g e (Pointer m kind t) v u × X v u) × IsAfter s u × IsKept g budget ticks low types u) X (value true setting k e s) first (λ v u x. x.0.1))))
          (λ v u x. ((x.0.0, x.1), x.0.1, x.0.2)))
          (λ v u after aimed u_kept. goes_on g budget ticks low types u (λ (z : ℤ) (w : State). (c : ℤ) → constant here.locals i ≡ Some c → z ≡ c) (IsSummed e i m kind t direction p X) (and_then (value true setting k i u) (number_given (Some site))) _
          (constant_goes i u (Some site) (here_later s u after h u_kept) (second u (here_later s u after h u_kept)))
          (λ z w later is w_kept.
          let q = with_ends (bounds_of e) v u.locals in
          let there = aimed_later g budget ticks low types m kind t p elements.node q u w later aimed.0.0 in
          goes_further g budget ticks low types w (λ x y. IsSum g.structs (Pointer m kind t) direction z q.value x y × IsAfter w y) (IsSummed e i m kind t direction p X) (summed direction site z v q.ends w)
          (subst (λ v. Goes g budget ticks low types w (λ x y. IsSum g.structs (Pointer m kind t) direction z q.value x y × IsAfter w y) (summed direction site z v q.ends w)) (same_value (bounds_of e) v u)
          (with_after low types w (λ x y. IsSum g.structs (Pointer m kind t) direction z q.value x y) (summed direction site z q.value q.ends w) (summed_goes g budget ticks low types m kind t p elements.node counts w direction site z q there w_kept)))
          (λ x y sum. record {
            before = q.value;
            number = z;
            sum = sum.0;
            valid = (aimed_later g budget ticks low types m kind t p elements.node q w y sum.1 there).valid;
            local = λ a c is_local type. subst (λ ls. slice_get ls a ≡ Some (pointing (Pointer m kind t) q.value)) (sym (sum.1.1 ∙ later.1)) (subst (λ v. slice_get u.locals a ≡ Some (pointing (Pointer m kind t) v)) (sym (same_value (bounds_of e) v u)) (aimed.0.1 a c is_local type));
            constant = is;
            other = subst (λ v. X v y) (sym (same_value (bounds_of e) v u)) (stable v w y sum.1 (stable v u w later aimed.1));
          })))

      pub sum_typed : {e i : core.Expression} {m : Mode} {kind : Kind} {t : CType} {p : PointerBounds} {X : Value → State → Type 0} (direction : Direction) (x : Value) (y : State) → IsSummed e i m kind t direction p X x y → OfType g (Pointer m kind t) x y
      sum_typed direction x y h = h.sum.typed

      -- what a sum is given with, at each state that is alike
      sum_there : (e i : core.Expression) (m : Mode) (kind : Kind) (t : CType) (direction : Direction) (p : PointerBounds) (x : Value) (y w : State) → IsAlike (length here.locals) y w → (h : IsSummed e i m kind t direction p (GivenTo e m kind t) x y) → IsSum g.structs (Pointer m kind t) direction h.number h.before x w
      sum_there e i m kind t direction p x y w alike h = sum_among g.structs (Pointer m kind t) direction h.number h.before x y w alike.blocks h.sum

      own_there : (e : core.Expression) (c : CType) (p : PointerBounds) (v : Value) (w : State) → bounds_of e ≡ Some p → IsGivenIf g.structs c (own_bounds e) v w → IsBoundedBy g.structs p.bounds (record { type = c; value = v }) w
      own_there e c p v w own h = subst (λ o. IsGivenIf g.structs c (option_map (λ (q : PointerBounds). q.bounds) o) v w) own h

      pub based_there : (e : core.Expression) (c : CType) (v : Value) (w : State) → IsGivenIf g.structs c (based_bounds e) v w → (d : Bounds) → based_bounds e ≡ Some d → IsBoundedBy g.structs d (record { type = c; value = v }) w
      based_there e c v w h d is = subst (λ o. IsGivenIf g.structs c o v w) is h

      pub sum_given : (e i : core.Expression) (m : Mode) (kind : Kind) (t : CType) (direction : Direction) (site : Site) (p : PointerBounds) (b : Option PointerBounds) → bounds_of e ≡ Some p → AreSumBounds here.locals e direction i p b → (x : Value) (y : State) → IsSummed e i m kind t direction p (GivenTo e m kind t) x y
          → GivenTo (core.Sum e direction i site b) m kind t x y
      sum_given e i m kind t direction site p b own are x y h w alike = (at_node b are, from_base (based_bounds e) refl)
        where
          there : AreGivenAt g.structs (Pointer m kind t) e h.before w
          there = h.other w alike

          at_node : (b : Option PointerBounds) → AreSumBounds here.locals e direction i p b → IsGivenIf g.structs (Pointer m kind t) (option_map (λ (q : PointerBounds). q.bounds) b) x w
          at_node None are = tt
          at_node (Some q) are =
              sum_valid g.structs (Pointer m kind t) direction h.number h.before x w (sum_there e i m kind t direction p x y w alike h) here.locals e i p (Some q) are h.constant
              (own_there e (Pointer m kind t) p h.before w own there.0) (based_there e (Pointer m kind t) h.before w there.1) q refl

          from_base : (o : Option Bounds) → based_bounds e ≡ o → IsGivenIf g.structs (Pointer m kind t) o x w
          from_base None is = tt
          from_base (Some d) is = sum_based g.structs (Pointer m kind t) direction h.number h.before x w (sum_there e i m kind t direction p x y w alike h) e d is (based_there e (Pointer m kind t) h.before w there.1 d is)

      node_bounded : (m : Mode) (kind : Kind) (t : CType) (b : Option PointerBounds) (x : Value) (y : State) → IsGivenIf g.structs (Pointer m kind t) (option_map (λ (q : PointerBounds). q.bounds) b) x y → IsBounded g (Pointer m kind t) b x y
      node_bounded m kind t None x y h = tt
      node_bounded m kind t (Some q) x y h = h.0

      pub sum_bounded : (e i : core.Expression) (m : Mode) (kind : Kind) (t : CType) (direction : Direction) (site : Site) (p : PointerBounds) (b : Option PointerBounds) → bounds_of e ≡ Some p → AreSumBounds here.locals e direction i p b → (x : Value) (y : State) → IsSummed e i m kind t direction p (GivenTo e m kind t) x y
          → IsBounded g (Pointer m kind t) b x y
      sum_bounded e i m kind t direction site p b own are x y h = node_bounded m kind t b x y (sum_given e i m kind t direction site p b own are x y h y (alike_here (length here.locals) y)).0

      -- a value with what it is given with
      pub with_given : (e : core.Expression) (m : Mode) (kind : Kind) (t : CType) (s : State) → Goes g budget ticks low types s (OfNode g e (Pointer m kind t)) (value true setting k e s) → WhereGiven (GivenTo e m kind t) (value true setting k e s)
          → Goes g budget ticks low types s (λ v u. OfNode g e (Pointer m kind t) v u × GivenTo e m kind t v u) (value true setting k e s)
      with_given e m kind t s h given =
          sure_further (λ v u. (OfNode g e (Pointer m kind t) v u × IsAfter s u × IsKept g budget ticks low types u) × GivenTo e m kind t v u) (λ v u. (OfNode g e (Pointer m kind t) v u × GivenTo e m kind t v u) × IsAfter s u × IsKept g budget ticks low types u) (value true setting k e s)
          (sure_both (λ v u. OfNode g e (Pointer m kind t) v u × IsAfter s u × IsKept g budget ticks low types u) (GivenTo e m kind t) (value true setting k e s) h given) (λ v u x. ((x.0.0, x.1), x.0.1, x.0.2))

      pub given_stays : (e : core.Expression) (m : Mode) (kind : Kind) (t : CType) (v : Value) (u w : State) → IsAfter u w → GivenTo e m kind t v u → GivenTo e m kind t v w
      given_stays e m kind t v u w after h = given_later g.structs (length here.locals) (Pointer m kind t) e v u w after h

      -- what a pointer of one kind is given with is so of it as one of another
      pub as_kind : (e : core.Expression) (m : Mode) (d d' : Kind) (t : CType) (s : State)
          → ((v : Value) (w : State) → OfType g (Pointer m d t) v w → (b : Bounds) → IsValid g.structs (Some b) (pointing (Pointer m d t) v) w → IsValid g.structs (Some b) (pointing (Pointer m d' t) v) w)
          → Goes g budget ticks low types s (OfNode g e (Pointer m d t)) (value true setting k e s) → WhereGiven (GivenTo e m d t) (value true setting k e s) → (c : CType) → Pointer m d' t ≡ c
          → WhereGiven (AreGiven g.structs (length here.locals) c e) (value true setting k e s)
      as_kind e m d d' t s weaker goes given c same =
          subst (λ c. WhereGiven (AreGiven g.structs (length here.locals) c e) (value true setting k e s)) same
          (so_further (λ v u. (OfNode g e (Pointer m d t) v u × IsAfter s u × IsKept g budget ticks low types u) × GivenTo e m d t v u) (GivenTo e m d' t) (value true setting k e s)
          (so_both (λ v u. OfNode g e (Pointer m d t) v u × IsAfter s u × IsKept g budget ticks low types u) (GivenTo e m d t) (value true setting k e s)
          (sure_given (λ v u. OfNode g e (Pointer m d t) v u × IsAfter s u × IsKept g budget ticks low types u) (value true setting k e s) goes) given)
          (λ v u x. given_weaker g.structs m d d' t (length here.locals) e v u (λ w alike b h. weaker v w (subst (λ y. HasValue g.structs (shapes y) (Pointer m d t) v) (sym alike.blocks) x.0.0.0) b h) x.1))

      -- the bounds that its type gives it
      pub plainly_given : (e : core.Expression) (m : Mode) (d : Kind) (t : CType) (s : State) → HasBounds g.structs (Pointer m d t) (bounds_of e) → based_bounds e ≡ None → Goes g budget ticks low types s (OfNode g e (Pointer m d t)) (value true setting k e s) → WhereGiven (GivenTo e m d t) (value true setting k e s)
      plainly_given e m d t s told based h =
          so_further (λ v u. OfNode g e (Pointer m d t) v u × IsAfter s u × IsKept g budget ticks low types u) (GivenTo e m d t) (value true setting k e s)
          (sure_given (λ v u. OfNode g e (Pointer m d t) v u × IsAfter s u × IsKept g budget ticks low types u) (value true setting k e s) h) (λ v u x. plain_given g.structs (length here.locals) m d t e v u told based x.0.0)

      -- another expression, which has no bounds
      pub given_none : (e : core.Expression) (m : Mode) (d : Kind) (t : CType) (s : State) → own_bounds e ≡ None → based_bounds e ≡ None → WhereGiven (GivenTo e m d t) (value true setting k e s)
      given_none e m d t s own based = so_always (GivenTo e m d t) (value true setting k e s) (λ v u. none_given g.structs (length here.locals) (Pointer m d t) e v u own based)

      -- a local, whose own bounds are so
      pub local_given_by : (i : ℕ) (b : Option PointerBounds) (m : Mode) (d : Kind) (t : CType) (s : State) → IsHere s → slice_get here.locals i ≡ Some (Pointer m d t) → Goes g budget ticks low types s (OfNode g (core.Local i b) (Pointer m d t)) (value true setting k (core.Local i b) s)
          → ((v : Value) (u w : State) (l : Local) → IsKnown g.structs here w → OfType g (Pointer m d t) v w → slice_get w.locals i ≡ Some l → l.type ≡ Pointer m d t → l.value ≡ v → IsGivenIf g.structs (Pointer m d t) (own_bounds (core.Local i b)) v w)
          → WhereGiven (GivenTo (core.Local i b) m d t) (value true setting k (core.Local i b) s)
      local_given_by i b m d t s h is goes own =
          so_further (λ v u. (OfNode g (core.Local i b) (Pointer m d t) v u × IsAfter s u × IsKept g budget ticks low types u) × ((l : Local) → slice_get u.locals i ≡ Some l → l.value ≡ v)) (GivenTo (core.Local i b) m d t) (value true setting k (core.Local i b) s)
          (so_both (λ v u. OfNode g (core.Local i b) (Pointer m d t) v u × IsAfter s u × IsKept g budget ticks low types u) (λ (v : Value) (u : State). (l : Local) → slice_get u.locals i ≡ Some l → l.value ≡ v) (value true setting k (core.Local i b) s)
          (sure_given (λ v u. OfNode g (core.Local i b) (Pointer m d t) v u × IsAfter s u × IsKept g budget ticks low types u) (value true setting k (core.Local i b) s) goes) (local_read i b s))
          (λ v u x w alike. by v u w alike x.0.0.0 x.0.1 x.0.2 x.1)
        where
          other : (o : Option CType) → o ≡ Some (Pointer m d t) → o ≡ Some Char → ⊥
          other o p q = cc

          by : (v : Value) (u w : State) → IsAlike (length here.locals) u w → OfType g (Pointer m d t) v u → IsAfter s u → IsKept g budget ticks low types u → ((l : Local) → slice_get u.locals i ≡ Some l → l.value ≡ v) → AreGivenAt g.structs (Pointer m d t) (core.Local i b) v w
          by v u w alike typed after kept read =
              let l = local_there g.structs (shaped u) types u.locals i (Pointer m d t) kept.locals (reaches i (Pointer m d t) is) in
              let type_u = mapped_there (λ (l : Local). l.type) u.locals i l.0 l.1 ∙ ap Some l.2 in
              let there : slice_get w.locals i ≡ Some l.0 = alike.tracked i (slice_get_within here.locals i (Pointer m d t) is) (other (slice_get (types_of u.locals) i) type_u) ∙ l.1 in
              let known_u = fits_after g.structs (length here.locals) here.flow s u flow after h.0 in
              let known_w : IsKnown g.structs here w = λ z again. known_u z (alike_on (length here.locals) u w z alike again) in
              let typed_w = subst (λ x. HasValue g.structs (shapes x) (Pointer m d t) v) (sym alike.blocks) typed in
              local_given g.structs m d t i v w l.0 there l.2 (read l.0 l.1) b (ap (λ ts. slice_get ts i) alike.same ∙ type_u)
              (own v u w l.0 known_w typed_w there l.2 (read l.0 l.1))

      -- a pointer whose type says all of its bounds
      pub typed_given : (i : ℕ) (b : Option PointerBounds) (m : Mode) (d : Kind) (t : CType) (s : State) → IsHere s → slice_get here.locals i ≡ Some (Pointer m d t) → Goes g budget ticks low types s (OfNode g (core.Local i b) (Pointer m d t)) (value true setting k (core.Local i b) s)
          → HasBounds g.structs (Pointer m d t) b → WhereGiven (GivenTo (core.Local i b) m d t) (value true setting k (core.Local i b) s)
      typed_given i b m d t s h is goes bounds = local_given_by i b m d t s h is goes (λ v u w l known typed there type value. own_given g.structs m d t (core.Local i b) v w bounds typed)

      -- bounds that are in force of a local, as those of the value
      pub forced : (m : Mode) (d : Kind) (t : CType) (v : Value) (w : State) (l : Local) → l.type ≡ Pointer m d t → l.value ≡ v → (b : Bounds) → IsBoundedBy g.structs b l w → IsBoundedBy g.structs b (pointing (Pointer m d t) v) w
      forced m d t v w l type value b h =
          let made : l ≡ record { type = Pointer m d t; value = v } = ap (λ c. record { type = c; value = l.value }) type ∙ ap (λ v. record { type = Pointer m d t; value = v }) value in
          subst (λ l. IsBoundedBy g.structs b l w) made h

      -- a file-level pointer is valid with its bounds, wherever it is given
      pub bounded_given : (object : ℕ) (m : Mode) (kind : Kind) (t : CType) (p : PointerBounds) → IsBoundedObject g object m kind t p.bounds → (v : Value) (u : State) → IsValid g.structs (Some p.bounds) (pointing (Pointer m kind t) v) u
          → GivenTo (core.Load (Pointer m kind t) (core.Direct object 0) (Some p)) m kind t v u
      bounded_given object m kind t p is v u valid w alike =
          let grows : Grows (shaped u) (shaped w) = subst (λ b. Grows (shaped u) (shapes b)) (sym alike.blocks) (grows_here (shaped u)) in
          ((constant_stays g.structs p.bounds is.constant (pointing (Pointer m kind t) v) u w grows valid, λ q c e there. absurd (let none : None ≡ Some q = sym is.constant.base ∙ e in cc)), tt)

      pub array_given : (m : Mode) (t : CType) (n object : ℕ) (variable : Variable) (p : PointerBounds) → 0 < n → AreRows g.structs (shape (object_block variable)) t n → p.bounds ≡ row_of n → (v : Value) (u : State) → v ≡ At object 0 → slice_get (shaped u) object ≡ Some (shape (object_block variable))
          → GivenTo (core.AddressOf (core.Direct object 0) (Some p)) m kinds.Array t v u
      array_given m t n object variable p some rows bounds v u at found w alike = (
        (
          subst (λ v. IsValid g.structs (Some p.bounds) (pointing (Pointer m kinds.Array t) v) w) (sym at)
              (array_valid g.structs m t n object (shape (object_block variable)) w (subst (λ b. slice_get (shapes b) object ≡ Some (shape (object_block variable))) (sym alike.blocks) found) some rows p bounds),
          λ q c e there. absurd (let none : p.bounds.base ≡ None = ap (λ (b : Bounds). b.base) bounds in let k : None ≡ Some q = sym none ∙ e in cc),
        ),
        tt,
      )

      pub row_given : (t : CType) (n object : ℕ) (variable : Variable) (p : PointerBounds) → IsEndedRow g.structs (shape (object_block variable)) t n → p.bounds ≡ row_of n → (v : Value) (u : State) → v ≡ At object 0 → slice_get (shaped u) object ≡ Some (shape (object_block variable))
          → GivenTo (core.AddressOf (core.Direct object 0) (Some p)) modes.Checked kinds.Nt t v u
      row_given t n object variable p row bounds v u at found w alike = (
        (
          subst (λ v. IsValid g.structs (Some p.bounds) (pointing (Pointer modes.Checked kinds.Nt t) v) w) (sym at)
              (row_valid g.structs modes.Checked t n object (shape (object_block variable)) w (subst (λ b. slice_get (shapes b) object ≡ Some (shape (object_block variable))) (sym alike.blocks) found) row p bounds),
          λ q c e there. absurd (let none : p.bounds.base ≡ None = ap (λ (b : Bounds). b.base) bounds in let k : None ≡ Some q = sym none ∙ e in cc),
        ),
        tt,
      )

      -- ---- order

      -- the block in which a pointer stands is that of its base
      in_base : (m : Mode) (kind : Kind) (t : CType) (d : Bounds) (q block byte : ℕ) (s : State) → IsBoundedBy g.structs d (pointing (Pointer m kind t) (At block byte)) s → d.base ≡ Some q → (w : ℕ) × (l : Local) × (slice_get s.locals q ≡ Some l) × (l.value ≡ At block w)
      in_base m kind t d q block byte s h base =
          let site : Site = record { place = record { line = 0; col = 0 } } in
          let v = valid_from (at_node d (size_of g.structs t) (is_ended (Pointer m kind t)) site) block byte s (h.0.passes site) in
          let parts = ends_parts (size_of g.structs t) (base_byte d.base s.locals block byte) (term_value d.lo s.locals) (term_value d.hi s.locals) v.ends v.are in
          there (slice_get s.locals q) refl parts.byte (sym (ap (λ o. base_byte o s.locals block byte) base) ∙ parts.at_base)
        where
          there : (o : Option Local) → slice_get s.locals q ≡ o → (w : ℕ) → base_byte (Some q) s.locals block byte ≡ Some w → (w : ℕ) × (l : Local) × (slice_get s.locals q ≡ Some l) × (l.value ≡ At block w)
          there None found w h = absurd (let none : None ≡ Some w = rw found at h in cc)
          there (Some l) found w h = by l.value refl
            where
              by : (v : Value) → l.value ≡ v → (w : ℕ) × (l : Local) × (slice_get s.locals q ≡ Some l) × (l.value ≡ At block w)
              by (Number z) e = absurd (let none : None ≡ Some w = rw (found, e) at h in cc)
              by Null e = absurd (let none : None ≡ Some w = rw (found, e) at h in cc)
              by (At other place) e =
                  let one : cond (other == block) (Some place) None ≡ Some w = rw (found, e) at h in
                  let c = cond_some (other == block) place w one in
                  (w, l, found, e ∙ (ap (λ b. At b place) (same_number other block c.0) ∙ ap (At block) c.1))

      pub ordered_goes : (m m' : Mode) (kind kind' : Kind) (t t' : CType) (comparison : Comparison) (site : Site) (d d' : Bounds) (q : ℕ) → d.base ≡ Some q → d'.base ≡ Some q → (v w : Value) (s : State) → OfType g (Pointer m kind t) v s → OfType g (Pointer m' kind' t') w s
          → IsBoundedBy g.structs d (pointing (Pointer m kind t) v) s → IsBoundedBy g.structs d' (pointing (Pointer m' kind' t') w) s → IsKept g budget ticks low types s
          → Goes g budget ticks low types s (OfType g Int) (and_then (not_null site v s) (λ _ x. and_then (not_null site w x) (λ _ y. ordered comparison (Some site) v w y)))
      ordered_goes m m' kind kind' t t' comparison site d d' q base base' (Number z) w s hv hw bv bw kept = absurd hv
      ordered_goes m m' kind kind' t t' comparison site d d' q base base' Null w s hv hw bv bw kept = tt
      ordered_goes m m' kind kind' t t' comparison site d d' q base base' (At block byte) (Number z) s hv hw bv bw kept = absurd hw
      ordered_goes m m' kind kind' t t' comparison site d d' q base base' (At block byte) Null s hv hw bv bw kept = tt
      ordered_goes m m' kind kind' t t' comparison site d d' q base base' (At block byte) (At other byte') s hv hw bv bw kept =
          let a = in_base m kind t d q block byte s bv base in
          let b = in_base m' kind' t' d' q other byte' s bw base' in
          let same : block ≡ other = same_block a.1 b.1 (sym a.2 ∙ b.2) a.3 b.3 in
          subst (λ test. Goes g budget ticks low types s (OfType g Int) (ordered_if test comparison (Some site) byte byte' s)) (sym (is_same same)) (test_goes g budget ticks low types s (holds comparison (pos byte) (pos byte')) kept)
        where
          is_same : block ≡ other → (block == other) ≡ true
          is_same e = grind (arith, nat_tests)

          same_block : {x y : ℕ} (l k : Local) → Some l ≡ Some k → l.value ≡ At block x → k.value ≡ At other y → block ≡ other
          same_block l k e p r = cc

      -- a pointer as one with bounds
      row_value : (m : Mode) (d : Kind) (t : CType) (v : Value) (u : State) → OfType g (Pointer m d t) v u → OfType g (Pointer m kinds.Array t) v u
      row_value m d t (Number z) u h = absurd h
      row_value m d t Null u h = tt
      row_value m d t (At block byte) u h = tt

      pub as_row : (m : Mode) (d : Kind) (t : CType) (e : core.Expression) (s : State) → Goes g budget ticks low types s (OfNode g e (Pointer m d t)) (value true setting k e s)
          → ((v : Value) (u : State) → OfType g (Pointer m d t) v u → IsBounded g (Pointer m d t) (bounds_of e) v u → IsBounded g (Pointer m kinds.Array t) (bounds_of e) v u) → Goes g budget ticks low types s (OfNode g e (Pointer m kinds.Array t)) (value true setting k e s)
      as_row m d t e s h bounded = goes_further g budget ticks low types s (OfNode g e (Pointer m d t)) (OfNode g e (Pointer m kinds.Array t)) (value true setting k e s) h (λ v u x. (row_value m d t v u x.0, bounded v u x.0 x.1))

      pub row_bounded : (m : Mode) (t : CType) (b : Option PointerBounds) → HasBounds g.structs (Pointer m kinds.One t) b → (v : Value) (u : State) → OfType g (Pointer m kinds.One t) v u → IsBounded g (Pointer m kinds.Array t) b v u
      row_bounded modes.Checked t b h v u typed = subst (λ b. IsBounded g (Pointer modes.Checked kinds.Array t) b v u) (sym h.1) (one_valid g.structs modes.Checked t u v typed)
      row_bounded modes.Tainted t b h v u typed = subst (λ b. IsBounded g (Pointer modes.Tainted kinds.Array t) b v u) (sym h.1) tt
      row_bounded modes.Raw t b h v u typed = subst (λ b. IsBounded g (Pointer modes.Raw kinds.Array t) b v u) (sym h.1) tt

      -- a null-terminated pointer as one to an array
      pub array_bounded : (m : Mode) (t : CType) (b : Option PointerBounds) (v : Value) (u : State) → OfType g (Pointer m kinds.Nt t) v u → IsBounded g (Pointer m kinds.Nt t) b v u → IsBounded g (Pointer m kinds.Array t) b v u
      array_bounded m t None v u typed h = tt
      array_bounded m t (Some p) v u typed h = valid_as_array g.structs m t u p.bounds v typed h

      -- and as one to the element at which it stands
      pub single_bounded : (m : Mode) (kind : Kind) (t : CType) (b : Option PointerBounds) (v : Value) (u : State) → OfType g (Pointer m kind t) v u → IsBounded g (Pointer m kind t) b v u → IsBounded g (Pointer m kinds.One t) b v u
      single_bounded m kind t None v u typed h = tt
      single_bounded m kind t (Some p) v u typed h = valid_as_single g.structs m kind t u p.bounds v typed h

      -- what a pointer is given, by its kind
      pub given_by_kind : (e : core.Expression) (c : CType) (s : State) → ((m : Mode) (kind : Kind) (t : CType) → c ≡ Pointer m kind t → WhereGiven (GivenTo e m kind t) (value true setting k e s)) → WhereGiven (IsGivenTo g.structs (length here.locals) c e) (value true setting k e s)
      given_by_kind e Int s each = so_always (IsGivenTo g.structs (length here.locals) Int e) (value true setting k e s) (λ v u. tt)
      given_by_kind e Char s each = so_always (IsGivenTo g.structs (length here.locals) Char e) (value true setting k e s) (λ v u. tt)
      given_by_kind e (Struct number) s each = so_always (IsGivenTo g.structs (length here.locals) (Struct number) e) (value true setting k e s) (λ v u. tt)
      given_by_kind e (Pointer m kinds.One t) s each = so_always (IsGivenTo g.structs (length here.locals) (Pointer m kinds.One t) e) (value true setting k e s) (λ v u. tt)
      given_by_kind e (Pointer m kinds.Nt t) s each = each m kinds.Nt t refl
      given_by_kind e (Pointer m kinds.Array t) s each = each m kinds.Array t refl

      -- an argument, as its function takes it
      abbrev pub IsArgument : core.Expression → CType → Value → State → Type 0
      IsArgument e t v u = OfType g t v u × IsPassed g.structs (length here.locals) here.locals t e v u

      -- what is read off its expression
      abbrev IsPassedTerm : core.Expression → State → Value → State → Type 0
      IsPassedTerm e s v u = IsOfTerm s.locals (term here.locals e) v

      abbrev IsPassedLocal : core.Expression → Value → State → Type 0
      IsPassedLocal e v u = (p : ℕ) → pointer_local here.locals e ≡ Some p → (l : Local) → slice_get u.locals p ≡ Some l → l.value ≡ v

      abbrev IsPassedNull : core.Expression → Value → State → Type 0
      IsPassedNull e v u = is_null e ≡ true → v ≡ Null

      abbrev IsRead : core.Expression → CType → State → Value → State → Type 0
      IsRead e t s v u = IsPassedTerm e s v u × (IsPassedLocal e v u × (IsPassedNull e v u × IsGivenTo g.structs (length here.locals) t e v u))

      pub passed_so : (e : core.Expression) (t : CType) (s : State) → IsHere s → Goes g budget ticks low types s (OfType g t) (value true setting k e s) → WhereGiven (IsGivenTo g.structs (length here.locals) t e) (value true setting k e s) → Goes g budget ticks low types s (IsArgument e t) (value true setting k e s)
      passed_so e t s h goes given_to =
          let has = has_locals g.structs (shaped s) here.locals types s.locals reaches h.1.locals in
          let typed = types_alike g.structs (length here.locals) here.flow s (λ t alike. (h.0 t alike).holds) in
          sure_further (λ v u. (OfType g t v u × IsAfter s u × IsKept g budget ticks low types u) × IsRead e t s v u) (λ v u. IsArgument e t v u × IsAfter s u × IsKept g budget ticks low types u) (value true setting k e s)
          (sure_both (λ v u. OfType g t v u × IsAfter s u × IsKept g budget ticks low types u) (IsRead e t s) (value true setting k e s) goes
          (so_both (IsPassedTerm e s) (λ v u. IsPassedLocal e v u × (IsPassedNull e v u × IsGivenTo g.structs (length here.locals) t e v u)) (value true setting k e s) (term_so true setting k is.keeps here.locals s.locals typed has e s refl)
          (so_both (IsPassedLocal e) (λ v u. IsPassedNull e v u × IsGivenTo g.structs (length here.locals) t e v u) (value true setting k e s) (pointer_so true setting k is.keeps g.structs here.locals e s)
          (so_both (IsPassedNull e) (IsGivenTo g.structs (length here.locals) t e) (value true setting k e s) (null_given true setting k is.keeps g.structs here.locals e s) given_to))))
          (λ v u x. ((x.0.0, record { term = subst (λ ls. IsOfTerm ls (term here.locals e) v) (sym x.0.1.1) x.1.0; local = x.1.1.0; null = x.1.1.1.0; given = x.1.1.1.1 }), x.0.1, x.0.2))

      -- where it is known, and the locals are there
      begun_later : (s u : State) → IsAfter s u → IsHere s → IsKept g budget ticks low types u → {callee : Callee} {ts : List CType} {bs : List (Option Bounds)} {result : Option CType} {r : Option Bounds} (enters : IsCallee g callee ts bs result r) (arguments : core.Arguments) (vs : List Value)
          → AreAsked g.structs here (terms_of here.locals arguments ts) (pointers_of here.locals arguments) arguments bs → ArePassed g.structs (length here.locals) here.locals ts arguments vs u → AreBegun g budget ticks sandbox trusted k is types enters vs u
      begun_later s u after h kept enters arguments vs asked passed =
          begun_so g budget ticks sandbox trusted k is types enters here arguments vs u (here_later s u after h kept).0 (has_locals g.structs (shaped u) here.locals types u.locals reaches kept.locals) asked passed

      pub answered : (s : State) → IsHere s → {callee : Callee} {ts : List CType} {bs : List (Option Bounds)} {result : Option CType} {r : Option Bounds} (enters : IsCallee g callee ts bs result r) (arguments : core.Arguments)
          → AreAsked g.structs here (terms_of here.locals arguments ts) (pointers_of here.locals arguments) arguments bs → (vs : List Value) (u : State) → IsAfter s u → OfTypes g ts vs u × ArePassed g.structs (length here.locals) here.locals ts arguments vs u → IsKept g budget ticks low types u
          → Goes g budget ticks low types u (IsBack g budget ticks sandbox trusted k is types (terms_of here.locals arguments ts) result r) (called setting k callee vs u)
      answered s here' enters arguments asked vs u after x kept =
          called_goes g budget ticks sandbox trusted k is types low u here arguments enters vs x.0 (here_later s u after here' kept).0 (has_locals g.structs (shaped u) here.locals types u.locals reaches kept.locals) x.1 (begun_later s u after here' kept enters arguments vs asked x.1) kept

      -- those that are declared for a result
      freely_given : (e : core.Expression) (m : Mode) (kind : Kind) (t : CType) (p : PointerBounds) (s : State) → bounds_of e ≡ Some p → based_bounds e ≡ None → p.bounds.base ≡ None → AreInts here.locals p.bounds → Goes g budget ticks low types s (OfNode g e (Pointer m kind t)) (value true setting k e s)
          → WhereGiven (GivenTo e m kind t) (value true setting k e s)
      freely_given e m kind t p s own based none ints h =
          so_further (λ v u. OfNode g e (Pointer m kind t) v u × IsAfter s u × IsKept g budget ticks low types u) (GivenTo e m kind t) (value true setting k e s)
          (sure_given (λ v u. OfNode g e (Pointer m kind t) v u × IsAfter s u × IsKept g budget ticks low types u) (value true setting k e s) h)
          (λ v u x w alike. (
            subst (λ o. IsGivenIf g.structs (Pointer m kind t) o v w) (sym (ap (option_map (λ (b : PointerBounds). b.bounds)) own)) (
              free_alike g.structs g.structs here.locals u w (has_locals g.structs (shaped u) here.locals types u.locals reaches x.2.locals) alike p.bounds (pointing (Pointer m kind t) v) none ints (subst (λ b. IsBounded g (Pointer m kind t) b v u) own x.0.1),
              λ q c e there. absurd (let found : None ≡ Some q = sym none ∙ e in cc),
            ),
            subst (λ o. IsGivenIf g.structs (Pointer m kind t) o v w) (sym based) tt,
          ))

      pub call_given : (callee : Callee) (arguments : core.Arguments) (ts : List CType) (c : CType) (r : Option Bounds) (b : Option PointerBounds) → HasCallBounds g.structs here.locals (terms_of here.locals arguments ts) c r b → (m : Mode) (d : Kind) (t : CType) → c ≡ Pointer m d t → (s : State) → IsHere s
          → Goes g budget ticks low types s (OfNode g (core.Call callee arguments b) c) (value true setting k (core.Call callee arguments b) s) → WhereGiven (GivenTo (core.Call callee arguments b) m d t) (value true setting k (core.Call callee arguments b) s)
      call_given callee arguments ts c r b (typed.by_type bounds) m d t same s here' goes =
          plainly_given (core.Call callee arguments b) m d t s (subst (λ c. HasBounds g.structs c b) same bounds) refl (subst (λ x. Goes g budget ticks low types s (OfNode g (core.Call callee arguments b) x) (value true setting k (core.Call callee arguments b) s)) same goes)
      call_given callee arguments ts _ _ _ (typed.by_result {mode = m'} {kind = kind} {target = t'} {declared = r} {p = p} at counts size some limited none ints) m d t same s here' goes =
          subst (λ c. WhereGiven (AreGiven g.structs (length here.locals) c (core.Call callee arguments (Some p))) (value true setting k (core.Call callee arguments (Some p)) s)) same
          (freely_given (core.Call callee arguments (Some p)) m' kind t' p s refl refl none ints goes)

      -- those of a value in a cell
      pub cell_given : (p : core.Place) (c : CType) (b : Option PointerBounds) → HasCellBounds g.structs c b → (m : Mode) (d : Kind) (t : CType) → c ≡ Pointer m d t → (s : State)
          → Goes g budget ticks low types s (OfNode g (core.Load c p b) c) (value true setting k (core.Load c p b) s) → WhereGiven (GivenTo (core.Load c p b) m d t) (value true setting k (core.Load c p b) s)
      cell_given p c _ typed.unbounded m d t same s goes = given_none (core.Load c p None) m d t s refl refl
      cell_given p c b (typed.by_type bounds) m d t same s goes =
          plainly_given (core.Load c p b) m d t s (subst (λ c. HasBounds g.structs c b) same bounds) refl (subst (λ x. Goes g budget ticks low types s (OfNode g (core.Load c p b) x) (value true setting k (core.Load c p b) s)) same goes)
      cell_given p _ _ (typed.at_end {mode = m'} {t = t'} {site = site}) m d t same s goes =
          let node = at_node (row_of 0) (size_of g.structs t') true site in
          subst (λ c. WhereGiven (AreGiven g.structs (length here.locals) c (core.Load (Pointer m' kinds.Nt t') p (Some node))) (value true setting k (core.Load (Pointer m' kinds.Nt t') p (Some node)) s)) same
          (freely_given (core.Load (Pointer m' kinds.Nt t') p (Some node)) m' kinds.Nt t' node s refl refl refl (record { lo = tt; hi = tt }) goes)

      -- a value of a cell passes the audit at its node
      pub cell_audited : (t : CType) (b : Option PointerBounds) → HasCellBounds g.structs t b → (o : Result Value) (s : State) → Goes g budget ticks low types s (OfType g t) o → Goes g budget ticks low types s (λ v u. OfType g t v u × IsBounded g t b v u) (and_then o (audit true b))
      cell_audited t _ typed.unbounded o s goes = goes_on g budget ticks low types s (OfType g t) (λ v u. OfType g t v u × IsBounded g t None v u) o (audit true None) goes (λ v u _ typed kept. ((typed, none_bounded t v u), after_here u, kept))
      cell_audited t b (typed.by_type bounds) o s goes =
          goes_further g budget ticks low types s (OfType g t) (λ v u. OfType g t v u × IsBounded g t b v u) (and_then o (audit true b)) (audited_goes g budget ticks low types s t b o bounds goes) (λ v u typed. (typed, plain_bounded t b bounds v u typed))
      cell_audited _ _ (typed.at_end {mode = m} {t = t} {site = site}) o s goes =
          let node = at_node (row_of 0) (size_of g.structs t) true site in
          goes_on g budget ticks low types s (OfType g (Pointer m kinds.Nt t)) (λ v u. OfType g (Pointer m kinds.Nt t) v u × IsBounded g (Pointer m kinds.Nt t) (Some node) v u) o (audit true (Some node)) goes
          (λ v u _ typed kept. bounded_goes g budget ticks low types u m kinds.Nt t (Some node) v (record { size = refl; terminated = refl }) typed (cell_valid g.structs m t u v typed) kept)

      -- a call, by how it has its bounds
      pub call_goes : (callee : Callee) (arguments : core.Arguments) (ts : List CType) (bs : List (Option Bounds)) (t : CType) (r : Option Bounds) (b : Option PointerBounds) → IsCallee g callee ts bs (Some t) r → HasCallBounds g.structs here.locals (terms_of here.locals arguments ts) t r b
          → AreAsked g.structs here (terms_of here.locals arguments ts) (pointers_of here.locals arguments) arguments bs → (s : State) → IsHere s
          → Goes g budget ticks low types s (λ vs u. OfTypes g ts vs u × ArePassed g.structs (length here.locals) here.locals ts arguments vs u) (values true setting k arguments s)
          → Goes g budget ticks low types s (OfNode g (core.Call callee arguments b) t) (value true setting k (core.Call callee arguments b) s)
      call_goes callee arguments ts bs t r b enters (typed.by_type bounds) asked s here' goes =
          with_none (core.Call callee arguments b) t s (plain_bounded t b bounds)
          (goes_on g budget ticks low types s (λ vs u. OfTypes g ts vs u × ArePassed g.structs (length here.locals) here.locals ts arguments vs u) (OfType g t) (values true setting k arguments s) _ goes
          (λ vs u after x u_kept. audited_goes g budget ticks low types u t b (and_then (called setting k callee vs u) result_given) bounds
          (goes_on g budget ticks low types u (IsBack g budget ticks sandbox trusted k is types (terms_of here.locals arguments ts) (Some t) r) (OfType g t) (called setting k callee vs u) result_given (answered s here' enters arguments asked vs u after x u_kept) (λ v w _ back w_kept. given_back g budget ticks low types w t v back.0 w_kept))))
      call_goes callee arguments ts bs _ _ _ enters (typed.by_result {mode = m} {kind = kind} {target = t} {declared = r} {p = p} at counts size some limited none ints) asked s here' goes =
          goes_on g budget ticks low types s (λ vs u. OfTypes g ts vs u × ArePassed g.structs (length here.locals) here.locals ts arguments vs u) (OfNode g (core.Call callee arguments (Some p)) (Pointer m kind t)) (values true setting k arguments s) _ goes
          (λ vs u after x u_kept. goes_on g budget ticks low types u (λ v w. OfType g (Pointer m kind t) v w × IsBounded g (Pointer m kind t) (Some p) v w) (OfNode g (core.Call callee arguments (Some p)) (Pointer m kind t)) (and_then (called setting k callee vs u) result_given) (audit true (Some p))
          (goes_on g budget ticks low types u (IsBack g budget ticks sandbox trusted k is types (terms_of here.locals arguments ts) (Some (Pointer m kind t)) (Some r)) (λ v w. OfType g (Pointer m kind t) v w × IsBounded g (Pointer m kind t) (Some p) v w) (called setting k callee vs u) result_given
          (answered s here' enters arguments asked vs u after x u_kept) (λ v w _ back w_kept. valid_back g budget ticks low types w m kind t p v counts back.0 (back.1 r p.bounds refl at) w_kept))
          (λ v w _ y w_kept. bounded_goes g budget ticks low types w m kind t (Some p) v size y.0 y.1 w_kept))

      -- ---- new memory

      -- what a term of the walk names is an `int` here
      ints_there : (s : State) → IsHere s → (o : Option ℕ) → IsInt here.locals o → IsInt (types_of s.locals) o
      ints_there s h None int = tt
      ints_there s h (Some x) int = has_locals g.structs (shaped s) here.locals types s.locals reaches h.1.locals x Int int

      types_there : (s : State) → IsHere s → AreTyped s.locals
      types_there s h = types_alike g.structs (length here.locals) here.flow s (λ t alike. (h.0 t alike).holds)

      number_is_one : (a b : ℤ) → Number a ≡ Number b → a ≡ b
      number_is_one a b q = cc

      -- a number whose term, where it has one, comes to it
      abbrev IsCounted : core.Expression → ℤ → State → Type 0
      IsCounted i z u = (has_type Int (Number z) ≡ true) × ((n : Term) → term here.locals i ≡ Some n → term_value n u.locals ≡ Some z)

      counted_goes : (i : core.Expression) (s : State) → IsHere s → Goes g budget ticks low types s (OfType g Int) (value true setting k i s)
          → Goes g budget ticks low types s (IsCounted i) (and_then (value true setting k i s) (number_given None))
      counted_goes i s h goes =
          goes_on g budget ticks low types s (λ v u. OfType g Int v u × IsOfTerm s.locals (term here.locals i) v) (IsCounted i) (value true setting k i s) (number_given None)
          (sure_further (λ v u. (OfType g Int v u × IsAfter s u × IsKept g budget ticks low types u) × IsOfTerm s.locals (term here.locals i) v) (λ v u. (OfType g Int v u × IsOfTerm s.locals (term here.locals i) v) × IsAfter s u × IsKept g budget ticks low types u) (value true setting k i s)
          (sure_both (λ v u. OfType g Int v u × IsAfter s u × IsKept g budget ticks low types u) (λ v u. IsOfTerm s.locals (term here.locals i) v) (value true setting k i s) goes
          (term_so true setting k is.keeps here.locals s.locals (types_there s h) (has_locals g.structs (shaped s) here.locals types s.locals reaches h.1.locals) i s refl))
          (λ v u x. ((x.0.0, x.1), x.0.1, x.0.2)))
          (λ v u after x u_kept. goes_further g budget ticks low types u (λ (z : ℤ) (w : State). (v ≡ Number z) × IsAfter u w) (IsCounted i) (number_given None v u)
          (with_after low types u (λ (z : ℤ) (w : State). v ≡ Number z) (number_given None v u) (index_goes u None v x.0 u_kept))
          (λ z w same. (
            subst (λ v. HasValue g.structs (shaped u) Int v) same.0 x.0,
            λ n e.
                let number : z ≡ term_number (numbers_in s.locals) n = number_is_one z (term_number (numbers_in s.locals) n) (sym same.0 ∙ x.1 n e) in
                subst (λ ls. term_value n ls ≡ Some z) (sym (same.1.1 ∙ after.1))
                (int_term s.locals n (types_there s h) (ints_there s h n.var (term_formed here.locals i n e).int) ∙ ap Some (sym number)),
          )))

      -- the term of the bounds comes to as many as stand before the zero, where one ends them
      before_counted : (terminator : Terminator) (count : core.Expression) (n : Term) → typed.IsCountBeforeZero here.locals terminator count n → (z : ℤ) (u : State) → IsCounted count z u → IsBeforeZero terminator n z u
      before_counted _ count n (typed.all_of counts) z u is k e = is.1 n counts ∙ ap Some e
      before_counted _ count n (typed.all_before counts) z u is k e = is.1 n counts ∙ ap Some e
      before_counted _ _ _ (typed.all_but_last {n = m} few) z u is k e =
          let limited : is_within term_limit (pos (suc m)) ≡ true = le-leb (suc m) term_limit (omega (arith, few)) in
          let whole = is.1 (constant_term (pos (suc m))) (ap (λ test. cond test (Some (constant_term (pos (suc m)))) None) limited) in
          let same : pos 0 +ℤ pos (suc m) ≡ pos (suc k) = same_Some (pos 0 +ℤ pos (suc m)) (pos (suc k)) (whole ∙ ap Some e) in
          ap Some (omega (arith, ints, same))

      bounded_new : (count : core.Expression) (kind : Kind) (t : CType) (element : List Initial) (new : IsNewRow g.structs kind t element) (terminator : Terminator) → is_terminated terminator ≡ is_ended (Pointer modes.Checked kind t) → (b : Option PointerBounds) → AreNewBounds g.structs here.locals terminator count t b
          → (s : State) (z : ℤ) → IsCounted count z s → IsKept g budget ticks low types s
          → Goes g budget ticks low types s (λ v u. OfType g (Pointer modes.Checked kind t) v u × IsBounded g (Pointer modes.Checked kind t) b v u) (allocated trusted terminator element z s)
      bounded_new count kind t element new terminator alike _ typed.uncounted s z is kept =
          goes_further g budget ticks low types s (OfType g (Pointer modes.Checked kind t)) (λ v u. OfType g (Pointer modes.Checked kind t) v u × IsBounded g (Pointer modes.Checked kind t) None v u) (allocated trusted terminator element z s)
          (allocated_goes g budget ticks low types kind t element new s trusted terminator alike z is.0 kept) (λ v u typed. (typed, tt))
      bounded_new count kind t element new terminator alike _ (typed.by_term {n = n} {site = site} counts) s z is kept =
          let p : PointerBounds = at_node (counted n) (size_of g.structs t) (is_terminated terminator) site in
          sure_further (λ v u. (OfType g (Pointer modes.Checked kind t) v u × IsAfter s u × IsKept g budget ticks low types u) × IsValid g.structs (Some (counted n)) (pointing (Pointer modes.Checked kind t) v) u)
          (λ v u. (OfType g (Pointer modes.Checked kind t) v u × IsBounded g (Pointer modes.Checked kind t) (Some p) v u) × IsAfter s u × IsKept g budget ticks low types u) (allocated trusted terminator element z s)
          (sure_both (λ v u. OfType g (Pointer modes.Checked kind t) v u × IsAfter s u × IsKept g budget ticks low types u) (λ v u. IsValid g.structs (Some (counted n)) (pointing (Pointer modes.Checked kind t) v) u) (allocated trusted terminator element z s)
          (allocated_goes g budget ticks low types kind t element new s trusted terminator alike z is.0 kept) (new_valid g budget ticks low types kind t element new s trusted terminator alike z n (before_counted terminator count n counts z s is)))
          (λ v u x. ((x.0.0, x.1), x.0.1, x.0.2))

      new_size : (count : core.Expression) (kind : Kind) (t : CType) (terminator : Terminator) → is_terminated terminator ≡ is_ended (Pointer modes.Checked kind t) → (b : Option PointerBounds) → AreNewBounds g.structs here.locals terminator count t b → AreOf g.structs (Pointer modes.Checked kind t) b
      new_size count kind t terminator alike _ typed.uncounted = tt
      new_size count kind t terminator alike _ (typed.by_term counts) = record { size = refl; terminated = alike }

      pub allocate_goes : (count : core.Expression) (kind : Kind) (t : CType) (element : List Initial) (terminator : Terminator) → is_terminated terminator ≡ is_ended (Pointer modes.Checked kind t) → (b : Option PointerBounds) → IsNewRow g.structs kind t element → AreNewBounds g.structs here.locals terminator count t b → (s : State) → IsHere s
          → Goes g budget ticks low types s (OfType g Int) (value true setting k count s) → Goes g budget ticks low types s (OfNode g (core.Allocate count element terminator b) (Pointer modes.Checked kind t)) (value true setting k (core.Allocate count element terminator b) s)
      allocate_goes count kind t element terminator alike b new bounds s h goes =
          goes_on g budget ticks low types s (λ v u. OfType g (Pointer modes.Checked kind t) v u × IsBounded g (Pointer modes.Checked kind t) b v u) (OfNode g (core.Allocate count element terminator b) (Pointer modes.Checked kind t))
          (and_then (and_then (value true setting k count s) (number_given None)) (allocated trusted terminator element)) (audit true b)
          (goes_on g budget ticks low types s (IsCounted count) (λ v u. OfType g (Pointer modes.Checked kind t) v u × IsBounded g (Pointer modes.Checked kind t) b v u)
          (and_then (value true setting k count s) (number_given None)) (allocated trusted terminator element) (counted_goes count s h goes)
          (λ z u _ counts u_kept. bounded_new count kind t element new terminator alike b bounds u z counts u_kept))
          (λ v u _ x u_kept. bounded_goes g budget ticks low types u modes.Checked kind t b v (new_size count kind t terminator alike b bounds) x.0 x.1 u_kept)

      pub allocate_given : (count : core.Expression) (kind : Kind) (t : CType) (element : List Initial) (terminator : Terminator) (b : Option PointerBounds) → AreNewBounds g.structs here.locals terminator count t b → (s : State) → Goes g budget ticks low types s (OfNode g (core.Allocate count element terminator b) (Pointer modes.Checked kind t)) (value true setting k (core.Allocate count element terminator b) s)
          → WhereGiven (GivenTo (core.Allocate count element terminator b) modes.Checked kind t) (value true setting k (core.Allocate count element terminator b) s)
      allocate_given count kind t element terminator _ typed.uncounted s goes = given_none (core.Allocate count element terminator None) modes.Checked kind t s refl refl
      allocate_given count kind t element terminator _ (typed.by_term {n = n} {site = site} counts) s goes =
          freely_given (core.Allocate count element terminator (Some (at_node (counted n) (size_of g.structs t) (is_terminated terminator) site))) modes.Checked kind t (at_node (counted n) (size_of g.structs t) (is_terminated terminator) site) s refl refl refl
          (record { lo = tt; hi = (before_formed here.locals terminator count n counts).int }) goes

      -- ---- casts

      -- the base of bounds stands in the block of a pointer that counts from it
      base_there : (e : core.Expression) (m : Mode) (kind : Kind) (t : CType) (o : Option ℕ) → ((i : ℕ) → o ≡ Some i → IsBaseOf here.locals e i) → (block byte : ℕ) (u : State) → GivenTo e m kind t (At block byte) u → (w : ℕ) × (base_byte o u.locals block byte ≡ Some w)
      base_there e m kind t None bases block byte u given = (byte, refl)
      base_there e m kind t (Some i) bases block byte u given =
          let from = (bases i refl).counts in
          let there = in_base m kind t from.bounds i block byte u (based_there e (Pointer m kind t) (At block byte) u (given u (alike_here (length here.locals) u)).1 from.bounds from.based) from.base in
          (there.0, base_found u.locals i there.1 block byte there.0 there.2 there.3)

      -- a pointer with new bounds
      abbrev pub IsCast : core.Expression → Mode → Kind → CType → PointerBounds → Value → State → Type 0
      IsCast e m kind t q v u = OfType g (Pointer m kind t) v u × (IsValid g.structs (Some q.bounds) (pointing (Pointer m kind t) v) u × GivenTo e m kind t v u)

      module _ (e : core.Expression) (m : Mode) (kind : Kind) (t : CType) (p q : PointerBounds) (p_size : IsNodeOf g.structs (Pointer m kind t) p) (q_size : q.size ≡ size_of g.structs t) (ints : AreInts here.locals q.bounds) (bases : (i : ℕ) → q.bounds.base ≡ Some i → IsBaseOf here.locals e i) where
        cast_by_ends : (block byte : ℕ) (u : State) (old new : EndsOf) → ends_at p u.locals block byte ≡ Some old → ends_at q u.locals block byte ≡ Some new → old.size ≡ new.size → OfType g (Pointer m kind t) (At block byte) u → IsValid g.structs (Some p.bounds) (pointing (Pointer m kind t) (At block byte)) u → GivenTo e m kind t (At block byte) u → IsKept g budget ticks low types u → (test : Bool) → are_within old new ≡ test
            → Goes g budget ticks low types u (IsCast e m kind t q) (checked_if test C5 q.site (Gives (At block byte) u) u)
        cast_by_ends block byte u old new are_old are_new same typed valid given kept false within = tt
        cast_by_ends block byte u old new are_old are_new same typed valid given kept true within =
            ((typed, (cast_valid g.structs (Pointer m kind t) p q p_size.size q_size block byte u old new are_old are_new same within valid, given)), after_here u, kept)

        cast_by_size : (block byte : ℕ) (u : State) (old new : EndsOf) (test : Bool) → test ≡ true → Goes g budget ticks low types u (IsCast e m kind t q) (checked_if (are_within old new) C5 q.site (Gives (At block byte) u) u) → Goes g budget ticks low types u (IsCast e m kind t q) (cast_if test q.site (At block byte) old new u)
        cast_by_size block byte u old new true is h = h
        cast_by_size block byte u old new false is h = absurd (cc)

        same_size : (x y : ℕ) → x ≡ y → (x == y) ≡ true
        same_size x y e = grind (arith, nat_tests)

        cast_value : (v : Value) (u : State) → IsHere u → OfType g (Pointer m kind t) v u → IsBounded g (Pointer m kind t) (Some p) v u → GivenTo e m kind t v u → Goes g budget ticks low types u (IsCast e m kind t q) (cast_to (Some q) (with_ends (Some p) v u.locals) u)
        cast_value (Number z) u h typed valid given = absurd typed
        cast_value Null u h typed valid given = ((tt, (null_valid g.structs (Some q.bounds) (pointing (Pointer m kind t) Null) u refl, given)), after_here u, h.1)
        cast_value (At block byte) u h typed valid given =
            let old = ends_there g.structs (Pointer m kind t) p u p_size block byte valid in
            let base = base_there e m kind t q.bounds.base bases block byte u given in
            let new = new_ends g.structs (Pointer m kind t) p q p_size.size q_size block byte u (types_there u h) (record { lo = ints_there u h q.bounds.lo.var ints.lo; hi = ints_there u h q.bounds.hi.var ints.hi }) base.0 base.1 in
            let same : old.0.size ≡ new.0.size = size_there g.structs (Pointer m kind t) p u p_size block byte valid old.0 old.1 ∙ sym new.2 in
            subst (λ o. Goes g budget ticks low types u (IsCast e m kind t q) (cast_within q.site (At block byte) o (ends_at q u.locals block byte) u)) (sym old.1)
            (subst (λ o. Goes g budget ticks low types u (IsCast e m kind t q) (cast_within q.site (At block byte) (Some old.0) o u)) (sym new.1)
            (cast_by_size block byte u old.0 new.0 (old.0.size == new.0.size) (same_size old.0.size new.0.size same)
            (cast_by_ends block byte u old.0 new.0 old.1 new.1 same typed valid given h.1 (are_within old.0 new.0) refl)))

        pub cast_step : (own : bounds_of e ≡ Some p) (s : State) → IsHere s → Goes g budget ticks low types s (λ v u. OfNode g e (Pointer m kind t) v u × GivenTo e m kind t v u) (value true setting k e s)
            → Goes g budget ticks low types s (IsCast e m kind t q) (and_then (value true setting k e s) (λ v u. cast_to (Some q) (with_ends (bounds_of e) v u.locals) u))
        cast_step own s h goes =
            goes_on g budget ticks low types s (λ v u. OfNode g e (Pointer m kind t) v u × GivenTo e m kind t v u) (IsCast e m kind t q) (value true setting k e s) (λ v u. cast_to (Some q) (with_ends (bounds_of e) v u.locals) u) goes
            (λ v u after x u_kept. subst (λ b. Goes g budget ticks low types u (IsCast e m kind t q) (cast_to (Some q) (with_ends b v u.locals) u)) (sym own)
            (cast_value v u (here_later s u after h u_kept) x.0.0 (subst (λ b. IsBounded g (Pointer m kind t) b v u) own x.0.1) x.1))

        -- what it is given with, at each state that is alike
        cast_size : (o : Option ℕ) → q.bounds.base ≡ o → (v : Value) (w : State) → AreGivenAt g.structs (Pointer m kind t) e v w → HasSize g.structs (types_of w.locals) (size_of g.structs t) (Some q.bounds)
        cast_size o is v w given i c at there =
            let from = (bases i at).counts in
            (based_there e (Pointer m kind t) v w given.1 from.bounds from.based).1 i c from.base there

        pub cast_given : (v : Value) (u : State) → IsHere u → IsCast e m kind t q v u → GivenTo (core.Cast e (Some q)) m kind t v u
        cast_given v u h x w alike = (both, on_base q.bounds.base refl)
          where
            pointers : (i : ℕ) → q.bounds.base ≡ Some i → (m : Mode) × (d : Kind) × (t : CType) × (slice_get here.locals i ≡ Some (Pointer m d t))
            pointers i at = let it = bases i at in (it.mode, it.kind, it.target, it.pointer)

            both : IsBoundedBy g.structs q.bounds (pointing (Pointer m kind t) v) w
            both = (
              bounds_alike g.structs g.structs here.locals u w (has_locals g.structs (shaped u) here.locals types u.locals reaches h.1.locals) alike q.bounds (pointing (Pointer m kind t) v) pointers ints x.1.0,
              cast_size q.bounds.base refl v w (x.1.1 w alike),
            )

            on_base : (o : Option ℕ) → q.bounds.base ≡ o → IsGivenIf g.structs (Pointer m kind t) (picked (is_some o) (Some q.bounds) None) v w
            on_base None is = tt
            on_base (Some i) is = both

      -- a cast to the element at which a pointer stands gives one without a base
      pub single_unbased : (t : CType) (b : Option PointerBounds) → HasBounds g.structs (Pointer modes.Checked kinds.One t) b → with_base (option_map (λ (q : PointerBounds). q.bounds) b) ≡ None
      single_unbased t b told = ap (λ b. with_base (option_map (λ (q : PointerBounds). q.bounds) b)) told.1

      -- a cast to one without bounds
      pub unbounded_goes : (e : core.Expression) (m : Mode) (d d' : Kind) (t : CType) → CountsAs d d' → (s : State) → Goes g budget ticks low types s (OfType g (Pointer m d t)) (value true setting k e s) → Goes g budget ticks low types s (OfNode g (core.Cast e None) (Pointer m d' t)) (value true setting k (core.Cast e None) s)
      unbounded_goes e m d d' t counts s goes =
          goes_on g budget ticks low types s (OfType g (Pointer m d' t)) (OfNode g (core.Cast e None) (Pointer m d' t)) (and_then (value true setting k e s) (λ v u. cast_to None (with_ends (bounds_of e) v u.locals) u)) (audit true None)
          (goes_on g budget ticks low types s (OfType g (Pointer m d t)) (OfType g (Pointer m d' t)) (value true setting k e s) (λ v u. cast_to None (with_ends (bounds_of e) v u.locals) u) goes
          (λ v u _ typed u_kept. (subst (λ v. OfType g (Pointer m d' t) v u) (sym (same_value (bounds_of e) v u)) (value_as g.structs (shaped u) m d d' t counts v typed), after_here u, u_kept)))
          (λ v u _ typed u_kept. ((typed, tt), after_here u, u_kept))

      -- with what an expression told that came out so
      pub told_too : (tracked : length here.locals ≤ here.flow.vars) (e : core.Expression) (t : CType) → AreRight g.structs here.locals here.flow e → (s : State) → IsHere s → Goes g budget ticks low types s (OfType g t) (value true setting k e s) → Goes g budget ticks low types s (λ v u. OfType g t v u × IsKnown g.structs (when e (truth v) here) u) (value true setting k e s)
      told_too tracked e t right s h goes =
          sure_further (λ v u. (OfType g t v u × IsAfter s u × IsKept g budget ticks low types u) × (IsAfter s u × IsKnown g.structs (when e (truth v) here) u)) (λ v u. (OfType g t v u × IsKnown g.structs (when e (truth v) here) u) × IsAfter s u × IsKept g budget ticks low types u) (value true setting k e s)
          (sure_both (λ v u. OfType g t v u × IsAfter s u × IsKept g budget ticks low types u) (λ v u. IsAfter s u × IsKnown g.structs (when e (truth v) here) u) (value true setting k e s) goes
          (told_fits true setting k is.keeps g.structs here.locals e here.flow flow tracked right s (has_locals g.structs (shaped s) here.locals types s.locals reaches h.1.locals) h.1.zeros h.0))
          (λ v u x. ((x.0.0, x.1.1), x.0.1, x.0.2))

      -- that is a flow too, which speaks of each local
      pub flow_told : (tracked : length here.locals ≤ here.flow.vars) (e : core.Expression) (came : Bool) → IsFlow (when e came here).flow
      flow_told tracked e came = (told_is here.locals here.flow tracked e came here.flow (told_here here.flow flow)).flow

      pub tracked_told : (tracked : length here.locals ≤ here.flow.vars) (e : core.Expression) (came : Bool) → length here.locals ≤ (when e came here).flow.vars
      tracked_told tracked e came = subst (λ n. length here.locals ≤ n) (sym (told_is here.locals here.flow tracked e came here.flow (told_here here.flow flow)).tested.vars) tracked
