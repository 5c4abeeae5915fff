-- Bounds that arguments are asked for: where they are met, the arguments are valid with them.
use Rattle.std.proofs.Common.{◌≡◌, ℕ, zero, suc, ◌≤◌, ℤ, ◌+ℤ◌, Bool, true, false, List, [], ◌∷◌, length, cond, Option, Some, None, refl, ap, ⊎_elim, subst, inl, inr}
use Rattle.std.specs.Prelude.{◌||◌, slice_index_or}
use Rattle.std.proofs.lemmas.Bool.{or_cases}
use Rattle.ckc_text.specs.declared.place.Span.{Span}
use Rattle.subsumption.specs.ClosedTables.{ClosedTable}
use Rattle.bounds_exprs.specs.declared.term.Bounds.{Bounds}
use Rattle.bounds_exprs.specs.declared.term.Term.{Term}
use Rattle.bounds_exprs.specs.Changes.{ends_filled_in, filled_in, raised_term}
use Rattle.bounds_exprs.specs.Normal.{is_same}
use Rattle.bounds_exprs.specs.Terms.{is_within, term_limit, within_limit}
use Rattle.pointer_modes.specs.Types.{CType, Int, Char, Struct, Pointer, Structure}
use Rattle.bounds_flow.specs.Conditions.{AreEndsBelow, IsFlow}
use Rattle.bounds_flow.specs.Settling.{bounds_find, ends_find, Finding, Meets, WasLost, Falls}
use Rattle.bounds_flow_meaning.specs.Holding.{AreInts, IsInt}
use Rattle.bounds_flow_meaning.proofs.AllSteps.{flows_hold}
use Rattle.bounds_flow_meaning.proofs.Validity.{between_parts}
use Rattle.ckc_core.specs.Core as core
use Rattle.region_typing_rules.specs.Scopes.{Scope}
use Rattle.region_typing_rules.specs.Readings.{based_bounds, is_null, own_bounds}
use Rattle.region_typing_rules.specs.Operands.{AStruct, Typed, Value, is_met, meets}
use Rattle.region_typing_rules.specs.Calls.{at_call, meets_all, term_for, terms_for}
use Rattle.region_typing_rules.specs.KnownIsSo.{AreLimited}
use Rattle.region_typing_rules.specs.Typed as typed
use Rattle.region_typing_rules.specs.Typed.{IsAsked, IsAskedAt, LeadsTo}
use Rattle.region_typing_rules.proofs.Alike.{alike_here}
use Rattle.region_typing_rules.proofs.Calls.{at_call_parts}
use Rattle.region_typing_rules.proofs.DeclaredBounds.{int_below}
use Rattle.region_typing_rules.proofs.Signatures.{named_equal}
use Rattle.region_typing_rules.proofs.Terms.{formed_later, term_formed}
use Rattle.region_typing_rules.proofs.Told.{null_is}

met_is : (x : Finding) → is_met x ≡ true → x ≡ Meets
met_is Meets h = refl
met_is WasLost h = absurd (cc)
met_is (Falls asked) h = absurd (cc)

-- bounds that lie around others from their base
pub record MeetsEnds (facts : ClosedTable) (asked b : Bounds) : Type 0 where
  pub base : asked.base ≡ b.base
  pub ends : ends_find facts asked b ≡ Meets

pub ends_met : (facts : ClosedTable) (asked b : Bounds) → is_met (bounds_find facts asked (Some b)) ≡ true → MeetsEnds facts asked b
ends_met facts asked b h = by (is_same asked.base b.base) refl
  where
    by : (test : Bool) → is_same asked.base b.base ≡ test → MeetsEnds facts asked b
    by true e = record { base = named_equal asked.base b.base e; ends = met_is (ends_find facts asked b) (let found = rw e at h in found) }
    by false e = let none = rw e at h in absurd (cc)

-- ---- terms of the caller

-- each that stands for a parameter names an `int` of the caller
abbrev pub AreTerms : List CType → List (Option Term) → Type 0
AreTerms types terms = (x : ℕ) (t : Term) → slice_index_or terms x None ≡ Some t → IsInt types t.var

term_int : (types : List CType) (a : Typed) (t : CType) (u : Term) → term_for types a t ≡ Some u → IsInt types u.var
term_int types (Value type null value place) Int u e = (term_formed types value u e).int
term_int types (Value type null value place) Char u e = absurd (cc)
term_int types (Value type null value place) (Struct n) u e = absurd (cc)
term_int types (Value type null value place) (Pointer m k t) u e = absurd (cc)
term_int types (AStruct number place) t u e = absurd (cc)

pub are_terms : (types : List CType) (arguments : List (Typed × Span)) (ts : List CType) → AreTerms types (terms_for types arguments ts)
are_terms types [] ts x u e = absurd (cc)
are_terms types (a ∷ arguments) [] x u e = absurd (cc)
are_terms types (a ∷ arguments) (t ∷ ts) zero u e = term_int types a.0 t u e
are_terms types (a ∷ arguments) (t ∷ ts) (suc x) u e = are_terms types arguments ts x u e

limited_int : (types : List CType) (var : Option ℕ) (c : ℤ) (u : Term) → IsInt types var → within_limit var c ≡ Some u → IsInt types u.var
limited_int types var c u int h = by (is_within term_limit c) h
  where
    by : (test : Bool) → cond test (Some (record { var = var; plus = c })) None ≡ Some u → IsInt types u.var
    by true q = let same : record { var = var; plus = c } ≡ u = cc in subst (IsInt types) (ap (λ (t : Term). t.var) same) int
    by false q = absurd (cc)

limited_plus : (var : Option ℕ) (c : ℤ) (u : Term) → within_limit var c ≡ Some u → is_within term_limit u.plus ≡ true
limited_plus var c u h = by (is_within term_limit c) refl h
  where
    by : (test : Bool) → is_within term_limit c ≡ test → cond test (Some (record { var = var; plus = c })) None ≡ Some u → is_within term_limit u.plus ≡ true
    by true e q = let same : record { var = var; plus = c } ≡ u = cc in subst (λ (t : Term). is_within term_limit t.plus ≡ true) same e
    by false e q = absurd (cc)

module _ (terms : List (Option Term)) where
  raised_limited : (o : Option Term) (c : ℤ) (u : Term) → raised_term o c ≡ Some u → is_within term_limit u.plus ≡ true
  raised_limited None c u h = absurd (let none : None ≡ Some u = h in cc)
  raised_limited (Some w) c u h = limited_plus w.var (c +ℤ w.plus) u h

  filled_limited : (o : Option ℕ) (c : ℤ) (u : Term) → filled_in terms (record { var = o; plus = c }) ≡ Some u → is_within term_limit u.plus ≡ true
  filled_limited None c u h = limited_plus None c u h
  filled_limited (Some x) c u h = raised_limited (slice_index_or terms x None) c u h

-- bounds of a result over what stands for the parameters
pub record IsResultAt (types : List CType) (b d : Bounds) : Type 0 where
  pub base : d.base ≡ b.base
  pub limited : AreLimited d
  pub ints : AreInts types d

module _ (types : List CType) (terms : List (Option Term)) (are : AreTerms types terms) where
  raised_int : (x : ℕ) (o : Option Term) (c : ℤ) (u : Term) → slice_index_or terms x None ≡ o → raised_term o c ≡ Some u → IsInt types u.var
  raised_int x None c u e h = absurd (let none : None ≡ Some u = h in cc)
  raised_int x (Some w) c u e h = limited_int types w.var (c +ℤ w.plus) u (are x w e) h

  filled_by : (o : Option ℕ) (c : ℤ) (u : Term) → filled_in terms (record { var = o; plus = c }) ≡ Some u → IsInt types u.var
  filled_by None c u h = limited_int types None c u tt h
  filled_by (Some x) c u h = raised_int x (slice_index_or terms x None) c u refl h

  pub filled_ints : (pointers : List (Option ℕ)) (b d : Bounds) → at_call terms pointers b ≡ Some d → AreInts types d
  filled_ints pointers b d h =
      let at = at_call_parts terms pointers b d h in
      record { lo = filled_by b.lo.var b.lo.plus d.lo at.lo; hi = filled_by b.hi.var b.hi.plus d.hi at.hi }

  pub result_at_so : (b d : Bounds) → ends_filled_in terms b ≡ Some d → IsResultAt types b d
  result_at_so b d h =
      let p = between_parts b.base (filled_in terms b.lo) (filled_in terms b.hi) d h in
      record {
        base = p.base;
        limited = record { low = filled_limited terms b.lo.var b.lo.plus d.lo p.lo; high = filled_limited terms b.hi.var b.hi.plus d.hi p.hi };
        ints = record { lo = filled_by b.lo.var b.lo.plus d.lo p.lo; hi = filled_by b.hi.var b.hi.plus d.hi p.hi };
      }

-- ---- what is asked

module _ (structs : List Structure) (s : Scope) (flow : IsFlow s.flow) (few : length s.locals ≤ s.flow.vars) where
  pub ends_below : (d : Bounds) → AreInts s.locals d → AreEndsBelow s.flow.vars d
  ends_below d ints = record { lo = int_below s.locals s.flow.vars d.lo.var few ints.lo; hi = int_below s.locals s.flow.vars d.hi.var few ints.hi }

  leads : (b d : Bounds) → AreEndsBelow s.flow.vars b → AreInts s.locals d → MeetsEnds s.flow.facts d b → LeadsTo structs s b d
  leads b d below ints met state has known l valid =
      (flows_hold structs s.flow flow).narrow b d l state below (ends_below d ints) (record { lo = formed_later s.locals state d.lo.var has ints.lo; hi = formed_later s.locals state d.hi.var has ints.hi })
      met.base met.ends (known state (alike_here (length s.locals) state)).holds.met valid

  -- the ends of the bounds of a value speak of variables below this number
  pub record HasEndsBelow (value : core.Expression) : Type 0 where
    pub own : (b : Bounds) → own_bounds value ≡ Some b → AreEndsBelow s.flow.vars b
    pub based : (b : Bounds) → based_bounds value ≡ Some b → AreEndsBelow s.flow.vars b

  pub asked_so : (value : core.Expression) (d : Bounds) → HasEndsBelow value → AreInts s.locals d → meets s.flow value (Some d) ≡ true → IsAsked structs s value d
  asked_so value d below ints met =
      let first = is_met (bounds_find s.flow.facts d (own_bounds value)) in
      let second = is_met (bounds_find s.flow.facts d (based_bounds value)) in
      ⊎_elim (λ null. typed.null (null_is value null)) (λ found. ⊎_elim (own (own_bounds value) refl) (based (based_bounds value) refl) (or_cases first second found)) (or_cases (is_null value) (first || second) met)
    where
      own : (o : Option Bounds) → own_bounds value ≡ o → is_met (bounds_find s.flow.facts d (own_bounds value)) ≡ true → IsAsked structs s value d
      own None e h = absurd (let none = rw e at h in cc)
      own (Some b) e h = typed.own e (leads b d (below.own b e) ints (ends_met s.flow.facts d b (let found = rw e at h in found)))

      based : (o : Option Bounds) → based_bounds value ≡ o → is_met (bounds_find s.flow.facts d (based_bounds value)) ≡ true → IsAsked structs s value d
      based None e h = absurd (let none = rw e at h in cc)
      based (Some b) e h = typed.based e (leads b d (below.based b e) ints (ends_met s.flow.facts d b (let found = rw e at h in found)))

  -- of bounds of a parameter
  pub asked_at : (terms : List (Option Term)) (pointers : List (Option ℕ)) (value : core.Expression) (b : Bounds) → AreTerms s.locals terms → HasEndsBelow value → (is_null value || meets_all s.flow value (at_call terms pointers b)) ≡ true → IsAskedAt structs s terms pointers value (Some b)
  asked_at terms pointers value b are below met = ⊎_elim (λ null. inl (null_is value null)) (by (at_call terms pointers b) refl) (or_cases (is_null value) (meets_all s.flow value (at_call terms pointers b)) met)
    where
      by : (o : Option Bounds) → at_call terms pointers b ≡ o → meets_all s.flow value (at_call terms pointers b) ≡ true → IsAskedAt structs s terms pointers value (Some b)
      by None e h = absurd (let none = rw e at h in cc)
      by (Some d) e h = inr (d, e, asked_so value d below (filled_ints s.locals terms are pointers b d e) (let found = rw e at h in found))
