-- Flows between statements stay such ones.
use Rattle.std.proofs.Common.{◌≡◌, ℕ, zero, suc, ◌+◌, ◌-◌, ◌<◌, ◌≤◌, ℤ, Bool, true, false, cond, ◌&&◌, pos, ◌+ℤ◌, List, [], ◌∷◌, length, map, Option, Some, None, refl, sym, ap, ◌∙◌, subst, arith, ◌⊎◌, inl, inr}
use Rattle.std.specs.Prelude.{◌≢◌, nat_lt, slice_get, slice_set}
use Rattle.std.proofs.lemmas.Bool.{cases_eq}
use Rattle.std.proofs.lemmas.Bool.Decides.{nat_tests}
use Rattle.std.proofs.lemmas.List.{get_or-set_other}
use Rattle.std.proofs.lemmas.Option.{same_Some, slice_get_within}
use Rattle.ckc_text.specs.declared.place.Span.{Span}
use Rattle.bounds_exprs.specs.declared.term.Bounds.{Bounds}
use Rattle.bounds_exprs.specs.declared.term.Term.{Term}
use Rattle.bounds_exprs.specs.Terms.{is_var, is_within, term_limit}
use Rattle.bounds_exprs.specs.Changes.{is_named, moved_back}
use Rattle.subsumption.specs.ClosedTables.{ClosedTable, entails_terms}
use Rattle.subsumption.specs.Facts.{IsBelow}
use Rattle.pointer_modes.specs.declared.ctype.Kind.{Kind}
use Rattle.pointer_modes.specs.declared.ctype.Kind.TheVariants as kinds
use Rattle.pointer_modes.specs.Types.{CType, Int, Char, Struct, Pointer, Structure}
use Rattle.bounds_flow.specs.declared.held.Held.{Held}
use Rattle.bounds_flow.specs.declared.held.Mark.{Mark}
use Rattle.bounds_flow.specs.declared.held.Mark.TheVariants as marks
use Rattle.bounds_flow.specs.declared.steps.Source.{Source}
use Rattle.bounds_flow.specs.declared.steps.Source.TheVariants as sources
use Rattle.bounds_flow.specs.Pointers.{after_base, after_leaving, after_number, after_shift, assigned_from, dropped, fresh, is_settled, lost, moved_off, moved_to, no_pointer, same_bounds, settled_pointer, up_to, where_bounds, with_declared, is_own}
use Rattle.bounds_flow.specs.Flows.{Knowledge, held_at, entered, left, at_head, cut_off, in_bundle, length_assigned, measured, measured_by, met, number_assigned, number_held, pointer_assigned, settled, variable}
use Rattle.bounds_flow.specs.Settling.{Finding, Meets, WasLost, Falls, MeetBelow, finding}
use Rattle.bounds_flow.specs.Conditions.{AreBoundsBelow, AreEndsBelow, IsFlow, IsTermBelow, IsSourceBelow}
use Rattle.bounds_flow.proofs.FlowSteps.{are_kept}
use Rattle.bounds_flow_meaning.specs.Holding.{IsInt, IsSettled}
use Rattle.bounds_flow_meaning.specs.Laws.{AreBeside}
use Rattle.bounds_flow_meaning.proofs.Beside.{flows_stay_alike}
use Rattle.bounds_flow_meaning.proofs.Steps.{each_map, each_put}
use Rattle.bounds_flow_meaning.proofs.Validity.{both_true}
use Rattle.bounds_flow_meaning.proofs.Ways.{head_at, joined_at, leaving}
use Rattle.ckc_core.specs.Core as core
use Rattle.region_typing_rules.specs.Verdicts.{picked}
use Rattle.region_typing_rules.specs.Readings.{told, term, behind_local, is_null, is_not_null}
use Rattle.region_typing_rules.specs.Knowing.{is_below, are_below, given_bounds, known_source, source, moved_from, measured_local, count_assigned, value_assigned, assigned_by, or_later, first_found, settled_as, settling, without_locals, with_way, with_others}
use Rattle.region_typing_rules.specs.KnownIsSo.{AreLimited, declared_at, IsDeclared, IsOutside}
use Rattle.region_typing_rules.proofs.Verdicts.{Promises, Extends}
use Rattle.region_typing_rules.proofs.Terms.{term_formed, formed_below}
use Rattle.region_typing_rules.proofs.InForce.{AreSo, IsPointing, IsSoOf, StaysSo, bounds_told}
use Rattle.region_typing_rules.proofs.Told.{told_beside as tests_beside, told_here, told_is, told_settled}

-- ---- bounds that may stand

-- bounds of a pointer among locals of these types: it has elements, their ends name `int` locals and have small constants, and their base is a
-- pointer like it
abbrev pub MayStand : List Structure → List CType → ℕ → Bounds → Type 0
MayStand structs types p b = IsDeclared structs types p b × AreLimited b

-- with another upper end
ended_stands : (structs : List Structure) (types : List CType) (p : ℕ) (b : Bounds) (hi : Term) → IsInt types hi.var → is_within term_limit hi.plus ≡ true → MayStand structs types p b → MayStand structs types p (record b { hi = hi })
ended_stands structs types p b hi int small h = (
  record { mode = h.0.mode; kind = h.0.kind; counts = h.0.counts; element = h.0.element; own = h.0.own; some = h.0.some; ints = record { lo = h.0.ints.lo; hi = int }; base = h.0.base },
  record { low = h.1.low; high = small },
)

wider_stands : (structs : List Structure) (types : List CType) (p : ℕ) → StaysSo (MayStand structs types p)
wider_stands structs types p b d further h = by (is_within term_limit (b.hi.plus +ℤ pos 1)) refl further
  where
    by : (test : Bool) → is_within term_limit (b.hi.plus +ℤ pos 1) ≡ test → up_to b (cond test (Some (record { var = b.hi.var; plus = b.hi.plus +ℤ pos 1 })) None) ≡ Some d → MayStand structs types p d
    by true small is =
        let hi : Term = record { var = b.hi.var; plus = b.hi.plus +ℤ pos 1 } in
        subst (MayStand structs types p) (same_Some (record b { hi = hi }) d is) (ended_stands structs types p b hi h.0.ints.hi small h)
    by false small is = absurd (cc)

int_more : (ts us : List CType) → Extends ts us → (o : Option ℕ) → IsInt ts o → IsInt us o
int_more ts us more None h = tt
int_more ts us more (Some x) h = more x Int h

pub declared_extends : (structs : List Structure) (ts us : List CType) (p : ℕ) (b : Bounds) → Extends ts us → IsDeclared structs ts p b → IsDeclared structs us p b
declared_extends structs ts us p b more d = record {
  some = d.some;
  mode = d.mode;
  kind = d.kind;
  counts = d.counts;
  element = d.element;
  own = more p (Pointer d.mode d.kind d.element) d.own;
  ints = record { lo = int_more ts us more b.lo.var d.ints.lo; hi = int_more ts us more b.hi.var d.ints.hi };
  base = λ q e. let it = d.base q e in (it.0, more q (Pointer d.mode it.0 d.element) it.1);
}

pub stands_pointing : (structs : List Structure) (types : List CType) (p : ℕ) (b : Bounds) → MayStand structs types p b → IsPointing types p b
stands_pointing structs types p b h = record {
  mode = h.0.mode;
  kind = h.0.kind;
  counts = h.0.counts;
  element = h.0.element;
  own = h.0.own;
  limited = h.1;
  named = record { ints = h.0.ints; base = λ q e. let it = h.0.base q e in (h.0.mode, it.0, h.0.element, it.1) };
}

-- ---- the bounds of all pointers

module _ (Q : ℕ → Bounds → Type 0) where
  so_met : (f g : Knowledge) → length g.held ≡ length f.held → AreSo Q f → AreSo Q (met f g)
  so_met f g same h p = subst (IsSoOf (Q p)) (sym (joined_at f.held g.held (sym same) p)) (by (same_bounds (held_at f.held p).bounds (held_at g.held p).bounds))
    where
      by : (test : Bool) → IsSoOf (Q p) (record (held_at f.held p) { bounds = cond test (held_at f.held p).bounds (held_at f.held p).declared; known = (held_at f.held p).known && (held_at g.held p).known })
      by true = record { bounds = (h p).bounds; declared = (h p).declared }
      by false = record { bounds = (h p).declared; declared = (h p).declared }

  so_head : (changed : List ℕ) (f : Knowledge) → AreSo Q f → AreSo Q (at_head changed f)
  so_head changed f h p =
      let at = head_at changed f p in
      record { bounds = λ b e. (h p).declared b (sym at.bounds ∙ e); declared = λ b e. (h p).declared b (sym at.declared ∙ e) }

  so_entered : (x : ℕ) (declared : Option Bounds) (f : Knowledge) → ((b : Bounds) → declared ≡ Some b → Q x b) → AreSo Q f → AreSo Q (entered x declared f)
  so_entered x declared f may h = each_put (λ p h. IsSoOf (Q p) h) f.held x (fresh declared) (record { bounds = may; declared = may }) h

  none_so : (x : ℕ) → IsSoOf (Q x) no_pointer
  none_so x = record { bounds = λ b e. absurd (cc); declared = λ b e. absurd (cc) }

  so_reset : (p : ℕ) (h : Held) → IsSoOf (Q p) h → IsSoOf (Q p) (with_declared h)
  so_reset p h so = record { bounds = so.declared; declared = so.declared }

  so_left : (x : ℕ) (f : Knowledge) → AreSo Q f → AreSo Q (left x f)
  so_left x f h =
      each_put (λ p h. IsSoOf (Q p) h) (map (after_leaving x) f.held) x no_pointer (none_so x)
      (each_map (λ p h. IsSoOf (Q p) h) (after_leaving x) refl f.held (λ q. leaving (IsSoOf (Q q)) (held_at f.held q) x (h q) (so_reset q (held_at f.held q) (h q))))

-- a flow between statements, of so many variables, among locals of these types
pub record IsBetween (structs : List Structure) (types : List CType) (vars : ℕ) (f : Knowledge) : Type 0 where
  pub flow : IsFlow f
  pub size : f.vars ≡ vars
  pub settled : IsSettled f
  pub bounds : AreSo (MayStand structs types) f

-- what is known of some ways out of a loop, or on to its next turn, outside of which there are so many locals
abbrev pub AreBetween : List Structure → List CType → (vars outside : ℕ) → Knowledge → Option Knowledge → Type 0
AreBetween structs types vars outside f None = Unit {0}
AreBetween structs types vars outside f (Some h) = IsBetween structs types vars h × IsOutside outside f h

-- among more locals
pub between_more : {structs : List Structure} (ts us : List CType) (vars : ℕ) (f : Knowledge) → Extends ts us → IsBetween structs ts vars f → IsBetween structs us vars f
between_more {structs = structs} ts us vars f more b = record {
  flow = b.flow;
  size = b.size;
  settled = b.settled;
  bounds = λ p. record {
    bounds = λ d e. (let h = (b.bounds p).bounds d e in (declared_extends structs ts us p d more h.0, h.1));
    declared = λ d e. (let h = (b.bounds p).declared d e in (declared_extends structs ts us p d more h.0, h.1));
  };
}

pub ways_more : (structs : List Structure) (ts us : List CType) (vars outside : ℕ) (f : Knowledge) (o : Option Knowledge) → Extends ts us → AreBetween structs ts vars outside f o → AreBetween structs us vars outside f o
ways_more structs ts us vars outside f None more b = tt
ways_more structs ts us vars outside f (Some h) more b = (between_more ts us vars h more b.0, b.1)

-- ---- declared bounds

-- those of a flow at the same place
pub outside_beside : (n : ℕ) (f g h : Knowledge) → AreBeside g h → IsOutside n f g → IsOutside n f h
outside_beside n f g h beside out = record { within = λ p low. beside.declared p ∙ out.within p low; beyond = λ p far. beside.declared p ∙ out.beyond p far }

pub outside_here : (n : ℕ) (f : Knowledge) → ((p : ℕ) → n ≤ p → declared_at f p ≡ None) → IsOutside n f f
outside_here n f beyond = record { within = λ p low. refl; beyond = beyond }

-- flows of two ways that lead to one place
pub beside_of : {structs : List Structure} {types : List CType} (vars n : ℕ) (f g h : Knowledge) → IsBetween structs types vars g → IsBetween structs types vars h → IsOutside n f g → IsOutside n f h → AreBeside g h
beside_of vars n f g h a b to_g to_h = record {
  vars = b.size ∙ sym a.size;
  declared = λ p. elim (order p) [ inl low ↦ to_h.within p low ∙ sym (to_g.within p low) | inr far ↦ to_h.beyond p far ∙ sym (to_g.beyond p far) ];
}
  where
    order : (p : ℕ) → (p < n) ⊎ (n ≤ p)
    order p = decided (nat_lt p n) refl
      where
        decided : (test : Bool) → nat_lt p n ≡ test → (p < n) ⊎ (n ≤ p)
        decided true e = inl (grind (arith, nat_tests))
        decided false e = inr (grind (arith, nat_tests))

same_lengths : {structs : List Structure} {types : List CType} (vars : ℕ) (f g : Knowledge) → IsBetween structs types vars f → IsBetween structs types vars g → length g.held ≡ length f.held
same_lengths vars f g a b = b.flow.variables.pointers ∙ (b.size ∙ (sym a.size ∙ sym a.flow.variables.pointers))

-- ---- flows between statements

pub told_beside : {structs : List Structure} (types : List CType) (vars : ℕ) (e : core.Expression) (truth : Bool) (f : Knowledge) → length types ≤ vars → IsBetween structs types vars f → AreBeside f (told types e truth f)
told_beside types vars e truth f few b = tests_beside f (told types e truth f) (told_is types f (subst (λ n. length types ≤ n) (sym b.size) few) e truth f (told_here f b.flow))

pub between_told : {structs : List Structure} (types : List CType) (vars : ℕ) (e : core.Expression) (truth : Bool) (f : Knowledge) → length types ≤ vars → IsBetween structs types vars f → IsBetween structs types vars (told types e truth f)
between_told {structs = structs} types vars e truth f few b =
    let t = told_is types f (subst (λ n. length types ≤ n) (sym b.size) few) e truth f (told_here f b.flow) in
    record {
      flow = t.flow;
      size = t.tested.vars ∙ b.size;
      settled = told_settled f (told types e truth f) t b.settled;
      bounds = bounds_told (MayStand structs types) (wider_stands structs types) types e truth f b.bounds;
    }

pub between_cut : {structs : List Structure} {types : List CType} (vars : ℕ) (f : Knowledge) → IsBetween structs types vars f → IsBetween structs types vars (cut_off f)
between_cut vars f b = record { flow = (are_kept.steps f b.flow).cut; size = b.size; settled = (flows_stay_alike.1 f).cut b.settled; bounds = b.bounds }

pub between_head : {structs : List Structure} {types : List CType} (vars : ℕ) (changed : List ℕ) (f : Knowledge) → IsBetween structs types vars f → IsBetween structs types vars (at_head changed f)
between_head {structs = structs} {types = types} vars changed f b = record {
  flow = (are_kept.steps f b.flow).enter_loop changed;
  size = b.size;
  settled = (flows_stay_alike.1 f).enter_loop changed b.settled;
  bounds = so_head (MayStand structs types) changed f b.bounds;
}

pub between_met : {structs : List Structure} {types : List CType} (vars : ℕ) (f g : Knowledge) → IsBetween structs types vars f → IsBetween structs types vars g → IsBetween structs types vars (met f g)
between_met {structs = structs} {types = types} vars f g a b =
    let same = same_lengths vars f g a b in
    record {
      flow = (are_kept.steps f a.flow).join g b.flow (b.size ∙ sym a.size);
      size = a.size;
      settled = (flows_stay_alike.1 f).join g same a.settled;
      bounds = so_met (MayStand structs types) f g same a.bounds;
    }

pub met_beside : {structs : List Structure} {types : List CType} (vars : ℕ) (f g : Knowledge) → IsBetween structs types vars f → IsBetween structs types vars g → AreBeside f (met f g)
met_beside vars f g a b = (flows_stay_alike.0 f).join g (same_lengths vars f g a b)

pub between_entered : {structs : List Structure} {types : List CType} (vars x : ℕ) (declared : Option Bounds) (f : Knowledge) → AreBoundsBelow vars declared → ((b : Bounds) → declared ≡ Some b → MayStand structs types x b) → IsBetween structs types vars f → IsBetween structs types vars (entered x declared f)
between_entered {structs = structs} {types = types} vars x declared f below may b = record {
  flow = (are_kept.steps f b.flow).enter x declared (subst (λ n. AreBoundsBelow n declared) (sym b.size) below);
  size = b.size;
  settled = (flows_stay_alike.1 f).enter x declared b.settled;
  bounds = so_entered (MayStand structs types) x declared f may b.bounds;
}

pub between_left : {structs : List Structure} {types : List CType} (vars x : ℕ) (f : Knowledge) → IsBetween structs types vars f → IsBetween structs types vars (left x f)
between_left {structs = structs} {types = types} vars x f b = record {
  flow = (are_kept.steps f b.flow).leave x;
  size = b.size;
  settled = (flows_stay_alike.1 f).leave x b.settled;
  bounds = so_left (MayStand structs types) x f b.bounds;
}

pub between_without : {structs : List Structure} {types : List CType} (vars local count : ℕ) (f : Knowledge) → IsBetween structs types vars f → IsBetween structs types vars (without_locals local count f)
between_without vars local zero f b = b
between_without vars local (suc count) f b = between_without vars (suc local) count (left local f) (between_left vars local f b)

-- ---- scopes that begin and end

pub entered_here : (x : ℕ) (declared : Option Bounds) (f : Knowledge) (b : Bounds) → declared_at (entered x declared f) x ≡ Some b → declared ≡ Some b
entered_here x declared f b e = by f.held x e
  where
    by : (held : List Held) (x : ℕ) → (held_at (slice_set held x (fresh declared)) x).declared ≡ Some b → declared ≡ Some b
    by [] x e = absurd (cc)
    by (h ∷ held) zero e = e
    by (h ∷ held) (suc x) e = by held x e

pub entered_other : (x p : ℕ) (declared : Option Bounds) (f : Knowledge) → p ≢ x → declared_at (entered x declared f) p ≡ declared_at f p
entered_other x p declared f ne = ap (λ (h : Held). h.declared) (get_or-set_other f.held x p (fresh declared) no_pointer ne)

pub entered_below : (n : ℕ) (declared : Option Bounds) (f : Knowledge) (p : ℕ) → p < n → declared_at (entered n declared f) p ≡ declared_at f p
entered_below n declared f p low = entered_other n p declared f (λ e. absurd (omega (arith, low, e)))

pub entered_beyond : (n : ℕ) (declared : Option Bounds) (f : Knowledge) → ((p : ℕ) → n ≤ p → declared_at f p ≡ None) → (p : ℕ) → suc n ≤ p → declared_at (entered n declared f) p ≡ None
entered_beyond n declared f beyond p far = entered_other n p declared f (λ e. absurd (omega (arith, far, e))) ∙ beyond p (omega (arith, far))

pub entered_outside : (n out : ℕ) (declared : Option Bounds) (f h : Knowledge) → out ≤ n → IsOutside out f h → IsOutside out (entered n declared f) h
entered_outside n out declared f h few o = record {
  within = λ p low. o.within p low ∙ sym (entered_other n p declared f (λ e. absurd (omega (arith, low, few, e))));
  beyond = o.beyond;
}

left_other : (x p : ℕ) (f : Knowledge) → p ≢ x → declared_at (left x f) p ≡ declared_at f p
left_other x p f ne =
    ap (λ (h : Held). h.declared) (get_or-set_other (map (after_leaving x) f.held) x p no_pointer no_pointer ne)
    ∙ each_map (λ q h. h.declared ≡ declared_at f q) (after_leaving x) refl f.held (λ q. leaving (λ h. h.declared ≡ declared_at f q) (held_at f.held q) x refl refl) p

left_none : (x : ℕ) (f : Knowledge) → declared_at (left x f) x ≡ None
left_none x f = by (map (after_leaving x) f.held) x
  where
    by : (held : List Held) (x : ℕ) → (held_at (slice_set held x no_pointer) x).declared ≡ None
    by [] x = refl
    by (h ∷ held) zero = refl
    by (h ∷ held) (suc x) = by held x

-- behind so many locals that left their scopes, none is declared for these
without_before : (local count p : ℕ) (f : Knowledge) → p < local → declared_at (without_locals local count f) p ≡ declared_at f p
without_before local zero p f low = refl
without_before local (suc count) p f low = without_before (suc local) count p (left local f) (omega (arith, low)) ∙ left_other local p f (λ e. absurd (omega (arith, low, e)))

without_kept : (local count p : ℕ) (f : Knowledge) → declared_at f p ≡ None → declared_at (without_locals local count f) p ≡ None
without_kept local zero p f none = none
without_kept local (suc count) p f none = without_kept (suc local) count p (left local f) (elim (cases_eq p local) [
  | inl same ↦ subst (λ p. declared_at (left local f) p ≡ None) (sym same) (left_none local f)
  | inr ne ↦ left_other local p f ne ∙ none
])

without_none : (local count p : ℕ) (f : Knowledge) → local ≤ p → p < local + count → declared_at (without_locals local count f) p ≡ None
without_none local zero p f far low = absurd (omega (arith, far, low))
without_none local (suc count) p f far low = elim (cases_eq p local) [
  | inl same ↦ without_kept (suc local) count p (left local f) (subst (λ p. declared_at (left local f) p ≡ None) (sym same) (left_none local f))
  | inr ne ↦ without_none (suc local) count p (left local f) (more ne) (omega (arith, low))
]
  where
    more : p ≢ local → suc local ≤ p
    more ne = elim (cases_eq p local) [ inl e ↦ absurd (ne e) | inr other ↦ grind (arith, nat_tests) ]

pub without_outside : (n local : ℕ) (f h : Knowledge) → local ≤ n → ((p : ℕ) → n ≤ p → declared_at h p ≡ None) → ((p : ℕ) → p < local → declared_at h p ≡ declared_at f p) → IsOutside local f (without_locals local (n - local) h)
without_outside n local f h few beyond same = record {
  within = λ p low. without_before local (n - local) p h low ∙ same p low;
  beyond = λ p far. elim (order p) [
    | inl low ↦ without_none local (n - local) p h far (omega (arith, low, few))
    | inr out ↦ without_kept local (n - local) p h (beyond p out)
  ];
}
  where
    order : (p : ℕ) → (p < n) ⊎ (n ≤ p)
    order p = decided (nat_lt p n) refl
      where
        decided : (test : Bool) → nat_lt p n ≡ test → (p < n) ⊎ (n ≤ p)
        decided true e = inl (grind (arith, nat_tests))
        decided false e = inr (grind (arith, nat_tests))

-- ---- ways

pub between_way : (structs : List Structure) (types : List CType) (vars n : ℕ) (f h : Knowledge) (o : Option Knowledge) → IsBetween structs types vars h → IsOutside n f h → AreBetween structs types vars n f o → AreBetween structs types vars n f (Some (with_way h o))
between_way structs types vars n f h None a out b = (a, out)
between_way structs types vars n f h (Some before) a out b = (between_met vars before h b.0 a, outside_beside n f before (met before h) (met_beside vars before h b.0 a) b.1)

pub between_others : (structs : List Structure) (types : List CType) (vars n : ℕ) (f h : Knowledge) (o : Option Knowledge) → IsBetween structs types vars h → IsOutside n f h → AreBetween structs types vars n f o → IsBetween structs types vars (with_others o h) × IsOutside n f (with_others o h)
between_others structs types vars n f h None a out b = (a, out)
between_others structs types vars n f h (Some others) a out b = (between_met vars h others a b.0, outside_beside n f h (met h others) (met_beside vars h others a b.0) out)

-- the ways are those of a flow in which the same bounds are declared
pub between_same : (structs : List Structure) (types : List CType) (vars n : ℕ) (f g : Knowledge) (o : Option Knowledge) → ((p : ℕ) → p < n → declared_at g p ≡ declared_at f p) → AreBetween structs types vars n f o → AreBetween structs types vars n g o
between_same structs types vars n f g None same b = tt
between_same structs types vars n f g (Some h) same b = (b.0, record { within = λ p low. b.1.within p low ∙ sym (same p low); beyond = b.1.beyond })

-- ---- in the midst of an assignment

-- declared bounds may stand, and so may those in force of a pointer to which nothing happened
pub record IsSoAmid (Q : Bounds → Type 0) (h : Held) : Type 0 where
  pub declared : (b : Bounds) → h.declared ≡ Some b → Q b
  pub in_force : h.mark ≡ marks.Settled → (b : Bounds) → h.bounds ≡ Some b → Q b

abbrev AreSoAmid : (ℕ → Bounds → Type 0) → List Held → Type 0
AreSoAmid Q held = (p : ℕ) → IsSoAmid (Q p) (held_at held p)

-- a flow in which declared bounds are as in another one
pub record IsAmid (structs : List Structure) (types : List CType) (f g : Knowledge) : Type 0 where
  pub flow : IsFlow g
  pub beside : AreBeside f g
  pub bounds : AreSoAmid (MayStand structs types) g.held

so_amid : (Q : ℕ → Bounds → Type 0) (f : Knowledge) → AreSo Q f → AreSoAmid Q f.held
so_amid Q f so p = record { declared = (so p).declared; in_force = λ _. (so p).bounds }

pub amid_here : {structs : List Structure} {types : List CType} (vars : ℕ) (f : Knowledge) → IsBetween structs types vars f → IsAmid structs types f f
amid_here {structs = structs} {types = types} vars f b = record { flow = b.flow; beside = record { vars = refl; declared = λ p. refl }; bounds = so_amid (MayStand structs types) f b.bounds }

-- where a bundle begins
pub amid_bundle : {structs : List Structure} {types : List CType} (f g : Knowledge) → IsAmid structs types f g → IsAmid structs types f (in_bundle g)
amid_bundle f g a = record { flow = (are_kept.steps g a.flow).bundle; beside = record { vars = a.beside.vars; declared = a.beside.declared }; bounds = a.bounds }

beside_on : (f g h : Knowledge) → AreBeside f g → AreBeside g h → AreBeside f h
beside_on f g h a b = record { vars = b.vars ∙ a.vars; declared = λ p. b.declared p ∙ a.declared p }

-- ---- one pointer

module _ (Q : Bounds → Type 0) where
  moved_amid : (o : Option Bounds) (h : Held) → ((b : Bounds) → h.declared ≡ Some b → Q b) → IsSoAmid Q (moved_to o h)
  moved_amid None h d = record { declared = d; in_force = λ e. absurd (cc) }
  moved_amid (Some b) h d = record { declared = d; in_force = λ e. absurd (cc) }

  cond_amid : (test : Bool) (h k : Held) → IsSoAmid Q h → IsSoAmid Q k → IsSoAmid Q (cond test h k)
  cond_amid true h k a b = a
  cond_amid false h k a b = b

  where_amid : (o : Option Bounds) (test : Bounds → Bool) (change : Bounds → Held) (h : Held) → IsSoAmid Q h → ((b : Bounds) → IsSoAmid Q (change b)) → IsSoAmid Q (where_bounds o test change h)
  where_amid None test change h a each = a
  where_amid (Some b) test change h a each = cond_amid (test b) (change b) h (each b) a

  shift_amid : (x : ℕ) (c : ℤ) (h : Held) → IsSoAmid Q h → IsSoAmid Q (after_shift x c h)
  shift_amid x c h a = where_amid h.bounds (is_named x) (λ b. moved_to (moved_back x c b) h) h a (λ b. moved_amid (moved_back x c b) h a.declared)

  number_amid : (x : ℕ) (assigned : List Bool) (h : Held) → IsSoAmid Q h → IsSoAmid Q (after_number x assigned h)
  number_amid x assigned h a =
      where_amid h.bounds (is_named x) (λ b. dropped assigned h) h a
      (λ b. cond_amid _ (with_declared h) (lost h) (record { declared = a.declared; in_force = λ e. a.declared }) (record { declared = a.declared; in_force = λ e. absurd (cc) }))

  base_amid : (p : ℕ) (moved : Option ℤ) (h : Held) → IsSoAmid Q h → IsSoAmid Q (after_base p moved h)
  base_amid p moved h a = where_amid h.bounds (λ b. is_var p b.base) (λ b. moved_to (moved_off moved b) h) h a (λ b. moved_amid (moved_off moved b) h a.declared)

  assigned_one_amid : (p : ℕ) (from : Source) (moved : Option ℤ) (known : Bool) (h : Held) → IsSoAmid Q h → IsSoAmid Q (assigned_from p from moved known h)
  assigned_one_amid p sources.Null moved known h a = record { declared = a.declared; in_force = λ e. absurd (cc) }
  assigned_one_amid p sources.Lost moved known h a = record { declared = a.declared; in_force = λ e. absurd (cc) }
  assigned_one_amid p (sources.Known b) moved known h a = record { declared = a.declared; in_force = λ e. absurd (cc) }

  -- what ends at a count
  measured_amid : (x : ℕ) (t : ClosedTable) (o : Option Bounds) (h : Held) → h.bounds ≡ o → ((b : Bounds) → Q b → Q (record b { hi = variable x })) → IsSoAmid Q h → IsSoAmid Q (measured x t o h)
  measured_amid x t None h is ends a = record { declared = a.declared; in_force = λ e. absurd (cc) }
  measured_amid x t (Some b) h is ends a =
      cond_amid (entails_terms b.hi (variable x) t) (record h { bounds = Some (record b { hi = variable x }) }) h
      (record { declared = a.declared; in_force = λ e d q. subst Q (same_Some (record b { hi = variable x }) d q) (ends b (a.in_force e b is)) }) a

-- ---- all of them

module _ (Q : ℕ → Bounds → Type 0) where
  abbrev Amid : ℕ → Held → Type 0
  Amid q h = IsSoAmid (Q q) h

  number_all_amid : (x : ℕ) (to : Option Term) (assigned : List Bool) (held : List Held) → AreSoAmid Q held → AreSoAmid Q (number_held x to assigned held)
  number_all_amid x None assigned held h p = each_map Amid (after_number x assigned) refl held (λ q. number_amid (Q q) x assigned (held_at held q) (h q)) p
  number_all_amid x (Some e) assigned held h p = by (is_var x e.var)
    where
      by : (test : Bool) → IsSoAmid (Q p) (held_at (cond test (map (after_shift x e.plus) held) (map (after_number x assigned) held)) p)
      by true = each_map Amid (after_shift x e.plus) refl held (λ q. shift_amid (Q q) x e.plus (held_at held q) (h q)) p
      by false = each_map Amid (after_number x assigned) refl held (λ q. number_amid (Q q) x assigned (held_at held q) (h q)) p

  pointer_all_amid : (p : ℕ) (from : Source) (moved : Option ℤ) (known : Bool) (f : Knowledge) → AreSoAmid Q f.held → AreSoAmid Q (pointer_assigned p from moved known f).held
  pointer_all_amid p from moved known f h =
      each_put Amid (map (after_base p moved) f.held) p (assigned_from p from moved known (held_at f.held p)) (assigned_one_amid (Q p) p from moved known (held_at f.held p) (h p))
      (each_map Amid (after_base p moved) refl f.held (λ q. base_amid (Q q) p moved (held_at f.held q) (h q)))

  length_all_amid : (x p : ℕ) (f : Knowledge) → ((b : Bounds) → Q p b → Q p (record b { hi = variable x })) → AreSoAmid Q f.held → AreSoAmid Q (length_assigned x p f).held
  length_all_amid x p f ends h q = by (is_own (held_at f.held p).bounds)
    where
      g : Knowledge
      g = number_assigned x None f

      before : AreSoAmid Q (number_assigned x None f).held
      before = number_all_amid x None (slice_set f.assigned x true) f.held h

      by : (test : Bool) → IsSoAmid (Q q) (held_at (cond test (measured_by x p g) g).held q)
      by true = each_put Amid g.held p (measured x (measured_by x p g).facts (held_at g.held p).bounds (held_at g.held p)) (measured_amid (Q p) x (measured_by x p g).facts (held_at g.held p).bounds (held_at g.held p) refl ends (before p)) before q
      by false = before q

-- ---- what is assigned

low_from : (vars : ℕ) (o : Option ℕ) → is_below vars o ≡ true → IsBelow vars o
low_from vars None h = tt
low_from vars (Some x) h = grind (arith, nat_tests)

both_low : (vars : ℕ) (b : Bounds) → are_below vars b ≡ true → AreEndsBelow vars b
both_low vars b h =
    let parts = both_true (is_below vars b.lo.var) (is_below vars b.hi.var) h in
    record { lo = low_from vars b.lo.var parts.0; hi = low_from vars b.hi.var parts.1 }

tested_low : (vars : ℕ) (b : Bounds) (test : Bool) → are_below vars b ≡ test → IsSourceBelow vars (picked test (sources.Known b) sources.Lost)
tested_low vars b true e = both_low vars b e
tested_low vars b false e = tt

known_low : (vars : ℕ) (o : Option Bounds) → IsSourceBelow vars (known_source vars o)
known_low vars None = tt
known_low vars (Some b) = tested_low vars b (are_below vars b) refl

picked_low : (vars : ℕ) (test : Bool) (from : Source) → IsSourceBelow vars from → IsSourceBelow vars (picked test sources.Null from)
picked_low vars true from h = tt
picked_low vars false from h = h

source_below : (vars : ℕ) (kind : Kind) (declared : Option Bounds) (e : core.Expression) → IsSourceBelow vars (source vars kind declared e)
source_below vars kinds.Array declared e = picked_low vars (is_null e) (known_source vars (given_bounds declared e)) (known_low vars (given_bounds declared e))
source_below vars kinds.One declared e = picked_low vars (is_null e) sources.Lost tt
source_below vars kinds.Nt declared e = picked_low vars (is_null e) (known_source vars (given_bounds declared e)) (known_low vars (given_bounds declared e))

pub term_below : (types : List CType) (vars : ℕ) (e : core.Expression) (o : Option Term) → term types e ≡ o → length types ≤ vars → IsTermBelow vars o
term_below types vars e None is few = tt
term_below types vars e (Some t) is few = formed_below types vars t.var few (term_formed types e t is).int

-- a variable of an `int` is assigned a number, or a count
count_amid : {structs : List Structure} (types : List CType) (f g : Knowledge) (x : ℕ) (e : core.Expression) (o : Option ℕ) → slice_get types x ≡ Some Int → IsAmid structs types f g → length types ≤ g.vars → IsAmid structs types f (count_assigned x o (term types e) g)
count_amid {structs = structs} types f g x e None is a few =
    let low = slice_get_within types x Int is in
    record {
      flow = (are_kept.steps g a.flow).assign_int x (term types e) (omega (arith, low, few)) (term_below types g.vars e (term types e) refl few);
      beside = beside_on f g _ a.beside ((flows_stay_alike.0 g).assign_int x (term types e));
      bounds = number_all_amid (MayStand structs types) x (term types e) (slice_set g.assigned x true) g.held a.bounds;
    }
count_amid {structs = structs} types f g x e (Some p) is a few =
    let low = slice_get_within types x Int is in
    record {
      flow = (are_kept.steps g a.flow).strlen x p (omega (arith, low, few));
      beside = beside_on f g _ a.beside ((flows_stay_alike.0 g).assign_length x p);
      bounds = length_all_amid (MayStand structs types) x p g (λ d. ended_stands structs types p d (variable x) is refl) a.bounds;
    }

value_amid : {structs : List Structure} (types : List CType) (f g : Knowledge) (x : ℕ) (e : core.Expression) (o : Option CType) → slice_get types x ≡ o → IsAmid structs types f g → length types ≤ g.vars → IsAmid structs types f (value_assigned o types x e g)
value_amid types f g x e None is a few = a
value_amid types f g x e (Some Int) is a few = count_amid types f g x e (measured_local types e) is a few
value_amid types f g x e (Some Char) is a few = a
value_amid types f g x e (Some (Struct number)) is a few = a
value_amid {structs = structs} types f g x e (Some (Pointer mode kind target)) is a few =
    let from = source g.vars kind (held_at g.held x).declared e in
    record {
      flow = (are_kept.steps g a.flow).assign_pointer x from (moved_from x (behind_local types e)) (is_not_null types g e) (source_below g.vars kind (held_at g.held x).declared e);
      beside = beside_on f g _ a.beside ((flows_stay_alike.0 g).assign_pointer x from (moved_from x (behind_local types e)) (is_not_null types g e));
      bounds = pointer_all_amid (MayStand structs types) x from (moved_from x (behind_local types e)) (is_not_null types g e) g a.bounds;
    }

pub assigned_amid : {structs : List Structure} (types : List CType) (f g : Knowledge) (x : core.Statement) → IsAmid structs types f g → length types ≤ g.vars → IsAmid structs types f (assigned_by types x g)
assigned_amid types f g core.Nothing a few = a
assigned_amid types f g (core.SetLocal local value) a few = value_amid types f g local value (slice_get types local) refl a few
assigned_amid types f g (core.Store type place value) a few = a
assigned_amid types f g (core.UpdateLocal char local operator value site) a few = value_amid types f g local (core.Arithmetic operator (core.Local local None) value site) (slice_get types local) refl a few
assigned_amid types f g (core.Update type place operator value site) a few = a
assigned_amid types f g (core.Evaluate value) a few = a
assigned_amid types f g (core.CallAlone callee arguments) a few = a
assigned_amid types f g (core.Print value) a few = a
assigned_amid types f g (core.PutByte value) a few = a
assigned_amid types f g (core.Block statements) a few = a
assigned_amid types f g (core.If condition consequent alternative) a few = a
assigned_amid types f g (core.Loop condition body step) a few = a
assigned_amid types f g (core.Return value) a few = a
assigned_amid types f g core.ReturnNothing a few = a
assigned_amid types f g core.Break a few = a
assigned_amid types f g core.Continue a few = a

-- an assignment stands in a bundle as what is before it does
value_bundled : (types : List CType) (f : Knowledge) (x : ℕ) (e : core.Expression) (o : Option CType) → (value_assigned o types x e f).bundled ≡ f.bundled
value_bundled types f x e None = refl
value_bundled types f x e (Some Int) = by (measured_local types e)
  where
    by : (o : Option ℕ) → (count_assigned x o (term types e) f).bundled ≡ f.bundled
    by None = refl
    by (Some p) = owned (is_own (held_at f.held p).bounds)
      where
        owned : (test : Bool) → (cond test (measured_by x p (number_assigned x None f)) (number_assigned x None f)).bundled ≡ f.bundled
        owned true = refl
        owned false = refl
value_bundled types f x e (Some Char) = refl
value_bundled types f x e (Some (Struct number)) = refl
value_bundled types f x e (Some (Pointer mode kind target)) = refl

pub assigned_bundled : (types : List CType) (x : core.Statement) (f : Knowledge) → (assigned_by types x f).bundled ≡ f.bundled
assigned_bundled types (core.SetLocal local value) f = value_bundled types f local value (slice_get types local)
assigned_bundled types (core.UpdateLocal char local operator value site) f = value_bundled types f local (core.Arithmetic operator (core.Local local None) value site) (slice_get types local)
assigned_bundled types x f = refl

-- ---- settling

first_meets : (a b : Finding) → or_later a b ≡ Meets → (a ≡ Meets) × (b ≡ Meets)
first_meets Meets b h = (refl, h)
first_meets WasLost b h = absurd (cc)
first_meets (Falls asked) b h = absurd (cc)

pub all_meet : (t : ClosedTable) (held : List Held) → first_found t held ≡ Meets → MeetBelow t held (length held)
all_meet t [] h p low = absurd (omega (arith, low))
all_meet t (k ∷ held) h zero low = (first_meets (finding t k) (first_found t held) h).0
all_meet t (k ∷ held) h (suc p) low = all_meet t held (first_meets (finding t k) (first_found t held) h).1 p (omega (arith, low))

-- what a settling passes on
pub record IsSettling (f k : Knowledge) : Type 0 where
  pub is : k ≡ settled f
  pub met : MeetBelow f.facts f.held (length f.held)

settled_promises : (found : Finding) (f : Knowledge) (span : Span) → first_found f.facts f.held ≡ found → Promises (IsSettling f) (settled_as found f span)
settled_promises Meets f span e = record { is = refl; met = all_meet f.facts f.held e }
settled_promises WasLost f span e = tt
settled_promises (Falls asked) f span e = tt

pub settling_promises : (f : Knowledge) (span : Span) → Promises (IsSettling f) (settling f span)
settling_promises f span = settled_promises (first_found f.facts f.held) f span refl

settled_so : (Q : Bounds → Type 0) (h : Held) → IsSoAmid Q h → IsSoOf Q (settled_pointer h)
settled_so Q h a = record { bounds = by h.mark refl; declared = a.declared }
  where
    by : (mark : Mark) → h.mark ≡ mark → (b : Bounds) → cond (is_settled mark) h.bounds h.declared ≡ Some b → Q b
    by marks.Settled e = a.in_force e
    by marks.Changed e = a.declared
    by marks.Lost e = a.declared
    by marks.WasNull e = a.declared

pub settled_beside : {structs : List Structure} {types : List CType} (f g k : Knowledge) → IsAmid structs types f g → IsSettling g k → AreBeside f k
settled_beside f g k amid is =
    subst (AreBeside f) (sym is.is)
    (record { vars = amid.beside.vars; declared = λ p. (flows_stay_alike.0 g).settle.declared p ∙ amid.beside.declared p })

pub between_settled : {structs : List Structure} {types : List CType} (vars : ℕ) (f g k : Knowledge) → IsBetween structs types vars f → IsAmid structs types f g → IsSettling g k → IsBetween structs types vars k
between_settled {structs = structs} {types = types} vars f g k b amid is =
    subst (IsBetween structs types vars) (sym is.is)
    (record {
      flow = (are_kept.steps g amid.flow).settle;
      size = amid.beside.vars ∙ b.size;
      settled = (flows_stay_alike.1 g).settle;
      bounds = each_map (λ p h. IsSoOf (MayStand structs types p) h) settled_pointer refl g.held (λ q. settled_so (MayStand structs types q) (held_at g.held q) (amid.bounds q));
    })
