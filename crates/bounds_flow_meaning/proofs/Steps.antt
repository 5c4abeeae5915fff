-- Each step of a flow keeps what it says of a state.
use Rattle.std.proofs.Common.{ℕ, zero, suc, ◌<◌, ◌≡◌, ◌≢◌, ℤ, ◌+ℤ◌, Bool, true, false, cond, Option, None, Some, List, [], ◌∷◌, length, map, set, replicate, get_or, refl, sym, ap, ◌∙◌, subst, arith, inl, inr}
use Rattle.std.specs.Prelude.{slice_get}
use Rattle.std.proofs.lemmas.Int.{ints}
use Rattle.std.proofs.lemmas.Bool.{cases_eq}
use Rattle.std.proofs.lemmas.Option.{same_Some}
use Rattle.std.proofs.lemmas.List.{get_or-set_other}
use Rattle.bounds_exprs.specs.declared.term.Term.{Term}
use Rattle.bounds_exprs.specs.declared.term.Bounds.{Bounds}
use Rattle.bounds_exprs.specs.Terms.{is_var}
use Rattle.subsumption.specs.Facts.{term_value as value}
use Rattle.subsumption.specs.ClosedTables.{ClosedTable, without, shifted}
use Rattle.subsumption.specs.TableLaws.{MeetsTable}
use Rattle.subsumption.proofs.TableSteps.{give_tables, no_facts_met}
use Rattle.pointer_modes.specs.Types.{CType, Structure}
use Rattle.bounds_flow.specs.declared.held.Held.{Held}
use Rattle.bounds_flow.specs.declared.held.Mark.TheVariants as marks
use Rattle.bounds_flow.specs.declared.changes.Change.{Change}
use Rattle.bounds_flow.specs.declared.changes.Change.TheVariants.{Shift, Number as Assign, Base, Leave, Head, Settle}
use Rattle.bounds_flow.specs.declared.steps.Source.{Source}
use Rattle.bounds_flow.specs.declared.steps.Source.TheVariants as sources
use Rattle.bounds_flow.specs.Changes.{changed}
use Rattle.bounds_flow.specs.Pointers.{assigned_from, fresh, no_pointer, after_base, after_number, after_shift}
use Rattle.bounds_flow.specs.Flows.{Knowledge, held_at, entered, number_assigned, pointer_assigned, variable, with_equal}
use Rattle.bounds_flow.specs.Conditions.{IsFlow, IsTermBelow}
use Rattle.ckc_core.specs.States.{Value, Number, Null, Local, State, Grows, shapes, has_type}
use Rattle.ckc_core.specs.Bounds.{term_value}
use Rattle.bounds_flow_meaning.specs.Holding.{AreFormed, Fits, HaveTypes, Holds, HoldsBut, IsFormed, IsHeld, IsMet, IsValid, numbers_in, target_size, types_of}
use Rattle.bounds_flow_meaning.specs.Laws.{EntriesFit, IsGiven, IsMovedBy, IsPointer, IsTermOf, MayDeclare, with_local}
use Rattle.bounds_flow_meaning.proofs.Numbers.{IsNumber, found_other, found_same, looked_up, number_too, numbers_there, other_numbers, other_term, pointer_numbers, pointer_too, replaced, same_types, still_types, term_number, type_there}
use Rattle.bounds_flow_meaning.proofs.Validity.{IsAlike, alike_here, grown_valid, is_this}
use Rattle.bounds_flow_meaning.proofs.Facts.{met_equal, met_same, met_shifted, met_without}
use Rattle.bounds_flow_meaning.proofs.Formed.{SizedSource, assigned_formed, changed_formed, none_formed}
use Rattle.bounds_flow_meaning.proofs.Pointers.{assigned_held, none_held, number_held, one_start, other_held, settled_null, shift_held}

-- ---- lists of pointers

-- what is so of each pointer after one was replaced
pub each_set : (P : ℕ → Held → Type 0) (held : List Held) (x : ℕ) (h : Held) → P x h → P x no_pointer → ((q : ℕ) → q ≢ x → P q (held_at held q)) → (q : ℕ) → P q (held_at (set held x h) q)
each_set P held x h here none others q = elim (cases_eq q x) [
  | inl same ↦ subst (λ q. P q (held_at (set held x h) q)) (sym same) (at_x (P x) held x here none)
  | inr ne ↦ subst (P q) (sym (get_or-set_other held x q h no_pointer ne)) (others q ne)
]
  where
    at_x : (Q : Held → Type 0) (held : List Held) (x : ℕ) → Q h → Q no_pointer → Q (held_at (set held x h) x)
    at_x Q [] x a n = n
    at_x Q (k ∷ held) zero a n = a
    at_x Q (k ∷ held) (suc x) a n = at_x Q held x a n

-- the same, where it was so of the one that was replaced
pub each_put : (P : ℕ → Held → Type 0) (held : List Held) (x : ℕ) (h : Held) → P x h → ((q : ℕ) → P q (held_at held q)) → (q : ℕ) → P q (held_at (set held x h) q)
each_put P [] x h here each q = each q
each_put P (k ∷ held) zero h here each zero = here
each_put P (k ∷ held) zero h here each (suc q) = each (suc q)
each_put P (k ∷ held) (suc x) h here each zero = each 0
each_put P (k ∷ held) (suc x) h here each (suc q) = each_put (λ q. P (suc q)) held x h here (λ q. each (suc q)) q

pub at_map : (f : Held → Held) → f no_pointer ≡ no_pointer → (held : List Held) (p : ℕ) → held_at (map f held) p ≡ f (held_at held p)
at_map f e [] p = sym e
at_map f e (h ∷ held) zero = refl
at_map f e (h ∷ held) (suc p) = at_map f e held p

-- what is so of each pointer after all were changed
pub each_map : (P : ℕ → Held → Type 0) (f : Held → Held) → f no_pointer ≡ no_pointer → (held : List Held) → ((q : ℕ) → P q (f (held_at held q))) → (q : ℕ) → P q (held_at (map f held) q)
each_map P f e held each q = subst (P q) (sym (at_map f e held q)) (each q)

none_changed : (assigned : List Bool) (change : Change) → changed assigned change no_pointer ≡ no_pointer
none_changed assigned (Shift x c) = refl
none_changed assigned (Assign x) = refl
none_changed assigned (Base p moved) = refl
none_changed assigned (Leave x) = refl
none_changed assigned Head = refl
none_changed assigned Settle = refl

-- ---- formed bounds

pub formed_map : (structs : List Structure) (types : List CType) (held : List Held) (assigned : List Bool) (change : Change) → AreFormed structs types held → AreFormed structs types (map (changed assigned change) held)
formed_map structs types held assigned change formed =
    each_map (λ q h. (t : CType) → slice_get types q ≡ Some t → IsFormed structs types (target_size structs t) h) (changed assigned change) (none_changed assigned change) held
    (λ q t e. changed_formed structs types (target_size structs t) assigned change (held_at held q) (formed q t e))

pub formed_set : (structs : List Structure) (types : List CType) (held : List Held) (x : ℕ) (h : Held) → ((t : CType) → slice_get types x ≡ Some t → IsFormed structs types (target_size structs t) h)
    → AreFormed structs types held → AreFormed structs types (set held x h)
formed_set structs types held x h here formed =
    each_set (λ q h. (t : CType) → slice_get types q ≡ Some t → IsFormed structs types (target_size structs t) h) held x h here (λ t e. none_formed structs types (target_size structs t)) (λ q ne t e. formed q t e)

-- ---- entry and scopes

none_at : (vars p : ℕ) → held_at (replicate vars no_pointer) p ≡ no_pointer
none_at zero p = refl
none_at (suc vars) zero = refl
none_at (suc vars) (suc p) = none_at vars p

false_at : (vars x : ℕ) → get_or (replicate vars false) x false ≡ false
false_at zero x = refl
false_at (suc vars) zero = refl
false_at (suc vars) (suc x) = false_at vars x

pub entries_fit : EntriesFit
entries_fit structs vars s types = record {
  holds = record {
    met = record {
      types = types;
      facts = no_facts_met vars (numbers_in s.locals);
      formed = λ p t e. subst (IsFormed structs (types_of s.locals) (target_size structs t)) (sym (none_at vars p)) (none_formed structs (types_of s.locals) (target_size structs t));
    };
    pointers = λ p l e. subst (λ h. IsHeld structs (replicate vars false) h l s) (sym (none_at vars p)) (none_held structs (replicate vars false) l s);
  };
  settled = λ _. record { marks = λ p. ap (λ (h : Held). h.mark) (none_at vars p); assigned = false_at vars; apart = refl };
  declared = λ _ p l e. subst (λ (h : Held). IsValid structs h.declared l s) (sym (none_at vars p)) tt;
}

module _ (structs : List Structure) (f : Knowledge) where
  pub forgotten_one : (p : ℕ) (s : State) → Holds structs f s → HoldsBut structs p f s
  forgotten_one p s h = record { met = h.met; others = λ q l ne e. h.pointers q l e }

  entered_met : (x : ℕ) (declared : Option Bounds) (s : State) → MayDeclare structs (types_of s.locals) x declared → IsMet structs f s → IsMet structs (entered x declared f) s
  entered_met x declared s may h = record {
    types = h.types;
    facts = h.facts;
    formed = formed_set structs (types_of s.locals) f.held x (fresh declared) (λ t e. record { ints = may.ints; declared = may.size t e; bounds = may.size t e }) h.formed;
  }

  pub enter_holds : (x : ℕ) (declared : Option Bounds) (s : State) → MayDeclare structs (types_of s.locals) x declared → Holds structs f s → HoldsBut structs x (entered x declared f) s
  enter_holds x declared s may h = record {
    met = entered_met x declared s may h.met;
    others = λ q l ne e. subst (λ k. IsHeld structs f.assigned k l s) (sym (get_or-set_other f.held x q (fresh declared) no_pointer ne)) (h.pointers q l e);
  }

  module _ (x : ℕ) (declared : Option Bounds) (s : State) (may : MayDeclare structs (types_of s.locals) x declared) (valid : (l : Local) → slice_get s.locals x ≡ Some l → IsValid structs declared l s) where
    fresh_held : (l : Local) → slice_get s.locals x ≡ Some l → IsHeld structs f.assigned (fresh declared) l s
    fresh_held l e = record { valid = valid l e; known = λ q. absurd (cc); null = λ q. absurd (settled_null q); declared = λ q r. valid l e; start = λ q. one_start declared }

    pub enter_valid_holds : Holds structs f s → Holds structs (entered x declared f) s
    enter_valid_holds h = record {
      met = entered_met x declared s may h.met;
      pointers = each_set (λ q h. (l : Local) → slice_get s.locals q ≡ Some l → IsHeld structs f.assigned h l s) f.held x (fresh declared) fresh_held
          (λ l e. none_held structs f.assigned l s) (λ q ne l e. h.pointers q l e);
    }

    pub enter_fits : Fits structs f s → Fits structs (entered x declared f) s
    enter_fits h = record {
      holds = enter_valid_holds h.holds;
      settled = λ apart. (
          let settled = h.settled apart in
          record { marks = each_set (λ q h. h.mark ≡ marks.Settled) f.held x (fresh declared) refl refl (λ q ne. settled.marks q); assigned = settled.assigned; apart = apart });
      declared = λ apart. each_set (λ q h. (l : Local) → slice_get s.locals q ≡ Some l → IsValid structs h.declared l s) f.held x (fresh declared) valid (λ l e. tt) (λ q ne. h.declared apart q);
    }

-- ---- x = e

module _ (structs : List Structure) (f : Knowledge) (flow : IsFlow f) (s : State) (x : ℕ) (old : Local) (z : ℤ) (lt : x < f.vars) (there : slice_get s.locals x ≡ Some old) (has : has_type old.type (Number z) ≡ true) (h : Holds structs f s) where
  abbrev now : State
  now = with_local x old (Number z) s

  abbrev since : List Bool
  since = set f.assigned x true

  was : IsNumber old.value
  was = number_too old.type z old.value has (h.met.types x old there)

  counted : x < length f.assigned
  counted = subst (λ n. x < n) (sym flow.variables.numbers) lt

  found_alike : (q : ℕ) (m : Local) → slice_get now.locals q ≡ Some m → (l : Local) × (slice_get s.locals q ≡ Some l) × IsAlike l m
  found_alike q m e = elim (looked_up s.locals x old (Number z) there q m e) [
    | inl same ↦ (
      old,
      ap (slice_get s.locals) same.0 ∙ there,
      record { type = ap (λ (l : Local). l.type) same.1; value = inr (was, record { number = z; is = ap (λ (l : Local). l.value) same.1 }) },
    )
    | inr other ↦ (m, other.1, alike_here m)
  ]

  -- the facts and the pointers of the step make it
  made : (facts : ClosedTable) (change : Change) → MeetsTable f.vars (numbers_in now.locals) facts
      → ((l m : Local) → IsAlike l m → (k : Held) → IsHeld structs f.assigned k l s → IsHeld structs since (changed since change k) m now)
      → Holds structs (record f { facts = facts; held = map (changed since change) f.held; assigned = since }) now
  made facts change met each = record {
    met = record {
      types = still_types s.locals x old (Number z) there has h.met.types;
      facts = met;
      formed = subst (λ types. AreFormed structs types (map (changed since change) f.held)) (sym (same_types s.locals x old (Number z) there)) (formed_map structs (types_of s.locals) f.held since change h.met.formed);
    };
    pointers = each_map (λ q h. (m : Local) → slice_get now.locals q ≡ Some m → IsHeld structs since h m now) (changed since change) (none_changed since change) f.held
        (λ q m e. (let a = found_alike q m e in each a.0 m a.2 (held_at f.held q) (h.pointers q a.0 a.1)));
  }

  others_same : (y : ℕ) → y ≢ x → numbers_in now.locals y ≡ numbers_in s.locals y
  others_same = other_numbers s.locals x old (Number z) there

  has_now : numbers_in now.locals x ≡ z
  has_now = numbers_there now.locals x (record old { value = Number z }) z (found_same s.locals x old (Number z) there) refl

  killed : MeetsTable f.vars (numbers_in now.locals) (without f.vars x f.facts)
  killed = met_without f.vars f.facts x (numbers_in s.locals) (numbers_in now.locals) flow.facts lt others_same h.met.facts

  kill_made : (facts : ClosedTable) → MeetsTable f.vars (numbers_in now.locals) facts → Holds structs (record f { facts = facts; held = map (after_number x since) f.held; assigned = since }) now
  kill_made facts met = made facts (Assign x) met (λ l m alike k held. number_held structs s x old there was f.assigned counted z l m alike k held)

  -- of a term without the variable
  equal_facts : (e : Term) → IsTermBelow f.vars (Some e) → is_var x e.var ≡ false → term_value e s.locals ≡ Some z → MeetsTable f.vars (numbers_in now.locals) (with_equal f.vars (variable x) e (without f.vars x f.facts))
  equal_facts e below named is =
      let a : value (numbers_in now.locals) e ≡ z = term_number now.locals e z (other_term s.locals x old (Number z) there e named ∙ is) in
      let b = has_now in
      met_equal f.vars (without f.vars x f.facts) (variable x) e (numbers_in now.locals) ((give_tables f.vars).kill f.facts x flow.facts) lt below (omega (arith, ints, a, b)) killed

  shift_made : (e : Term) → is_var x e.var ≡ true → term_value e s.locals ≡ Some z
      → Holds structs (record f { facts = shifted f.vars x e.plus f.facts; held = map (after_shift x e.plus) f.held; assigned = since }) now
  shift_made e named is =
      let a : value (numbers_in s.locals) e ≡ z = term_number s.locals e z is in
      let at_x : value (numbers_in s.locals) e ≡ numbers_in s.locals x +ℤ e.plus = ap (λ o. value (numbers_in s.locals) (record { var = o; plus = e.plus })) (is_this x e.var named) in
      let n : numbers_in s.locals x ≡ was.number = numbers_there s.locals x old was.number there was.is in
      let sum : was.number +ℤ e.plus ≡ z = omega (arith, ints, a, at_x, n) in
      let b = has_now in
      made (shifted f.vars x e.plus f.facts) (Shift x e.plus)
      (met_shifted f.vars f.facts x e.plus (numbers_in s.locals) (numbers_in now.locals) flow.facts lt (omega (arith, ints, a, b, at_x)) others_same h.met.facts)
      (λ l m alike k held. subst (λ z. IsHeld structs since (after_shift x e.plus k) m (with_local x old (Number z) s)) sum (shift_held structs s x old there was f.assigned counted e.plus l m alike k held))

  assigned_by : (e : Term) (b : Bool) → is_var x e.var ≡ b → IsTermBelow f.vars (Some e) → term_value e s.locals ≡ Some z
      → Holds structs (record f { facts = cond b (shifted f.vars x e.plus f.facts) (with_equal f.vars (variable x) e (without f.vars x f.facts)); held = cond b (map (after_shift x e.plus) f.held) (map (after_number x since) f.held); assigned = since }) now
  assigned_by e true named below is = shift_made e named is
  assigned_by e false named below is = kill_made _ (equal_facts e below named is)

  pub number_holds : (to : Option Term) → IsTermBelow f.vars to → IsTermOf to s.locals z → Holds structs (number_assigned x to f) now
  number_holds None below is = kill_made (without f.vars x f.facts) killed
  number_holds (Some e) below is = assigned_by e (is_var x e.var) refl below is

-- ---- p = e

source_size : (structs : List Structure) (l : Local) (s : State) (from : Source) → IsGiven structs from l s → SizedSource structs (types_of s.locals) (target_size structs l.type) from
source_size structs l s sources.Null given = tt
source_size structs l s sources.Lost given = tt
source_size structs l s (sources.Known b) given = given.1

module _ (structs : List Structure) (f : Knowledge) (p : ℕ) (from : Source) (moved : Option ℤ) (not_null : Bool) (s : State) (old : Local) (v : Value) where
  pub pointer_holds : slice_get s.locals p ≡ Some old → IsPointer v → has_type old.type v ≡ true → IsGiven structs from (record old { value = v }) s → IsMovedBy structs moved old v → (not_null ≡ true → v ≢ Null)
      → HoldsBut structs p f s → Holds structs (pointer_assigned p from moved not_null f) (with_local p old v s)
  pointer_holds there is has given step known h = record {
    met = record {
      types = still_types s.locals p old v there has h.met.types;
      facts = met_same f.vars f.facts (numbers_in s.locals) (numbers_in (replaced s.locals p old v)) (pointer_numbers s.locals p old v there was is) h.met.facts;
      formed = subst (λ types. AreFormed structs types (pointer_assigned p from moved not_null f).held) (sym (same_types s.locals p old v there))
          (formed_set structs (types_of s.locals) (map (after_base p moved) f.held) p (assigned_from p from moved not_null (held_at f.held p)) here_formed
          (formed_map structs (types_of s.locals) f.held f.assigned (Base p moved) h.met.formed));
    };
    pointers = each_set (λ q h. (l : Local) → slice_get (replaced s.locals p old v) q ≡ Some l → IsHeld structs f.assigned h l (with_local p old v s)) (map (after_base p moved) f.held) p
        (assigned_from p from moved not_null (held_at f.held p)) here (λ l e. none_held structs f.assigned l _) others;
  }
    where
      was : IsPointer old.value
      was = pointer_too old.type v old.value is has (h.met.types p old there)

      here_formed : (t : CType) → slice_get (types_of s.locals) p ≡ Some t → IsFormed structs (types_of s.locals) (target_size structs t) (assigned_from p from moved not_null (held_at f.held p))
      here_formed t e =
          let same : old.type ≡ t = same_Some old.type t (sym (type_there s.locals p old there) ∙ e) in
          assigned_formed structs (types_of s.locals) (target_size structs t) p from moved not_null (held_at f.held p) (h.met.formed p t e)
          (subst (λ t. SizedSource structs (types_of s.locals) (target_size structs t) from) same (source_size structs (record old { value = v }) s from given))

      here : (l : Local) → slice_get (replaced s.locals p old v) p ≡ Some l → IsHeld structs f.assigned (assigned_from p from moved not_null (held_at f.held p)) l (with_local p old v s)
      here l e =
          let same : record old { value = v } ≡ l = same_Some (record old { value = v }) l (sym (found_same s.locals p old v there) ∙ e) in
          subst (λ l. IsHeld structs f.assigned (assigned_from p from moved not_null (held_at f.held p)) l (with_local p old v s)) same
          (assigned_held structs s p old v there was is f.assigned from moved not_null (held_at f.held p) given step known)

      others : (q : ℕ) → q ≢ p → (l : Local) → slice_get (replaced s.locals p old v) q ≡ Some l → IsHeld structs f.assigned (held_at (map (after_base p moved) f.held) q) l (with_local p old v s)
      others q ne l e =
          let there' : slice_get s.locals q ≡ Some l = sym (found_other s.locals p old v there q ne) ∙ e in
          each_map (λ r k. r ≡ q → IsHeld structs f.assigned k l (with_local p old v s)) (after_base p moved) refl f.held
          (λ r same. subst (λ r. IsHeld structs f.assigned (after_base p moved (held_at f.held r)) l (with_local p old v s)) (sym same)
          (other_held structs s p old v there was is f.assigned moved step l (held_at f.held q) (h.met.formed q l.type (type_there s.locals q l there')).bounds (h.others q l ne there'))) q refl

-- ---- blocks

module _ (structs : List Structure) (s t : State) (grows : Grows (shapes s.blocks) (shapes t.blocks)) (same : t.locals ≡ s.locals) where
  grown_held : (assigned : List Bool) (h : Held) (l : Local) → IsHeld structs assigned h l s → IsHeld structs assigned h l t
  grown_held assigned h l held = record {
    valid = grown_valid structs h.bounds l s t grows same held.valid;
    known = held.known;
    null = held.null;
    declared = λ e stays. grown_valid structs h.declared l s t grows same (held.declared e stays);
    start = held.start;
  }

  before : (q : ℕ) (l : Local) → slice_get t.locals q ≡ Some l → slice_get s.locals q ≡ Some l
  before q l e = ap (λ locals. slice_get locals q) (sym same) ∙ e

  module _ (f : Knowledge) where
    grown_met : IsMet structs f s → IsMet structs f t
    grown_met h = record {
      types = subst HaveTypes (sym same) h.types;
      facts = subst (λ locals. MeetsTable f.vars (numbers_in locals) f.facts) (sym same) h.facts;
      formed = subst (λ locals. AreFormed structs (types_of locals) f.held) (sym same) h.formed;
    }

    pub grow_holds : Holds structs f s → Holds structs f t
    grow_holds h = record { met = grown_met h.met; pointers = λ q l e. grown_held f.assigned (held_at f.held q) l (h.pointers q l (before q l e)) }

    pub grow_but : (p : ℕ) → HoldsBut structs p f s → HoldsBut structs p f t
    grow_but p h = record { met = grown_met h.met; others = λ q l ne e. grown_held f.assigned (held_at f.held q) l (h.others q l ne (before q l e)) }

    pub grow_fits : Fits structs f s → Fits structs f t
    grow_fits h = record {
      holds = grow_holds h.holds;
      settled = h.settled;
      declared = λ apart q l e. grown_valid structs (held_at f.held q).declared l s t grows same (h.declared apart q l (before q l e));
    }
