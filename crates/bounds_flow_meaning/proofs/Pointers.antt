-- What is known of a pointer stays so, whatever becomes of it and of the state.
use Rattle.std.proofs.Common.{ℕ, ◌<◌, ◌≡◌, ◌≢◌, ℤ, neg_ℤ, ◌+ℤ◌, Bool, true, false, not, cond, ◌==◌, Option, None, Some, List, length, set, get_or, refl, sym, ap, ◌∙◌, subst, inl, inr}
use Rattle.std.specs.Prelude.{slice_get, ◌&&◌, ◌||◌}
use Rattle.std.proofs.lemmas.List.{get_or-set_same, get_or-set_other}
use Rattle.bounds_exprs.specs.declared.term.Bounds.{Bounds}
use Rattle.bounds_exprs.specs.Terms.{is_var}
use Rattle.bounds_exprs.specs.Changes.{is_named, moved_back, moved_by}
use Rattle.pointer_modes.specs.Types.{Structure}
use Rattle.bounds_flow.specs.declared.held.Held.{Held}
use Rattle.bounds_flow.specs.declared.held.Mark.{Mark}
use Rattle.bounds_flow.specs.declared.held.Mark.TheVariants as marks
use Rattle.bounds_flow.specs.declared.steps.Source.{Source}
use Rattle.bounds_flow.specs.declared.steps.Source.TheVariants as sources
use Rattle.bounds_flow.specs.Pointers.{after_base, after_number, after_shift, assigned_from, bounds_from, dropped, is_assigned, is_settled, lost, mark_from, moved_off, moved_to, no_pointer, stays_true, where_bounds, with_declared}
use Rattle.ckc_core.specs.States.{Value, Number, Null, Local, State}
use Rattle.bounds_flow_meaning.specs.Holding.{HasSize, HaveOneStart, IsHeld, IsValid, target_size, types_of}
use Rattle.bounds_flow_meaning.specs.Laws.{IsGiven, IsMovedBy, IsPointer, with_local}
use Rattle.bounds_flow_meaning.proofs.Numbers.{IsNumber, other_number, same_number, type_there}
use Rattle.bounds_flow_meaning.proofs.Validity.{IsAlike, alike_here, based_stays, both_true, is_this, neither, own_stays, shifted_stays, unbased_stays, unnamed_stays}

-- ---- marks

pub settled_is : (m : Mark) → is_settled m ≡ true → m ≡ marks.Settled
settled_is marks.Settled e = refl
settled_is marks.Changed e = absurd (cc)
settled_is marks.Lost e = absurd (cc)
settled_is marks.WasNull e = absurd (cc)

pub changed_settled : marks.Changed ≡ marks.Settled → ⊥
changed_settled e = cc

pub changed_null : marks.Changed ≡ marks.WasNull → ⊥
changed_null e = cc

pub lost_settled : marks.Lost ≡ marks.Settled → ⊥
lost_settled e = cc

lost_null : marks.Lost ≡ marks.WasNull → ⊥
lost_null e = cc

pub null_settled : marks.WasNull ≡ marks.Settled → ⊥
null_settled e = cc

pub settled_null : marks.Settled ≡ marks.WasNull → ⊥
settled_null e = cc

-- ---- bounds

pub one_start : (o : Option Bounds) → HaveOneStart o o
one_start None = tt
one_start (Some b) = (refl, refl)

pub valid_of : (structs : List Structure) (o p : Option Bounds) (l : Local) (s : State) → o ≡ p → IsValid structs p l s → IsValid structs o l s
valid_of structs o p l s e h = subst (λ o. IsValid structs o l s) (sym e) h

-- what is no pointer in scope is known to be so
pub none_held : (structs : List Structure) (assigned : List Bool) (l : Local) (s : State) → IsHeld structs assigned no_pointer l s
none_held structs assigned l s = record { valid = tt; known = λ e. absurd (cc); null = λ e. absurd (settled_null e); declared = λ e f. tt; start = λ e. tt }

-- bounds in force that are lost
pub lost_held : (structs : List Structure) (assigned : List Bool) (h : Held) (l : Local) (s : State) → (h.known ≡ true → l.value ≢ Null) → IsHeld structs assigned (lost h) l s
lost_held structs assigned h l s known = record { valid = tt; known = known; null = λ e. absurd (lost_null e); declared = λ e f. absurd (lost_settled e); start = λ e. absurd (lost_settled e) }

-- bounds in force that were moved
pub moved_held : (structs : List Structure) (assigned : List Bool) (o : Option Bounds) (h : Held) (l : Local) (s : State) → IsValid structs o l s → (h.known ≡ true → l.value ≢ Null)
    → IsHeld structs assigned (moved_to o h) l s
moved_held structs assigned None h l s valid known = lost_held structs assigned h l s known
moved_held structs assigned (Some b) h l s valid known = record {
  valid = valid;
  known = known;
  null = λ e. absurd (changed_null e);
  declared = λ e f. absurd (changed_settled e);
  start = λ e. absurd (changed_settled e);
}

-- ---- variables that were assigned

unassigned : (assigned : List Bool) (x : ℕ) (o : Option ℕ) → x < length assigned → is_assigned (set assigned x true) o ≡ false → (is_assigned assigned o ≡ false) × (is_var x o ≡ false)
unassigned assigned x None lt h = (refl, refl)
unassigned assigned x (Some y) lt h = by (y == x) refl
  where
    by : (b : Bool) → (y == x) ≡ b → (is_assigned assigned (Some y) ≡ false) × (is_var x (Some y) ≡ false)
    by true e =
        let here : get_or (set assigned x true) y false ≡ true = ap (λ y. get_or (set assigned x true) y false) (same_number y x e) ∙ get_or-set_same assigned x true false lt in
        absurd (cc)
    by false e = (sym (get_or-set_other assigned x y true false (other_number y x e)) ∙ h, e)

not_false : (b : Bool) → not b ≡ true → b ≡ false
not_false true e = absurd (cc)
not_false false e = refl

not_either : (a b : Bool) → a ≡ false → b ≡ false → not (a || b) ≡ true
not_either a b p q = rw (p, q) refl

either_false : (a b : Bool) → a ≡ false → b ≡ false → (a || b) ≡ false
either_false a b p q = rw (p, q) refl

pub stays_before : (assigned : List Bool) (x : ℕ) (b : Bounds) → x < length assigned → stays_true (set assigned x true) (Some b) ≡ true → (stays_true assigned (Some b) ≡ true) × (is_named x b ≡ false)
stays_before assigned x b lt h =
    let n = neither (is_assigned (set assigned x true) b.lo.var) (is_assigned (set assigned x true) b.hi.var) (not_false _ h) in
    let lo = unassigned assigned x b.lo.var lt n.0 in
    let hi = unassigned assigned x b.hi.var lt n.1 in
    (not_either (is_assigned assigned b.lo.var) (is_assigned assigned b.hi.var) lo.0 hi.0, either_false (is_var x b.lo.var) (is_var x b.hi.var) lo.1 hi.1)

-- ---- x = e

alike_known : (l m : Local) → IsAlike l m → l.value ≢ Null → m.value ≢ Null
alike_known l m alike h null = elim alike.value [ inl same ↦ h (sym same ∙ null) | inr n ↦ (let e : Number n.1.number ≡ Null = sym n.1.is ∙ null in cc) ]

alike_null : (l m : Local) → IsAlike l m → l.value ≡ Null → m.value ≡ Null
alike_null l m alike null = elim alike.value [ inl same ↦ same ∙ null | inr n ↦ absurd (let e : Number n.0.number ≡ Null = sym n.0.is ∙ null in cc) ]

module _ (structs : List Structure) (s : State) (x : ℕ) (old : Local) (there : slice_get s.locals x ≡ Some old) (was : IsNumber old.value) (assigned : List Bool) (lt : x < length assigned) where
  module _ (z : ℤ) (l m : Local) (alike : IsAlike l m) where
    declared_stay : (o : Option Bounds) → (stays_true assigned o ≡ true → IsValid structs o l s) → stays_true (set assigned x true) o ≡ true → IsValid structs o m (with_local x old (Number z) s)
    declared_stay None h stays = tt
    declared_stay (Some d) h stays = let p = stays_before assigned x d lt stays in unnamed_stays structs s x old there was z d l m alike p.1 (h p.0)

    -- a pointer of which nothing becomes
    unchanged : (h : Held) → IsValid structs h.bounds m (with_local x old (Number z) s) → IsHeld structs assigned h l s → IsHeld structs (set assigned x true) h m (with_local x old (Number z) s)
    unchanged h valid held = record {
      valid = valid;
      known = λ e. alike_known l m alike (held.known e);
      null = λ e. alike_null l m alike (held.null e);
      declared = λ e. declared_stay h.declared (held.declared e);
      start = held.start;
    }

    dropped_by : (h : Held) (b : Bool) → (is_settled h.mark && stays_true (set assigned x true) h.declared) ≡ b → IsHeld structs assigned h l s
        → IsHeld structs (set assigned x true) (cond b (with_declared h) (lost h)) m (with_local x old (Number z) s)
    dropped_by h true e held =
        let p = both_true (is_settled h.mark) (stays_true (set assigned x true) h.declared) e in
        let mark = settled_is h.mark p.0 in
        let valid = declared_stay h.declared (held.declared mark) p.1 in
        record { valid = valid; known = λ e. alike_known l m alike (held.known e); null = λ e. alike_null l m alike (held.null e); declared = λ e f. valid; start = λ e. one_start h.declared }
    dropped_by h false e held = lost_held structs (set assigned x true) h m (with_local x old (Number z) s) (λ e. alike_known l m alike (held.known e))

    number_named : (h : Held) (b : Bounds) (t : Bool) → h.bounds ≡ Some b → is_named x b ≡ t → IsHeld structs assigned h l s
        → IsHeld structs (set assigned x true) (cond t (dropped (set assigned x true) h) h) m (with_local x old (Number z) s)
    number_named h b true e n held = dropped_by h (is_settled h.mark && stays_true (set assigned x true) h.declared) refl held
    number_named h b false e n held =
        unchanged h (valid_of structs h.bounds (Some b) m (with_local x old (Number z) s) e (unnamed_stays structs s x old there was z b l m alike n (subst (λ o. IsValid structs o l s) e held.valid))) held

    number_by : (h : Held) (o : Option Bounds) → h.bounds ≡ o → IsHeld structs assigned h l s
        → IsHeld structs (set assigned x true) (where_bounds o (is_named x) (λ b. dropped (set assigned x true) h) h) m (with_local x old (Number z) s)
    number_by h None e held = unchanged h (valid_of structs h.bounds None m (with_local x old (Number z) s) e tt) held
    number_by h (Some b) e held = number_named h b (is_named x b) e refl held

    pub number_held : (h : Held) → IsHeld structs assigned h l s → IsHeld structs (set assigned x true) (after_number x (set assigned x true) h) m (with_local x old (Number z) s)
    number_held h held = number_by h h.bounds refl held

  module _ (c : ℤ) (l m : Local) (alike : IsAlike l m) where
    shift_to : (h : Held) (b : Bounds) (o : Option Bounds) → moved_back x c b ≡ o → IsValid structs (Some b) l s → IsHeld structs assigned h l s
        → IsHeld structs (set assigned x true) (moved_to o h) m (with_local x old (Number (was.number +ℤ c)) s)
    shift_to h b None e valid held = lost_held structs (set assigned x true) h m _ (λ e. alike_known l m alike (held.known e))
    shift_to h b (Some d) e valid held =
        moved_held structs (set assigned x true) (Some d) h m _ (shifted_stays structs s x old there was c b d l m alike e valid) (λ e. alike_known l m alike (held.known e))

    shift_named : (h : Held) (b : Bounds) (t : Bool) → h.bounds ≡ Some b → is_named x b ≡ t → IsHeld structs assigned h l s
        → IsHeld structs (set assigned x true) (cond t (moved_to (moved_back x c b) h) h) m (with_local x old (Number (was.number +ℤ c)) s)
    shift_named h b true e n held = shift_to h b (moved_back x c b) refl (subst (λ o. IsValid structs o l s) e held.valid) held
    shift_named h b false e n held = number_named (was.number +ℤ c) l m alike h b false e n held

    shift_by : (h : Held) (o : Option Bounds) → h.bounds ≡ o → IsHeld structs assigned h l s
        → IsHeld structs (set assigned x true) (where_bounds o (is_named x) (λ b. moved_to (moved_back x c b) h) h) m (with_local x old (Number (was.number +ℤ c)) s)
    shift_by h None e held = number_by (was.number +ℤ c) l m alike h None e held
    shift_by h (Some b) e held = shift_named h b (is_named x b) e refl held

    pub shift_held : (h : Held) → IsHeld structs assigned h l s → IsHeld structs (set assigned x true) (after_shift x c h) m (with_local x old (Number (was.number +ℤ c)) s)
    shift_held h held = shift_by h h.bounds refl held

-- ---- p = e

from_settled : (from : Source) → mark_from from ≡ marks.Settled → ⊥
from_settled sources.Null e = null_settled e
from_settled sources.Lost e = changed_settled e
from_settled (sources.Known b) e = changed_settled e

module _ (structs : List Structure) (s : State) (p : ℕ) (old : Local) (v : Value) (there : slice_get s.locals p ≡ Some old) (was : IsPointer old.value) (is : IsPointer v) (assigned : List Bool) where
  -- declared bounds from the base of bounds in force that don't count from p
  other_declared : (l : Local) (o bounds : Option Bounds) → HaveOneStart bounds o → ((b : Bounds) → bounds ≡ Some b → is_var p b.base ≡ false) → IsValid structs o l s → IsValid structs o l (with_local p old v s)
  other_declared l None bounds base n h = tt
  other_declared l (Some d) None base n h = absurd base
  other_declared l (Some d) (Some b) base n h = unbased_stays structs s p old v there was is d l l (alike_here l) (ap (is_var p) (sym base.0) ∙ n b refl) h

  other_unchanged : (l : Local) (h : Held) → ((b : Bounds) → h.bounds ≡ Some b → is_var p b.base ≡ false) → IsValid structs h.bounds l (with_local p old v s) → IsHeld structs assigned h l s
      → IsHeld structs assigned h l (with_local p old v s)
  other_unchanged l h n valid held = record {
    valid = valid;
    known = held.known;
    null = held.null;
    declared = λ e stays. other_declared l h.declared h.bounds (held.start e) n (held.declared e stays);
    start = held.start;
  }

  module _ (moved : Option ℤ) (step : IsMovedBy structs moved old v) (l : Local) where
    based_held : (h : Held) (b : Bounds) (moved : Option ℤ) → IsMovedBy structs moved old v → b.base ≡ Some p → target_size structs old.type ≡ target_size structs l.type → IsValid structs (Some b) l s
        → IsHeld structs assigned h l s → IsHeld structs assigned (moved_to (moved_off moved b) h) l (with_local p old v s)
    based_held h b None step base size valid held = lost_held structs assigned h l _ held.known
    based_held h b (Some c) step base size valid held = by (moved_by (neg_ℤ c) b) refl
      where
        by : (o : Option Bounds) → moved_by (neg_ℤ c) b ≡ o → IsHeld structs assigned (moved_to o h) l (with_local p old v s)
        by None e = lost_held structs assigned h l _ held.known
        by (Some d) e = moved_held structs assigned (Some d) h l _ (based_stays structs s p old v there was is c b d l l (alike_here l) base size e step valid) held.known

    other_named : (h : Held) (b : Bounds) (t : Bool) → h.bounds ≡ Some b → is_var p b.base ≡ t → HasSize structs (types_of s.locals) (target_size structs l.type) h.bounds → IsHeld structs assigned h l s
        → IsHeld structs assigned (cond t (moved_to (moved_off moved b) h) h) l (with_local p old v s)
    other_named h b true e n size held =
        let base = is_this p b.base n in
        let sized : HasSize structs (types_of s.locals) (target_size structs l.type) (Some b) = subst (HasSize structs (types_of s.locals) (target_size structs l.type)) e size in
        based_held h b moved step base (sized p old.type base (type_there s.locals p old there)) (subst (λ o. IsValid structs o l s) e held.valid) held
    other_named h b false e n size held =
        let valid = unbased_stays structs s p old v there was is b l l (alike_here l) n (subst (λ o. IsValid structs o l s) e held.valid) in
        other_unchanged l h (λ c q. ap (λ o. is_based o) (sym q ∙ e) ∙ n) (valid_of structs h.bounds (Some b) l _ e valid) held
      where
        is_based : Option Bounds → Bool
        is_based None = false
        is_based (Some b) = is_var p b.base

    other_by : (h : Held) (o : Option Bounds) → h.bounds ≡ o → HasSize structs (types_of s.locals) (target_size structs l.type) h.bounds → IsHeld structs assigned h l s
        → IsHeld structs assigned (where_bounds o (λ b. is_var p b.base) (λ b. moved_to (moved_off moved b) h) h) l (with_local p old v s)
    other_by h None e size held = other_unchanged l h (λ b q. absurd (let none : None ≡ Some b = sym e ∙ q in cc)) (valid_of structs h.bounds None l _ e tt) held
    other_by h (Some b) e size held = other_named h b (is_var p b.base) e refl size held

    pub other_held : (h : Held) → HasSize structs (types_of s.locals) (target_size structs l.type) h.bounds → IsHeld structs assigned h l s → IsHeld structs assigned (after_base p moved h) l (with_local p old v s)
    other_held h size held = other_by h h.bounds refl size held

  -- p itself
  own_valid : (moved : Option ℤ) (b : Bounds) → IsMovedBy structs moved old v → b.base ≡ Some p → IsValid structs (Some b) (record old { value = v }) s
      → IsValid structs (moved_off moved (record b { base = None })) (record old { value = v }) (with_local p old v s)
  own_valid None b step base valid = tt
  own_valid (Some c) b step base valid = by (moved_by (neg_ℤ c) (record b { base = None })) refl
    where
      by : (o : Option Bounds) → moved_by (neg_ℤ c) (record b { base = None }) ≡ o → IsValid structs o (record old { value = v }) (with_local p old v s)
      by None e = tt
      by (Some d) e = own_stays structs s p old v there was is c b d base e step valid

  known_valid : (moved : Option ℤ) (b : Bounds) (t : Bool) → is_var p b.base ≡ t → IsMovedBy structs moved old v → IsValid structs (Some b) (record old { value = v }) s
      → IsValid structs (cond t (moved_off moved (record b { base = None })) (Some b)) (record old { value = v }) (with_local p old v s)
  known_valid moved b true e step valid = own_valid moved b step (is_this p b.base e) valid
  known_valid moved b false e step valid = unbased_stays structs s p old v there was is b (record old { value = v }) (record old { value = v }) (alike_here (record old { value = v })) e valid

  from_valid : (from : Source) (moved : Option ℤ) → IsGiven structs from (record old { value = v }) s → IsMovedBy structs moved old v
      → IsValid structs (bounds_from p moved from) (record old { value = v }) (with_local p old v s)
  from_valid sources.Null moved given step = tt
  from_valid sources.Lost moved given step = tt
  from_valid (sources.Known b) moved given step = known_valid moved b (is_var p b.base) refl step given.0

  from_null : (from : Source) → IsGiven structs from (record old { value = v }) s → mark_from from ≡ marks.WasNull → v ≡ Null
  from_null sources.Null given e = given
  from_null sources.Lost given e = absurd (changed_null e)
  from_null (sources.Known b) given e = absurd (changed_null e)

  pub assigned_held : (from : Source) (moved : Option ℤ) (not_null : Bool) (h : Held) → IsGiven structs from (record old { value = v }) s → IsMovedBy structs moved old v → (not_null ≡ true → v ≢ Null)
      → IsHeld structs assigned (assigned_from p from moved not_null h) (record old { value = v }) (with_local p old v s)
  assigned_held from moved not_null h given step known = record {
    valid = from_valid from moved given step;
    known = known;
    null = from_null from given;
    declared = λ e f. absurd (from_settled from e);
    start = λ e. absurd (from_settled from e);
  }
