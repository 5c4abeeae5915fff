-- Tests, ways that part and meet, loops, the ends of scopes, and settlings keep what a flow says of a state.
use Rattle.std.proofs.Common.{ℕ, zero, suc, ◌<◌, ◌≡◌, ◌≢◌, ℤ, pos, ◌+ℤ◌, ◌≤ℤ◌, Bool, true, false, not, cond, ◌==◌, Option, None, Some, List, [], ◌∷◌, length, map, fold, set, get_or, refl, sym, ap, ◌∙◌, subst, arith, inl, inr}
use Rattle.std.specs.Prelude.{slice_get, ◌&&◌, int_le, int_lt}
use Rattle.std.specs.List.{All}
use Rattle.std.specs.Ordering.{int_eq}
use Rattle.std.proofs.lemmas.Int.{ints}
use Rattle.std.proofs.lemmas.Bool.{and_from, cases_eq, cases_lt}
use Rattle.std.proofs.lemmas.Bool.Decides.{Decides-int_eq, nat_tests}
use Rattle.std.proofs.lemmas.List.{get_or-set_other, get_or_past}
use Rattle.std.proofs.lemmas.List.Elements.{All-head, All-tail}
use Rattle.bounds_exprs.specs.declared.term.Term.{Term}
use Rattle.bounds_exprs.specs.declared.term.Bounds.{Bounds}
use Rattle.bounds_exprs.specs.Normal.{is_same}
use Rattle.subsumption.specs.Facts.{IsBelow, TermsHold, term_value as value}
use Rattle.subsumption.specs.ClosedTables.{ClosedTable, entails_terms, without}
use Rattle.subsumption.specs.TableLaws.{IsTable, MeetsTable}
use Rattle.subsumption.proofs.TableSteps.{give_tables}
use Rattle.pointer_modes.specs.Types.{CType, Structure}
use Rattle.bounds_flow.specs.declared.held.Held.{Held}
use Rattle.bounds_flow.specs.declared.held.Mark.{Mark}
use Rattle.bounds_flow.specs.declared.held.Mark.TheVariants as marks
use Rattle.bounds_flow.specs.declared.changes.Change.TheVariants.{Leave, Settle}
use Rattle.bounds_flow.specs.declared.steps.How.{How}
use Rattle.bounds_flow.specs.declared.steps.How.TheVariants.{Lt, Le, Gt, Ge, Eq, Ne}
use Rattle.bounds_flow.specs.declared.steps.Test.{Test}
use Rattle.bounds_flow.specs.declared.steps.Test.TheVariants.{NotNull, Compare}
use Rattle.bounds_flow.specs.Pointers.{after_leaving, is_settled, joined_with, known_not_null, maybe_null, no_pointer, same_bounds, same_term, settled_pointer, speaks_of, stays_true, where_bounds, with_declared}
use Rattle.bounds_flow.specs.Flows.{Knowledge, held_at, change_at, assumed, at_head, joined_held, left, met, opposite, settled, with_comparison}
use Rattle.bounds_flow.specs.Settling.{Asked, Finding, Meets, WasLost, Falls, MeetBelow, bounds_find, declared_finds, ends_find, finding, mark_finds}
use Rattle.bounds_flow.specs.Conditions.{AreEndsBelow, AreBoundsBelow, IsFlow, IsTestWithin}
use Rattle.bounds_flow.proofs.Variables.{held_below}
use Rattle.ckc_core.specs.States.{Null, Local, State}
use Rattle.bounds_flow_meaning.specs.Holding.{AreDeclared, AreFormed, AreHeld, AreInts, Fits, HasSize, HaveOneStart, Holds, IsSettled, IsFormed, IsHeld, IsMet, IsValid, NameInts, number_held, numbers_in, target_size, types_of}
use Rattle.bounds_flow_meaning.specs.Laws.{AreBeside, AreTested, CameOut, ChangesOnly, Compared, CutsAreNotReached, IsAmong, compares}
use Rattle.bounds_flow_meaning.proofs.Numbers.{other_number, same_number, term_number, type_there}
use Rattle.bounds_flow_meaning.proofs.Validity.{both_true, int_from, narrower_valid, null_valid}
use Rattle.bounds_flow_meaning.proofs.Facts.{met_entails, met_equal, met_first, met_order, met_same, met_second, met_without, unmet}
use Rattle.bounds_flow_meaning.proofs.Formed.{joined_formed, none_formed}
use Rattle.bounds_flow_meaning.proofs.Pointers.{none_held, one_start, settled_is, settled_null, valid_of}
use Rattle.bounds_flow_meaning.proofs.Steps.{each_map, each_set, formed_map, formed_set}

pub cuts_not_reached : CutsAreNotReached
cuts_not_reached structs f s h = unmet f.vars (numbers_in s.locals) h.met.facts

-- ---- comparisons

lt_of : (a b : ℤ) → int_lt a b ≡ true → (a +ℤ pos 1) ≤ℤ b
lt_of a b h = grind (arith, ints)

not_lt : (a b : ℤ) → int_lt a b ≡ false → int_le b a ≡ true
not_lt a b h = grind (arith, ints)

not_le : (a b : ℤ) → int_le a b ≡ false → int_lt b a ≡ true
not_le a b h = grind (arith, ints)

not_true : (b : Bool) → not b ≡ false → b ≡ true
not_true true h = refl
not_true false h = absurd (cc)

-- what didn't come out so came out the opposite
came : (how : How) (truth : Bool) (a b : ℤ) → compares how a b ≡ truth → compares (cond truth how (opposite how)) a b ≡ true
came how true a b h = h
came Lt false a b h = not_lt a b h
came Le false a b h = not_le a b h
came Gt false a b h = not_lt b a h
came Ge false a b h = not_le b a h
came Eq false a b h = ap not h
came Ne false a b h = not_true (int_le a b && int_le b a) h

comparison_met : (vars : ℕ) (how : How) (a b : Term) (t : ClosedTable) (v : ℕ → ℤ) → IsTable vars t → IsBelow vars a.var → IsBelow vars b.var → compares how (value v a) (value v b) ≡ true
    → MeetsTable vars v t → MeetsTable vars v (with_comparison vars how a b t)
comparison_met vars Lt a b t v is l r h m = (let le = lt_of (value v a) (value v b) h in met_order vars t _ b v is l r (omega (arith, ints, le)) m)
comparison_met vars Le a b t v is l r h m = met_order vars t a b v is l r (int_from (value v a) (value v b) h) m
comparison_met vars Gt a b t v is l r h m = (let le = lt_of (value v b) (value v a) h in met_order vars t _ a v is r l (omega (arith, ints, le)) m)
comparison_met vars Ge a b t v is l r h m = met_order vars t b a v is r l (int_from (value v b) (value v a) h) m
comparison_met vars Eq a b t v is l r h m =
    let both = both_true (int_le (value v a) (value v b)) (int_le (value v b) (value v a)) h in
    let le = int_from (value v a) (value v b) both.0 in
    let ge = int_from (value v b) (value v a) both.1 in
    met_equal vars t a b v is l r (omega (arith, ints, le, ge)) m
comparison_met vars Ne a b t v is l r h m = m

-- ---- tests

module _ (structs : List Structure) (f : Knowledge) (flow : IsFlow f) (s : State) where
  compared_met : (how : How) (a b : Term) (truth : Bool) → IsTestWithin f.vars (Compare how a b) → Compared how a b truth s.locals → IsMet structs f s → IsMet structs (assumed (Compare how a b) truth f) s
  compared_met how a b truth within c h =
      let v = numbers_in s.locals in
      let first : value v a ≡ c.first = term_number s.locals a c.first c.at_left in
      let second : value v b ≡ c.second = term_number s.locals b c.second c.at_right in
      let so : compares (cond truth how (opposite how)) (value v a) (value v b) ≡ true =
      ap (compares (cond truth how (opposite how)) (value v a)) second ∙ (ap (λ z. compares (cond truth how (opposite how)) z c.second) first ∙ came how truth c.first c.second c.came) in
      record { types = h.types; facts = comparison_met f.vars (cond truth how (opposite how)) a b f.facts v flow.facts within.0.var within.1.var so h.facts; formed = h.formed }

  known_formed : (p : ℕ) → AreFormed structs (types_of s.locals) f.held → AreFormed structs (types_of s.locals) (change_at p known_not_null f.held)
  known_formed p formed = formed_set structs (types_of s.locals) f.held p (known_not_null (held_at f.held p)) (λ t e. let h = formed p t e in record { ints = h.ints; declared = h.declared; bounds = h.bounds }) formed

  known_held : (p : ℕ) → ((l : Local) → slice_get s.locals p ≡ Some l → l.value ≢ Null) → AreHeld structs f.assigned f.held s → AreHeld structs f.assigned (change_at p known_not_null f.held) s
  known_held p there held = each_set (λ q h. (l : Local) → slice_get s.locals q ≡ Some l → IsHeld structs f.assigned h l s) f.held p (known_not_null (held_at f.held p))
      (λ l e. let h = held p l e in record { valid = h.valid; known = λ q. there l e; null = h.null; declared = h.declared; start = h.start })
      (λ l e. none_held structs f.assigned l s) (λ q ne l e. held q l e)

  pub assume_holds : (test : Test) (truth : Bool) → IsTestWithin f.vars test → CameOut test truth s → Holds structs f s → Holds structs (assumed test truth f) s
  assume_holds (NotNull p) true within out h = record { met = record { types = h.met.types; facts = h.met.facts; formed = known_formed p h.met.formed }; pointers = known_held p out h.pointers }
  assume_holds (NotNull p) false within out h = h
  assume_holds (Compare how a b) truth within out h = record { met = compared_met how a b truth within out h.met; pointers = h.pointers }

  pub assume_fits : (test : Test) (truth : Bool) → IsTestWithin f.vars test → CameOut test truth s → Fits structs f s → Fits structs (assumed test truth f) s
  assume_fits (NotNull p) true within out h = record {
    holds = assume_holds (NotNull p) true within out h.holds;
    settled = λ apart. (
        let settled = h.settled apart in
        record {
          marks = each_set (λ q h. h.mark ≡ marks.Settled) f.held p (known_not_null (held_at f.held p)) (settled.marks p) refl (λ q ne. settled.marks q);
          assigned = settled.assigned;
          apart = apart;
        });
    declared = λ apart. each_set (λ q h. (l : Local) → slice_get s.locals q ≡ Some l → IsValid structs h.declared l s) f.held p (known_not_null (held_at f.held p)) (h.declared apart p) (λ l e. tt) (λ q ne. h.declared apart q);
  }
  assume_fits (NotNull p) false within out h = h
  assume_fits (Compare how a b) truth within out h = record { holds = assume_holds (Compare how a b) truth within out h.holds; settled = λ apart. record { marks = (h.settled apart).marks; assigned = (h.settled apart).assigned; apart = apart }; declared = h.declared }

-- ---- the end of a scope

leaving_by : (P : Held → Type 0) (h : Held) (o : Option Bounds) (x : ℕ) → P h → P (with_declared h) → P (where_bounds o (speaks_of x) (λ b. with_declared h) h)
leaving_by P h None x here there = here
leaving_by P h (Some b) x here there = elim (speaks_of x b) as (λ t. P (cond t (with_declared h) h)) [ true ↦ there | false ↦ here ]

-- what is so of a pointer and of it with its declared bounds is so after another one left its scope
pub leaving : (P : Held → Type 0) (h : Held) (x : ℕ) → P h → P (with_declared h) → P (after_leaving x h)
leaving P h x here there = leaving_by P h h.bounds x here there

pub false_set : (xs : List Bool) (x y : ℕ) → get_or xs y false ≡ false → get_or (set xs x false) y false ≡ false
false_set [] x y h = refl
false_set (b ∷ xs) zero zero h = refl
false_set (b ∷ xs) zero (suc y) h = h
false_set (b ∷ xs) (suc x) zero h = h
false_set (b ∷ xs) (suc x) (suc y) h = false_set xs x y h

-- a pointer that is valid with its declared bounds, whatever was assigned
held_again : (structs : List Structure) (assigned since : List Bool) (h : Held) (l : Local) (s : State) → IsValid structs h.declared l s → IsHeld structs assigned h l s → IsHeld structs since h l s
held_again structs assigned since h l s declared held = record { valid = held.valid; known = held.known; null = held.null; declared = λ e f. declared; start = held.start }

held_declared : (structs : List Structure) (assigned since : List Bool) (h : Held) (l : Local) (s : State) → IsValid structs h.declared l s → IsHeld structs assigned h l s → IsHeld structs since (with_declared h) l s
held_declared structs assigned since h l s declared held = record { valid = declared; known = held.known; null = held.null; declared = λ e f. declared; start = λ e. one_start h.declared }

module _ (structs : List Structure) (f : Knowledge) (flow : IsFlow f) (s : State) (x : ℕ) where
  pub leave_fits : x < f.vars → IsSettled f → Fits structs f s → Fits structs (left x f) s
  leave_fits lt settled h = record {
    holds = record {
      met = record {
        types = h.holds.met.types;
        facts = met_without f.vars f.facts x (numbers_in s.locals) (numbers_in s.locals) flow.facts lt (λ y ne. refl) h.holds.met.facts;
        formed = formed_set structs (types_of s.locals) (map (after_leaving x) f.held) x no_pointer (λ t e. none_formed structs (types_of s.locals) (target_size structs t))
            (formed_map structs (types_of s.locals) f.held f.assigned (Leave x) h.holds.met.formed);
      };
      pointers = every (λ q k. (l : Local) → slice_get s.locals q ≡ Some l → IsHeld structs (set f.assigned x false) k l s) (λ l e. none_held structs (set f.assigned x false) l s)
          (λ q. leaving (λ k. (l : Local) → slice_get s.locals q ≡ Some l → IsHeld structs (set f.assigned x false) k l s) (held_at f.held q) x
          (λ l e. held_again structs f.assigned (set f.assigned x false) (held_at f.held q) l s (h.declared settled.apart q l e) (h.holds.pointers q l e))
          (λ l e. held_declared structs f.assigned (set f.assigned x false) (held_at f.held q) l s (h.declared settled.apart q l e) (h.holds.pointers q l e)));
    };
    settled = λ apart. record {
      marks = every (λ q k. k.mark ≡ marks.Settled) refl (λ q. leaving (λ k. k.mark ≡ marks.Settled) (held_at f.held q) x (settled.marks q) (settled.marks q));
      assigned = λ y. false_set f.assigned x y (settled.assigned y);
      apart = apart;
    };
    declared = λ apart. every (λ q k. (l : Local) → slice_get s.locals q ≡ Some l → IsValid structs k.declared l s) (λ l e. tt)
        (λ q. leaving (λ k. (l : Local) → slice_get s.locals q ≡ Some l → IsValid structs k.declared l s) (held_at f.held q) x (h.declared apart q) (h.declared apart q));
  }
    where
      every : (P : ℕ → Held → Type 0) → P x no_pointer → ((q : ℕ) → P q (after_leaving x (held_at f.held q))) → (q : ℕ) → P q (held_at (set (map (after_leaving x) f.held) x no_pointer) q)
      every P none each = each_set P (map (after_leaving x) f.held) x no_pointer none none (λ q ne. each_map P (after_leaving x) refl f.held each q)

-- ---- the same bounds

option_same : (a b : Option ℕ) → is_same a b ≡ true → a ≡ b
option_same None None h = refl
option_same None (Some y) h = absurd (cc)
option_same (Some x) None h = absurd (cc)
option_same (Some x) (Some y) h = ap Some (same_number x y h)

option_self : (a : Option ℕ) → is_same a a ≡ true
option_self None = refl
option_self (Some x) = grind (arith, nat_tests)

term_same : (a b : Term) → same_term a b ≡ true → a ≡ b
term_same a b h =
    let p = both_true (is_same a.var b.var) (int_eq a.plus b.plus) h in
    let mk : Option ℕ → ℤ → Term = λ v c. record { var = v; plus = c } in
    ap (λ v. mk v a.plus) (option_same a.var b.var p.0) ∙ ap (mk b.var) ((Decides-int_eq a.plus b.plus).0 p.1)

term_self : (t : Term) → same_term t t ≡ true
term_self t = and_from (is_same t.var t.var) (int_eq t.plus t.plus) (option_self t.var) ((Decides-int_eq t.plus t.plus).1 refl)

pub bounds_same : (a b : Option Bounds) → same_bounds a b ≡ true → a ≡ b
bounds_same None None h = refl
bounds_same None (Some b) h = absurd (cc)
bounds_same (Some a) None h = absurd (cc)
bounds_same (Some a) (Some b) h =
    let p = both_true (is_same a.base b.base) (same_term a.lo b.lo && same_term a.hi b.hi) h in
    let q = both_true (same_term a.lo b.lo) (same_term a.hi b.hi) p.1 in
    let mk : Option ℕ → Term → Term → Option Bounds = λ v l h. Some (record { base = v; lo = l; hi = h }) in
    ap (λ v. mk v a.lo a.hi) (option_same a.base b.base p.0) ∙ (ap (λ l. mk b.base l a.hi) (term_same a.lo b.lo q.0) ∙ ap (mk b.base b.lo) (term_same a.hi b.hi q.1))

pub bounds_self : (o : Option Bounds) → same_bounds o o ≡ true
bounds_self None = refl
bounds_self (Some b) =
    and_from (is_same b.base b.base) (same_term b.lo b.lo && same_term b.hi b.hi) (option_self b.base) (and_from (same_term b.lo b.lo) (same_term b.hi b.hi) (term_self b.lo) (term_self b.hi))

-- ---- settlings

both_meet : (p q : Bool) (a b : Finding) → (a ≡ Meets → ⊥) → (b ≡ Meets → ⊥) → cond p (cond q Meets a) b ≡ Meets → (p ≡ true) × (q ≡ true)
both_meet true true a b na nb h = (refl, refl)
both_meet true false a b na nb h = absurd (na h)
both_meet false q a b na nb h = absurd (nb h)

falls_not : (o : Option Asked) → Falls o ≡ Meets → ⊥
falls_not o h = cc

lost_not : WasLost ≡ Meets → ⊥
lost_not h = cc

module _ (structs : List Structure) (f : Knowledge) (flow : IsFlow f) (s : State) (meets : IsMet structs f s) where
  pub entail_holds : (a b : Term) → IsBelow f.vars a.var → IsBelow f.vars b.var → entails_terms a b f.facts ≡ true → TermsHold (numbers_in s.locals) a b
  entail_holds a b l r e = met_entails f.vars f.facts a b (numbers_in s.locals) flow.facts l r e meets.facts

  pub narrow_valid : (b asked : Bounds) (l : Local) → AreEndsBelow f.vars b → AreEndsBelow f.vars asked → AreInts (types_of s.locals) asked → asked.base ≡ b.base → ends_find f.facts asked b ≡ Meets
      → IsValid structs (Some b) l s → IsValid structs (Some asked) l s
  narrow_valid b asked l below asked_below is base found valid =
      let p = both_meet (entails_terms b.lo asked.lo f.facts) (entails_terms asked.hi b.hi f.facts) _ _ (falls_not _) (falls_not _) found in
      narrower_valid structs b asked l s meets.types is base (entail_holds b.lo asked.lo below.lo asked_below.lo p.0) (entail_holds asked.hi b.hi asked_below.hi below.hi p.1) valid

  module _ (h : Held) (l : Local) (held : IsHeld structs f.assigned h l s) where
    based_by : (d b : Bounds) (t : Bool) → is_same d.base b.base ≡ t → AreEndsBelow f.vars d → AreEndsBelow f.vars b → AreInts (types_of s.locals) d → IsValid structs (Some b) l s
        → cond t (ends_find f.facts d b) (Falls None) ≡ Meets → IsValid structs (Some d) l s
    based_by d b true e db bb is valid found = narrow_valid b d l bb db is (option_same d.base b.base e) found valid
    based_by d b false e db bb is valid found = absurd (falls_not None found)

    bounds_by : (d : Bounds) (o : Option Bounds) → h.bounds ≡ o → AreEndsBelow f.vars d → AreBoundsBelow f.vars h.bounds → AreInts (types_of s.locals) d → bounds_find f.facts d o ≡ Meets → IsValid structs (Some d) l s
    bounds_by d None e db bb is found = absurd (falls_not None found)
    bounds_by d (Some b) e db bb is found =
        based_by d b (is_same d.base b.base) refl db (subst (AreBoundsBelow f.vars) e bb) is (subst (λ o. IsValid structs o l s) e held.valid) found

    mark_by : (d : Bounds) (m : Mark) → h.mark ≡ m → AreEndsBelow f.vars d → AreBoundsBelow f.vars h.bounds → AreInts (types_of s.locals) d → mark_finds f.facts d h.bounds m ≡ Meets → IsValid structs (Some d) l s
    mark_by d marks.Settled e db bb is found = bounds_by d h.bounds refl db bb is found
    mark_by d marks.Changed e db bb is found = bounds_by d h.bounds refl db bb is found
    mark_by d marks.Lost e db bb is found = absurd (lost_not found)
    mark_by d marks.WasNull e db bb is found = null_valid structs (Some d) l s (held.null e)

    declared_by : (o : Option Bounds) → AreBoundsBelow f.vars o → AreBoundsBelow f.vars h.bounds → NameInts (types_of s.locals) o → declared_finds f.facts h o ≡ Meets → IsValid structs o l s
    declared_by None db bb is found = tt
    declared_by (Some d) db bb is found = mark_by d h.mark refl db bb is found

    settled_by : (t : Bool) → is_settled h.mark ≡ t → IsValid structs h.declared l s → IsHeld structs (map (λ was. false) f.assigned) (record h { bounds = cond t h.bounds h.declared; mark = marks.Settled }) l s
    settled_by true e valid = record { valid = held.valid; known = held.known; null = λ q. absurd (settled_null q); declared = λ q r. valid; start = λ q. held.start (settled_is h.mark e) }
    settled_by false e valid = record { valid = valid; known = held.known; null = λ q. absurd (settled_null q); declared = λ q r. valid; start = λ q. one_start h.declared }

pub none_assigned : (xs : List Bool) (x : ℕ) → get_or (map (λ was. false) xs) x false ≡ false
none_assigned [] x = refl
none_assigned (b ∷ xs) zero = refl
none_assigned (b ∷ xs) (suc x) = none_assigned xs x

module _ (structs : List Structure) (f : Knowledge) (flow : IsFlow f) (s : State) where
  pub settle_fits : MeetBelow f.facts f.held (length f.held) → Holds structs f s → Fits structs (settled f) s
  settle_fits found h = record {
    holds = record {
      met = record { types = h.met.types; facts = h.met.facts; formed = formed_map structs (types_of s.locals) f.held f.assigned Settle h.met.formed };
      pointers = each_map (λ q k. (l : Local) → slice_get s.locals q ≡ Some l → IsHeld structs (map (λ was. false) f.assigned) k l s) settled_pointer refl f.held
          (λ q l e. settled_by structs f flow s h.met (held_at f.held q) l (h.pointers q l e) (is_settled (held_at f.held q).mark) refl (valid q l e));
    };
    settled = λ _. record { marks = each_map (λ q k. k.mark ≡ marks.Settled) settled_pointer refl f.held (λ q. refl); assigned = none_assigned f.assigned; apart = refl };
    declared = λ _. each_map (λ q k. (l : Local) → slice_get s.locals q ≡ Some l → IsValid structs k.declared l s) settled_pointer refl f.held valid;
  }
    where
      found_at : (q : ℕ) → finding f.facts (held_at f.held q) ≡ Meets
      found_at q = elim (cases_lt q (length f.held)) [
        | inl lt ↦ found q lt
        | inr ge ↦ ap (finding f.facts) (get_or_past f.held q no_pointer ge)
      ]

      valid : (q : ℕ) (l : Local) → slice_get s.locals q ≡ Some l → IsValid structs (held_at f.held q).declared l s
      valid q l e =
          let below = held_below f.vars f.held q flow.variables.below in
          declared_by structs f flow s h.met (held_at f.held q) l (h.pointers q l e) (held_at f.held q).declared below.declared below.bounds (h.met.formed q l.type (type_there s.locals q l e)).ints (found_at q)

-- ---- ways that meet

-- a pointer whose bounds in force fell back on the declared ones, or didn't, and of which so much is known
abbrev fallen : Bool → Bool → Held → Held
fallen t known h = record h { bounds = cond t h.bounds h.declared; known = known }

-- a join of pointers, seen from the second way
joined_second : (h k : Held) → k.declared ≡ h.declared → k.mark ≡ h.mark → joined_with h k ≡ fallen (same_bounds h.bounds k.bounds) (h.known && k.known) k
joined_second h k declared mark =
    let t = same_bounds h.bounds k.bounds in
    let known = h.known && k.known in
    let mk : Option Bounds → Option Bounds → Mark → Held = λ d b m. record { declared = d; bounds = b; known = known; mark = m } in
    ap (λ d. mk d (cond t h.bounds h.declared) h.mark) (sym declared)
    ∙ (ap (λ b. mk k.declared b h.mark) (by t refl) ∙ ap (mk k.declared (cond t k.bounds k.declared)) (sym mark))
  where
    by : (t : Bool) → same_bounds h.bounds k.bounds ≡ t → cond t h.bounds h.declared ≡ cond t k.bounds k.declared
    by true e = bounds_same h.bounds k.bounds e
    by false e = sym declared

module _ (structs : List Structure) (assigned since : List Bool) (h : Held) (l : Local) (s : State) (known : Bool) (knows : known ≡ true → h.known ≡ true) (held : IsHeld structs assigned h l s) where
  fallen_held : (t : Bool) → IsValid structs h.declared l s → IsHeld structs since (fallen t known h) l s
  fallen_held true valid = record { valid = held.valid; known = λ e. held.known (knows e); null = held.null; declared = λ e f. valid; start = held.start }
  fallen_held false valid = record { valid = valid; known = λ e. held.known (knows e); null = held.null; declared = λ e f. valid; start = λ e. one_start h.declared }

  kept_held : (t : Bool) → t ≡ true → since ≡ assigned → IsHeld structs since (fallen t known h) l s
  kept_held true e same = record {
    valid = held.valid;
    known = λ e. held.known (knows e);
    null = held.null;
    start = held.start;
    declared = λ e f. held.declared e (sym (ap (λ a. stays_true a h.declared) same) ∙ f);
  }
  kept_held false e same = absurd (cc)

fallen_formed : (structs : List Structure) (types : List CType) (size : ℕ) (h : Held) (t known : Bool) → IsFormed structs types size h → IsFormed structs types size (fallen t known h)
fallen_formed structs types size h true known is = record { ints = is.ints; declared = is.declared; bounds = is.bounds }
fallen_formed structs types size h false known is = record { ints = is.ints; declared = is.declared; bounds = is.declared }

pub joined_at : (held others : List Held) → length held ≡ length others → (p : ℕ) → held_at (joined_held held others) p ≡ joined_with (held_at held p) (held_at others p)
joined_at [] [] e p = refl
joined_at [] (k ∷ others) e p = absurd (omega (arith, e))
joined_at (h ∷ held) [] e p = absurd (omega (arith, e))
joined_at (h ∷ held) (k ∷ others) e zero = refl
joined_at (h ∷ held) (k ∷ others) e (suc p) = joined_at held others (omega (arith, e)) p

module _ (structs : List Structure) (f g : Knowledge) (flow : IsFlow f) (other : IsFlow g) (vars : g.vars ≡ f.vars) (s : State) where
  same_length : length f.held ≡ length g.held
  same_length = flow.variables.pointers ∙ sym (other.variables.pointers ∙ vars)

  other_table : IsTable f.vars g.facts
  other_table = subst (λ n. IsTable n g.facts) vars other.facts

  each_first : (P : ℕ → Held → Type 0) → ((q : ℕ) → P q (joined_with (held_at f.held q) (held_at g.held q))) → (q : ℕ) → P q (held_at (joined_held f.held g.held) q)
  each_first P each q = subst (P q) (sym (joined_at f.held g.held same_length q)) (each q)

  abbrev test_at : ℕ → Bool
  test_at q = same_bounds (held_at f.held q).bounds (held_at g.held q).bounds

  abbrev known_at : ℕ → Bool
  known_at q = (held_at f.held q).known && (held_at g.held q).known

  each_second : (P : ℕ → Held → Type 0) → ((p : ℕ) → (held_at g.held p).declared ≡ (held_at f.held p).declared) → ((p : ℕ) → (held_at g.held p).mark ≡ (held_at f.held p).mark)
      → ((q : ℕ) → P q (fallen (test_at q) (known_at q) (held_at g.held q))) → (q : ℕ) → P q (held_at (joined_held f.held g.held) q)
  each_second P declared mark each =
      each_first P (λ q. subst (P q) (sym (joined_second (held_at f.held q) (held_at g.held q) (declared q) (mark q))) (each q))

  first_met : IsMet structs f s → IsMet structs (met f g) s
  first_met h = record {
    types = h.types;
    facts = met_first f.vars f.facts g.facts (numbers_in s.locals) flow.facts other_table h.facts;
    formed = each_first (λ q k. (t : CType) → slice_get (types_of s.locals) q ≡ Some t → IsFormed structs (types_of s.locals) (target_size structs t) k)
        (λ q t e. joined_formed structs (types_of s.locals) (target_size structs t) (held_at f.held q) (held_at g.held q) (h.formed q t e));
  }

  second_met : ((p : ℕ) → (held_at g.held p).declared ≡ (held_at f.held p).declared) → ((p : ℕ) → (held_at g.held p).mark ≡ (held_at f.held p).mark) → IsMet structs g s → IsMet structs (met f g) s
  second_met declared mark h = record {
    types = h.types;
    facts = met_second f.vars f.facts g.facts (numbers_in s.locals) flow.facts other_table (subst (λ n. MeetsTable n (numbers_in s.locals) g.facts) vars h.facts);
    formed = each_second (λ q k. (t : CType) → slice_get (types_of s.locals) q ≡ Some t → IsFormed structs (types_of s.locals) (target_size structs t) k) declared mark
        (λ q t e. fallen_formed structs (types_of s.locals) (target_size structs t) (held_at g.held q) (test_at q) (known_at q) (h.formed q t e));
  }

  knows_first : (q : ℕ) → known_at q ≡ true → (held_at f.held q).known ≡ true
  knows_first q e = (both_true (held_at f.held q).known (held_at g.held q).known e).0

  knows_second : (q : ℕ) → known_at q ≡ true → (held_at g.held q).known ≡ true
  knows_second q e = (both_true (held_at f.held q).known (held_at g.held q).known e).1

  pub first_fits : IsSettled f → Fits structs f s → Fits structs (met f g) s
  first_fits settled h = record {
    holds = record {
      met = first_met h.holds.met;
      pointers = each_first (λ q k. (l : Local) → slice_get s.locals q ≡ Some l → IsHeld structs f.assigned k l s)
          (λ q l e. fallen_held structs f.assigned f.assigned (held_at f.held q) l s (known_at q) (knows_first q) (h.holds.pointers q l e) (test_at q) (h.declared settled.apart q l e));
    };
    settled = λ apart. record { marks = each_first (λ q k. k.mark ≡ marks.Settled) settled.marks; assigned = settled.assigned; apart = apart };
    declared = λ apart. each_first (λ q k. (l : Local) → slice_get s.locals q ≡ Some l → IsValid structs k.declared l s) (h.declared apart);
  }

  pub second_fits : AreBeside f g → IsSettled f → IsSettled g → Fits structs g s → Fits structs (met f g) s
  second_fits beside settled other_settled h = record {
    holds = record {
      met = second_met beside.declared mark h.holds.met;
      pointers = each_second (λ q k. (l : Local) → slice_get s.locals q ≡ Some l → IsHeld structs f.assigned k l s) beside.declared mark
          (λ q l e. fallen_held structs g.assigned f.assigned (held_at g.held q) l s (known_at q) (knows_second q) (h.holds.pointers q l e) (test_at q) (h.declared other_settled.apart q l e));
    };
    settled = λ apart. record { marks = each_first (λ q k. k.mark ≡ marks.Settled) settled.marks; assigned = settled.assigned; apart = apart };
    declared = λ _. each_second (λ q k. (l : Local) → slice_get s.locals q ≡ Some l → IsValid structs k.declared l s) beside.declared mark (h.declared other_settled.apart);
  }
    where
      mark : (p : ℕ) → (held_at g.held p).mark ≡ (held_at f.held p).mark
      mark p = other_settled.marks p ∙ sym (settled.marks p)

  module _ (tested : AreTested f g) where
    alike_at : (q : ℕ) → test_at q ≡ true
    alike_at q = ap (same_bounds (held_at f.held q).bounds) (tested.bounds q) ∙ bounds_self (held_at f.held q).bounds

    pub first_holds : Holds structs f s → Holds structs (met f g) s
    first_holds h = record {
      met = first_met h.met;
      pointers = each_first (λ q k. (l : Local) → slice_get s.locals q ≡ Some l → IsHeld structs f.assigned k l s)
          (λ q l e. kept_held structs f.assigned f.assigned (held_at f.held q) l s (known_at q) (knows_first q) (h.pointers q l e) (test_at q) (alike_at q) refl);
    }

    pub second_holds : Holds structs g s → Holds structs (met f g) s
    second_holds h = record {
      met = second_met tested.declared tested.marks h.met;
      pointers = each_second (λ q k. (l : Local) → slice_get s.locals q ≡ Some l → IsHeld structs f.assigned k l s) tested.declared tested.marks
          (λ q l e. kept_held structs g.assigned f.assigned (held_at g.held q) l s (known_at q) (knows_second q) (h.pointers q l e) (test_at q) (alike_at q) (sym tested.assigned));
    }

-- ---- loops

among_not : (x : ℕ) (xs : List ℕ) (y : ℕ) → (y == x) ≡ false → (IsAmong xs y → ⊥) → IsAmong (x ∷ xs) y → ⊥
among_not x xs y e not (inl same) = other_number y x e (sym same)
among_not x xs y e not (inr more) = not more

killed_met : (vars : ℕ) (xs : List ℕ) (t : ClosedTable) (v w : ℕ → ℤ) → All (λ x. x < vars) xs → IsTable vars t → ((y : ℕ) → (IsAmong xs y → ⊥) → w y ≡ v y) → MeetsTable vars v t
    → MeetsTable vars w (fold (λ t x. without vars x t) t xs)
killed_met vars [] t v w below is same m = met_same vars t v w (λ y. same y (λ e. e)) m
killed_met vars (x ∷ xs) t v w below is same m =
    killed_met vars xs (without vars x t) u w (All-tail (λ x. x < vars) x xs below) ((give_tables vars).kill t x is) (λ y not. now y not (y == x) refl)
    (met_without vars t x v u is (All-head (λ x. x < vars) x xs below) (λ y ne. then_other y (y == x) refl ne) m)
  where
    u : ℕ → ℤ
    u y = cond (y == x) (w x) (v y)

    then_other : (y : ℕ) (b : Bool) → (y == x) ≡ b → y ≢ x → cond b (w x) (v y) ≡ v y
    then_other y true e ne = absurd (ne (same_number y x e))
    then_other y false e ne = refl

    now : (y : ℕ) → (IsAmong xs y → ⊥) → (b : Bool) → (y == x) ≡ b → w y ≡ cond b (w x) (v y)
    now y not true e = ap w (same_number y x e)
    now y not false e = same y (among_not x xs y e not)

-- a pointer at the head of a loop that assigns these variables
record IsForgotten (changed : List ℕ) (p : ℕ) (h k : Held) : Type 0 where
  pub declared : k.declared ≡ h.declared
  pub bounds : k.bounds ≡ h.bounds
  pub mark : k.mark ≡ h.mark
  pub known : k.known ≡ true → (h.known ≡ true) × (IsAmong changed p → ⊥)

changed_here : (held : List Held) (x : ℕ) → held_at (change_at x maybe_null held) x ≡ maybe_null (held_at held x)
changed_here [] x = refl
changed_here (h ∷ held) zero = refl
changed_here (h ∷ held) (suc x) = changed_here held x

forgotten_more : (x : ℕ) (xs : List ℕ) (held : List Held) (p : ℕ) (k : Held) → IsForgotten xs p (held_at (change_at x maybe_null held) p) k → IsForgotten (x ∷ xs) p (held_at held p) k
forgotten_more x xs held p k r = elim (cases_eq p x) [
  | inl same ↦ (
      let here : held_at (change_at x maybe_null held) p ≡ maybe_null (held_at held p) = subst (λ p. held_at (change_at x maybe_null held) p ≡ maybe_null (held_at held p)) (sym same) (changed_here held x) in
      record {
        declared = r.declared ∙ ap (λ (h : Held). h.declared) here;
        bounds = r.bounds ∙ ap (λ (h : Held). h.bounds) here;
        mark = r.mark ∙ ap (λ (h : Held). h.mark) here;
        known = λ e. absurd (let not : false ≡ true = sym (ap (λ (h : Held). h.known) here) ∙ (r.known e).0 in cc);
      })
  | inr ne ↦ (
      let there : held_at (change_at x maybe_null held) p ≡ held_at held p = get_or-set_other held x p (maybe_null (held_at held x)) no_pointer ne in
      record {
        declared = r.declared ∙ ap (λ (h : Held). h.declared) there;
        bounds = r.bounds ∙ ap (λ (h : Held). h.bounds) there;
        mark = r.mark ∙ ap (λ (h : Held). h.mark) there;
        known = λ e. (sym (ap (λ (h : Held). h.known) there) ∙ (r.known e).0, λ a. elim a [ inl q ↦ ne (sym q) | inr more ↦ (r.known e).1 more ]);
      })
]

forgotten_at : (xs : List ℕ) (held : List Held) (p : ℕ) → IsForgotten xs p (held_at held p) (held_at (fold (λ held p. change_at p maybe_null held) held xs) p)
forgotten_at [] held p = record { declared = refl; bounds = refl; mark = refl; known = λ e. (e, λ a. a) }
forgotten_at (x ∷ xs) held p = forgotten_more x xs held p _ (forgotten_at xs (change_at x maybe_null held) p)

-- a pointer at the head of a loop, of what it was before
pub record IsAtHead (changed : List ℕ) (p : ℕ) (h k : Held) : Type 0 where
  pub declared : k.declared ≡ h.declared
  pub bounds : k.bounds ≡ h.declared
  pub mark : k.mark ≡ h.mark
  pub known : k.known ≡ true → (h.known ≡ true) × (IsAmong changed p → ⊥)

pub head_at : (changed : List ℕ) (f : Knowledge) (p : ℕ) → IsAtHead changed p (held_at f.held p) (held_at (at_head changed f).held p)
head_at changed f p =
    let r = forgotten_at changed (map with_declared f.held) p in
    let e : held_at (map with_declared f.held) p ≡ with_declared (held_at f.held p) = each_map (λ q k. k ≡ with_declared (held_at f.held q)) with_declared refl f.held (λ q. refl) p in
    record {
      declared = r.declared ∙ ap (λ (h : Held). h.declared) e;
      bounds = r.bounds ∙ ap (λ (h : Held). h.bounds) e;
      mark = r.mark ∙ ap (λ (h : Held). h.mark) e;
      known = λ q. (let k = r.known q in (sym (ap (λ (h : Held). h.known) e) ∙ k.0, k.1));
    }

module _ (structs : List Structure) (f : Knowledge) (flow : IsFlow f) (changed : List ℕ) (s t : State) where
  number_kept : ChangesOnly changed s t → (x : ℕ) → (IsAmong changed x → ⊥) → numbers_in t.locals x ≡ numbers_in s.locals x
  number_kept only x not = ap number_held (only.others x not)

  pub head_fits : All (λ x. x < f.vars) changed → ChangesOnly changed s t → AreDeclared structs f.held t → IsSettled f → Fits structs f s → Fits structs (at_head changed f) t
  head_fits below only valid settled h = record {
    holds = record {
      met = record {
        types = only.types;
        facts = killed_met f.vars changed f.facts (numbers_in s.locals) (numbers_in t.locals) below flow.facts (number_kept only) h.holds.met.facts;
        formed = subst (λ types. AreFormed structs types (at_head changed f).held) (sym only.same) (λ p u e.
            let k = head_at changed f p in
            let is = h.holds.met.formed p u e in
            record {
              ints = subst (NameInts (types_of s.locals)) (sym k.declared) is.ints;
              declared = subst (HasSize structs (types_of s.locals) (target_size structs u)) (sym k.declared) is.declared;
              bounds = subst (HasSize structs (types_of s.locals) (target_size structs u)) (sym k.bounds) is.declared;
            });
      };
      pointers = λ p l e. (
          let k = head_at changed f p in
          let declared = declared_at p l e in
          record {
            valid = valid_of structs _ _ l t k.bounds (valid p l e);
            known = λ q. (let n = k.known q in (h.holds.pointers p l (sym (only.others p n.1) ∙ e)).known n.0);
            null = λ q. absurd (settled_null (sym (marks_at p) ∙ q));
            declared = λ q r. declared;
            start = λ q. start_at p;
          });
    };
    settled = λ apart. record { marks = marks_at; assigned = settled.assigned; apart = apart };
    declared = λ _. declared_at;
  }
    where
      marks_at : (p : ℕ) → (held_at (at_head changed f).held p).mark ≡ marks.Settled
      marks_at p = (head_at changed f p).mark ∙ settled.marks p

      start_at : (p : ℕ) → HaveOneStart (held_at (at_head changed f).held p).bounds (held_at (at_head changed f).held p).declared
      start_at p =
          let k = head_at changed f p in
          let same : (held_at (at_head changed f).held p).declared ≡ (held_at (at_head changed f).held p).bounds = k.declared ∙ sym k.bounds in
          subst (λ o. HaveOneStart o (held_at (at_head changed f).held p).declared) same (one_start (held_at (at_head changed f).held p).declared)

      declared_at : AreDeclared structs (at_head changed f).held t
      declared_at p l e = valid_of structs _ _ l t (head_at changed f p).declared (valid p l e)
