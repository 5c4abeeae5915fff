-- What is known behind a condition is so where it came out so.
use Rattle.std.proofs.Common.{◌≡◌, ℕ, ◌<◌, ◌≤◌, ℤ, pos, Bool, true, false, cond, List, length, Option, Some, None, refl, sym, ◌∙◌, ap, subst, arith}
use Rattle.std.specs.Prelude.{◌≢◌, not, slice_get, slice_index_or}
use Rattle.std.proofs.lemmas.Option.{slice_get_within}
use Rattle.act_words.specs.declared.operator.Comparison.{Comparison}
use Rattle.act_words.specs.declared.operator.Comparison.TheVariants as comparisons
use Rattle.act_words.specs.Operators.{holds}
use Rattle.bounds_exprs.specs.declared.term.Term.{Term}
use Rattle.bounds_exprs.specs.declared.term.Bounds.{Bounds}
use Rattle.bounds_exprs.specs.Values.{value as term_number}
use Rattle.pointer_modes.specs.declared.ctype.Mode.{Mode}
use Rattle.pointer_modes.specs.declared.ctype.Kind.{Kind}
use Rattle.pointer_modes.specs.Types.{CType, Int, Char, Struct, Pointer, Structure}
use Rattle.bounds_flow.specs.declared.steps.How.{How}
use Rattle.bounds_flow.specs.declared.steps.How.TheVariants as hows
use Rattle.bounds_flow.specs.declared.steps.Test.{Test}
use Rattle.bounds_flow.specs.declared.steps.Test.TheVariants.{NotNull, Compare}
use Rattle.bounds_flow.specs.declared.held.Held.{Held}
use Rattle.bounds_flow.specs.Pointers.{with_bounds}
use Rattle.subsumption.specs.ClosedTables.{joined}
use Rattle.bounds_flow.specs.Flows.{Knowledge, assumed, held_at, met, rejoined, rejoined_held, widened, wider}
use Rattle.bounds_flow.specs.Conditions.{IsFlow, IsTestWithin}
use Rattle.bounds_flow.proofs.FlowSteps.{are_kept}
use Rattle.bounds_flow_meaning.specs.Holding.{Fits, HaveTypes, IsSettled, numbers_in}
use Rattle.bounds_flow_meaning.specs.Zeros.{EndInZeros}
use Rattle.bounds_flow_meaning.specs.Laws.{AreBeside, AreTested, AreTold, compares}
use Rattle.bounds_flow_meaning.proofs.AllSteps.{flows_hold}
use Rattle.bounds_flow_meaning.proofs.Beside.{flows_stay_alike}
use Rattle.bounds_flow_meaning.proofs.Rejoined.{rejoined_at}
use Rattle.bounds_flow_meaning.proofs.Steps.{each_put}
use Rattle.bounds_flow_meaning.proofs.Ways.{joined_at}
use Rattle.bounds_flow_meaning.proofs.Numbers.{int_term}
use Rattle.ckc_core.specs.declared.program.PointerBounds.{PointerBounds}
use Rattle.ckc_core.specs.declared.program.Site.{Site}
use Rattle.ckc_core.specs.declared.program.Direction.TheVariants as directions
use Rattle.ckc_core.specs.Outcome.{Gives, and_then}
use Rattle.ckc_core.specs.Core as core
use Rattle.ckc_core.specs.States.{Value, Number, Null, At, Local, State}
use Rattle.ckc_core.specs.Steps.{Result, truth, number_of_test, same_place, test_given, given, choose, compared as compared_values}
use Rattle.ckc_core.specs.Meaning.{Knot, Setting, audit, value}
use Rattle.region_typing_rules.specs.Verdicts.{picked}
use Rattle.region_typing_rules.specs.Readings.{term, told, compared, is_null, null_told, pointer_local, same_told, element_told, elements_told, is_ended_local, place_told}
use Rattle.region_typing_rules.specs.KnownIsSo.{WhereGiven, IsAlike, FitsAlike, HasLocals}
use Rattle.region_typing_rules.proofs.Alike.{has_after, has_alike, fits_after, types_alike, number_alike}
use Rattle.region_typing_rules.proofs.ReadElements.{AreRight, IsRightPlace, IsRightPointer, IsRightNode, IsLoaded, element_loaded, sum_loaded, widened_so}
use Rattle.region_typing_rules.proofs.Keeping.{IsAfter, IsLater, after_on, later_here, CallsKeep, value_after, value_keeps}
use Rattle.region_typing_rules.proofs.Terms.{so_on, so_always, so_both, so_further, audited_so, IsFormedTerm, term_formed, formed_within, formed_later, IsOfTerm, IsNumberOf, number_is, term_so}

-- ---- local pointers, and null

pub record IsPointerLocal (types : List CType) (e : core.Expression) (p : ℕ) : Type 0 where
  pub bounds : Option PointerBounds
  pub is : e ≡ core.Local p bounds
  pub below : p < length types
  pub untold : slice_get types p ≡ Some Char → ⊥
  pub there : (c : CType) × (slice_get types p ≡ Some c)

other_type : (o : Option CType) (mode : Mode) (kind : Kind) (target : CType) → o ≡ Some (Pointer mode kind target) → o ≡ Some Char → ⊥
other_type o mode kind target p q = cc

local_is : (types : List CType) (x : ℕ) (bounds : Option PointerBounds) (p : ℕ) → pointer_local types (core.Local x bounds) ≡ Some p → IsPointerLocal types (core.Local x bounds) p
local_is types x bounds p h = by (slice_get types x) refl
  where
    by : (o : Option CType) → slice_get types x ≡ o → IsPointerLocal types (core.Local x bounds) p
    by None e = let k : None ≡ Some p = rw e at h in absurd (cc)
    by (Some Int) e = let k : None ≡ Some p = rw e at h in absurd (cc)
    by (Some Char) e = let k : None ≡ Some p = rw e at h in absurd (cc)
    by (Some (Struct number)) e = let k : None ≡ Some p = rw e at h in absurd (cc)
    by (Some (Pointer mode kind target)) e =
        let k : Some x ≡ Some p = rw e at h in let same : x ≡ p = cc in
        record { bounds = bounds; is = ap (λ x. core.Local x bounds) same; below = subst (λ x. x < length types) same (slice_get_within types x (Pointer mode kind target) e); untold = λ q. (let r : slice_get types p ≡ Some (Pointer mode kind target) = subst (λ x. slice_get types x ≡ Some (Pointer mode kind target)) same e in other_type (slice_get types p) mode kind target r q); there = (Pointer mode kind target, subst (λ x. slice_get types x ≡ Some (Pointer mode kind target)) same e) }

pub pointer_is : (types : List CType) (e : core.Expression) (p : ℕ) → pointer_local types e ≡ Some p → IsPointerLocal types e p
pointer_is types (core.Number number) p h = absurd (cc)
pointer_is types core.Null p h = absurd (cc)
pointer_is types (core.Local x bounds) p h = local_is types x bounds p h
pointer_is types (core.Load type place bounds) p h = absurd (cc)
pointer_is types (core.AddressOf place bounds) p h = absurd (cc)
pointer_is types (core.Negate operand site) p h = absurd (cc)
pointer_is types (core.Complement operand) p h = absurd (cc)
pointer_is types (core.Not operand) p h = absurd (cc)
pointer_is types (core.Arithmetic operator left right site) p h = absurd (cc)
pointer_is types (core.Compare comparison left right) p h = absurd (cc)
pointer_is types (core.Same left right) p h = absurd (cc)
pointer_is types (core.AndAlso left right) p h = absurd (cc)
pointer_is types (core.OrElse left right) p h = absurd (cc)
pointer_is types (core.LowByte operand) p h = absurd (cc)
pointer_is types (core.Call callee arguments bounds) p h = absurd (cc)
pointer_is types core.NextInput p h = absurd (cc)
pointer_is types (core.Sum pointer direction number site bounds) p h = absurd (cc)
pointer_is types (core.Order comparison left right site) p h = absurd (cc)
pointer_is types (core.Allocate count element terminator bounds) p h = absurd (cc)
pointer_is types (core.Length pointer site) p h = absurd (cc)
pointer_is types (core.Cast pointer bounds) p h = absurd (cc)

pub null_is : (e : core.Expression) → is_null e ≡ true → e ≡ core.Null
null_is (core.Number number) h = absurd (cc)
null_is core.Null h = refl
null_is (core.Local x bounds) h = absurd (cc)
null_is (core.Load type place bounds) h = absurd (cc)
null_is (core.AddressOf place bounds) h = absurd (cc)
null_is (core.Negate operand site) h = absurd (cc)
null_is (core.Complement operand) h = absurd (cc)
null_is (core.Not operand) h = absurd (cc)
null_is (core.Arithmetic operator left right site) h = absurd (cc)
null_is (core.Compare comparison left right) h = absurd (cc)
null_is (core.Same left right) h = absurd (cc)
null_is (core.AndAlso left right) h = absurd (cc)
null_is (core.OrElse left right) h = absurd (cc)
null_is (core.LowByte operand) h = absurd (cc)
null_is (core.Call callee arguments bounds) h = absurd (cc)
null_is core.NextInput h = absurd (cc)
null_is (core.Sum pointer direction number site bounds) h = absurd (cc)
null_is (core.Order comparison left right site) h = absurd (cc)
null_is (core.Allocate count element terminator bounds) h = absurd (cc)
null_is (core.Length pointer site) h = absurd (cc)
null_is (core.Cast pointer bounds) h = absurd (cc)

-- ---- flows between which a condition stands

pub record IsTold (f h : Knowledge) : Type 0 where
  pub flow : IsFlow h
  pub tested : AreTold f h

pub told_here : (f : Knowledge) → IsFlow f → IsTold f f
told_here f flow = record { flow = flow; tested = record { vars = refl; assigned = refl; bundled = refl; declared = λ p. refl; marks = λ p. refl } }

tested_here : (f : Knowledge) → AreTested f f
tested_here f = record { vars = refl; assigned = refl; declared = λ p. refl; bounds = λ p. refl; marks = λ p. refl }

-- behind a test that leaves bounds as they are
told_tested : (f h k : Knowledge) → k.bundled ≡ h.bundled → AreTold f h → AreTested h k → AreTold f k
told_tested f h k bundled t a = record {
  vars = a.vars ∙ t.vars;
  assigned = a.assigned ∙ t.assigned;
  bundled = bundled ∙ t.bundled;
  declared = λ p. a.declared p ∙ t.declared p;
  marks = λ p. a.marks p ∙ t.marks p;
}

assumed_bundled : (h : Knowledge) (test : Test) (truth : Bool) → (assumed test truth h).bundled ≡ h.bundled
assumed_bundled h (NotNull p) true = refl
assumed_bundled h (NotNull p) false = refl
assumed_bundled h (Compare how a b) truth = refl

assume_told : (f h : Knowledge) (test : Test) (truth : Bool) → IsTestWithin f.vars test → IsTold f h → IsTold f (assumed test truth h)
assume_told f h test truth within t = record {
  flow = (are_kept.steps h t.flow).assume test truth (subst (λ n. IsTestWithin n test) (sym t.tested.vars) within);
  tested = told_tested f h (assumed test truth h) (assumed_bundled h test truth) t.tested ((flows_stay_alike.2 h h).assume test truth (tested_here h));
}

-- where two ways through one expression meet
rejoin_told : (f b g h : Knowledge) → IsTold f b → IsTold f g → IsTold f h → IsTold f (rejoined b g h)
rejoin_told f b g h before one other = record {
  flow = (are_kept.steps g one.flow).rejoin b h before.flow (before.tested.vars ∙ sym one.tested.vars) other.flow (other.tested.vars ∙ sym one.tested.vars);
  tested = by b.bundled;
}
  where
    near : length b.held ≡ length g.held
    near = before.flow.variables.pointers ∙ (before.tested.vars ∙ (sym one.tested.vars ∙ sym one.flow.variables.pointers))

    far : length g.held ≡ length h.held
    far = one.flow.variables.pointers ∙ (one.tested.vars ∙ (sym other.tested.vars ∙ sym other.flow.variables.pointers))

    by : (inside : Bool) → AreTold f (cond inside (record g { facts = joined g.vars g.facts h.facts; held = rejoined_held b.held g.held h.held }) (met g h))
    by true = record {
      vars = one.tested.vars;
      assigned = one.tested.assigned;
      bundled = one.tested.bundled;
      declared = λ p. ap (λ (h : Held). h.declared) (rejoined_at b.held g.held h.held near far p) ∙ one.tested.declared p;
      marks = λ p. ap (λ (h : Held). h.mark) (rejoined_at b.held g.held h.held near far p) ∙ one.tested.marks p;
    }
    by false = record {
      vars = one.tested.vars;
      assigned = one.tested.assigned;
      bundled = one.tested.bundled;
      declared = λ p. ap (λ (h : Held). h.declared) (joined_at g.held h.held far p) ∙ one.tested.declared p;
      marks = λ p. ap (λ (h : Held). h.mark) (joined_at g.held h.held far p) ∙ one.tested.marks p;
    }

-- what became wider
widened_told : (f h : Knowledge) (p : ℕ) (index : Term) → IsTold f h → IsTold f (widened p index h)
widened_told f h p index t = record {
  flow = (are_kept.steps h t.flow).widen p index;
  tested = record {
    vars = t.tested.vars;
    assigned = t.tested.assigned;
    bundled = t.tested.bundled;
    declared = λ q. each_put (λ q k. k.declared ≡ (held_at f.held q).declared) h.held p (with_bounds wide (held_at h.held p)) (kept_declared wide ∙ t.tested.declared p) t.tested.declared q;
    marks = λ q. each_put (λ q k. k.mark ≡ (held_at f.held q).mark) h.held p (with_bounds wide (held_at h.held p)) (kept_mark wide ∙ t.tested.marks p) t.tested.marks q;
  };
}
  where
    wide : Option Bounds
    wide = wider index h.facts (held_at h.held p).bounds

    kept_declared : (o : Option Bounds) → (with_bounds o (held_at h.held p)).declared ≡ (held_at h.held p).declared
    kept_declared None = refl
    kept_declared (Some d) = refl

    kept_mark : (o : Option Bounds) → (with_bounds o (held_at h.held p)).mark ≡ (held_at h.held p).mark
    kept_mark None = refl
    kept_mark (Some d) = refl

-- flows at one place, of which the earlier one is settled
pub told_beside : (f h : Knowledge) → IsTold f h → AreBeside f h
told_beside f h t = record { vars = t.tested.vars; declared = t.tested.declared }

pub told_settled : (f h : Knowledge) → IsTold f h → IsSettled f → IsSettled h
told_settled f h t settled = record { marks = λ p. t.tested.marks p ∙ settled.marks p; assigned = λ y. subst (λ xs. slice_index_or xs y false ≡ false) (sym t.tested.assigned) (settled.assigned y); apart = t.tested.bundled ∙ settled.apart }

module _ (types : List CType) (f : Knowledge) (few : length types ≤ f.vars) where
  null_is_told : (o : Option ℕ) (truth : Bool) (h : Knowledge) → ((p : ℕ) → o ≡ Some p → p < length types) → IsTold f h → IsTold f (null_told o truth h)
  null_is_told None truth h below t = t
  null_is_told (Some p) truth h below t = let low = below p refl in assume_told f h (NotNull p) truth (omega (arith, low, few)) t

  compared_is_told : (c : Comparison) (o p : Option Term) (truth : Bool) (h : Knowledge) → ((t : Term) → o ≡ Some t → IsFormedTerm types t) → ((t : Term) → p ≡ Some t → IsFormedTerm types t) → IsTold f h → IsTold f (compared c o p truth h)
  compared_is_told c None p truth h a b t = t
  compared_is_told c (Some x) None truth h a b t = t
  compared_is_told comparisons.Equal (Some x) (Some y) truth h a b t = assume_told f h (Compare hows.Eq x y) truth (formed_within types f.vars x few (a x refl), formed_within types f.vars y few (b y refl)) t
  compared_is_told comparisons.NotEqual (Some x) (Some y) truth h a b t = assume_told f h (Compare hows.Ne x y) truth (formed_within types f.vars x few (a x refl), formed_within types f.vars y few (b y refl)) t
  compared_is_told comparisons.Less (Some x) (Some y) truth h a b t = assume_told f h (Compare hows.Lt x y) truth (formed_within types f.vars x few (a x refl), formed_within types f.vars y few (b y refl)) t
  compared_is_told comparisons.LessEqual (Some x) (Some y) truth h a b t = assume_told f h (Compare hows.Le x y) truth (formed_within types f.vars x few (a x refl), formed_within types f.vars y few (b y refl)) t
  compared_is_told comparisons.Greater (Some x) (Some y) truth h a b t = assume_told f h (Compare hows.Gt x y) truth (formed_within types f.vars x few (a x refl), formed_within types f.vars y few (b y refl)) t
  compared_is_told comparisons.GreaterEqual (Some x) (Some y) truth h a b t = assume_told f h (Compare hows.Ge x y) truth (formed_within types f.vars x few (a x refl), formed_within types f.vars y few (b y refl)) t

  picked_told : (test : Bool) (g h : Knowledge) → IsTold f g → IsTold f h → IsTold f (picked test g h)
  picked_told true g h a b = a
  picked_told false g h a b = b

  pointer_below : (e : core.Expression) (p : ℕ) → pointer_local types e ≡ Some p → p < length types
  pointer_below e p h = (pointer_is types e p h).below

  element_is_told : (ended : Bool) (k : ℕ) (o : Option Term) (h : Knowledge) → IsTold f h → IsTold f (element_told ended k o h)
  element_is_told false k o h t = t
  element_is_told true k None h t = t
  element_is_told true k (Some index) h t = widened_told f h k index t

  elements_are_told : (pointer number : core.Expression) (h : Knowledge) → IsTold f h → IsTold f (elements_told types pointer number h)
  elements_are_told (core.Local k bounds) number h t = element_is_told (is_ended_local (slice_get types k)) k (term types number) h t
  elements_are_told (core.Sum (core.Local k bounds) directions.Forward elements site own) (core.Number (pos ℕ.zero)) h t = element_is_told (is_ended_local (slice_get types k)) k (term types elements) h t
  elements_are_told pointer number h t = t

  place_is_told : (place : core.Place) (h : Knowledge) → IsTold f h → IsTold f (place_told types place h)
  place_is_told (core.Through pointer (core.Element number true) offset site) h t = elements_are_told pointer number h t
  place_is_told place h t = t

  pub told_is : (e : core.Expression) (truth : Bool) (h : Knowledge) → IsTold f h → IsTold f (told types e truth h)
  told_is (core.Number number) truth h t = t
  told_is core.Null truth h t = t
  told_is (core.Local x bounds) truth h t = null_is_told (pointer_local types (core.Local x bounds)) truth h (pointer_below (core.Local x bounds)) t
  told_is (core.Load type place bounds) true h t = place_is_told place h t
  told_is (core.Load type place bounds) false h t = t
  told_is (core.AddressOf place bounds) truth h t = t
  told_is (core.Negate operand site) truth h t = t
  told_is (core.Complement operand) truth h t = t
  told_is (core.Not operand) truth h t = told_is operand (not truth) h t
  told_is (core.Arithmetic operator left right site) truth h t = t
  told_is (core.Compare comparison left right) truth h t = compared_is_told comparison (term types left) (term types right) truth h (term_formed types left) (term_formed types right) t
  told_is (core.Same left right) truth h t =
      picked_told (is_null right) (null_told (pointer_local types left) (not truth) h) _ (null_is_told (pointer_local types left) (not truth) h (pointer_below left) t)
      (picked_told (is_null left) (null_told (pointer_local types right) (not truth) h) h (null_is_told (pointer_local types right) (not truth) h (pointer_below right) t) t)
  told_is (core.AndAlso left right) true h t = told_is right true (told types left true h) (told_is left true h t)
  told_is (core.AndAlso left right) false h t = rejoin_told f h (told types left false h) (told types right false (told types left true h)) t (told_is left false h t) (told_is right false (told types left true h) (told_is left true h t))
  told_is (core.OrElse left right) true h t = rejoin_told f h (told types left true h) (told types right true (told types left false h)) t (told_is left true h t) (told_is right true (told types left false h) (told_is left false h t))
  told_is (core.OrElse left right) false h t = told_is right false (told types left false h) (told_is left false h t)
  told_is (core.LowByte operand) truth h t = t
  told_is (core.Call callee arguments bounds) truth h t = t
  told_is core.NextInput truth h t = t
  told_is (core.Sum pointer direction number site bounds) truth h t = t
  told_is (core.Order comparison left right site) truth h t = t
  told_is (core.Allocate count element terminator bounds) truth h t = t
  told_is (core.Length pointer site) truth h t = t
  told_is (core.Cast pointer bounds) truth h t = t

-- ---- tests that came out

truth_there : (v : Value) → truth v ≡ true → v ≢ Null
truth_there (Number number) h = λ e. absurd (cc)
truth_there Null h = λ e. absurd (cc)
truth_there (At block byte) h = λ e. absurd (cc)

test_truth : (b : Bool) → truth (number_of_test b) ≡ b
test_truth true = refl
test_truth false = refl

not_not : (b : Bool) → not (not b) ≡ b
not_not true = refl
not_not false = refl

left_null : (a : Value) (b : Bool) → same_place a Null ≡ Some b → not b ≡ true → a ≢ Null
left_null (Number number) b e n = absurd (cc)
left_null Null true e n = absurd (cc)
left_null Null false e n = absurd (cc)
left_null (At block byte) b e n = λ q. absurd (cc)

right_null : (a : Value) (b : Bool) → same_place Null a ≡ Some b → not b ≡ true → a ≢ Null
right_null (Number number) b e n = absurd (cc)
right_null Null true e n = absurd (cc)
right_null Null false e n = absurd (cc)
right_null (At block byte) b e n = λ q. absurd (cc)

module _ (structs : List Structure) where
  not_null_so : (p : ℕ) (b : Bool) (f : Knowledge) (u : State) (a : Value) → IsFlow f → p < f.vars → ((l : Local) → slice_get u.locals p ≡ Some l → l.value ≡ a) → (b ≡ true → a ≢ Null) → Fits structs f u → Fits structs (assumed (NotNull p) b f) u
  not_null_so p true f u a flow low is not_null h = (flows_hold structs f flow).assume_between (NotNull p) true u low (λ l e q. not_null refl (sym (is l e) ∙ q)) h
  not_null_so p false f u a flow low is not_null h = h

  null_so : (o : Option ℕ) (b : Bool) (f : Knowledge) (u : State) (a : Value) → IsFlow f → ((p : ℕ) → o ≡ Some p → p < f.vars) → ((p : ℕ) → o ≡ Some p → (l : Local) → slice_get u.locals p ≡ Some l → l.value ≡ a) → (b ≡ true → a ≢ Null)
      → Fits structs f u → Fits structs (null_told o b f) u
  null_so None b f u a flow low is not_null h = h
  null_so (Some p) b f u a flow low is not_null h = not_null_so p b f u a flow (low p refl) (is p refl) not_null h

  module _ (types : List CType) (f : Knowledge) (flow : IsFlow f) (few : length types ≤ f.vars) (u : State) (has : HasLocals types u) (x y : ℤ) where
    compare_by : (how : How) (a b : Term) (truth : Bool) → compares how x y ≡ truth → IsFormedTerm types a → IsFormedTerm types b → x ≡ term_number (numbers_in u.locals) a → y ≡ term_number (numbers_in u.locals) b → Fits structs f u → Fits structs (assumed (Compare how a b) truth f) u
    compare_by how a b truth came fa fb is is' h =
        (flows_hold structs f flow).assume_between (Compare how a b) truth u (formed_within types f.vars a few fa, formed_within types f.vars b few fb)
        (record {
          first = x;
          second = y;
          at_left = int_term u.locals a h.holds.met.types (formed_later types u a.var has fa.int) ∙ ap Some (sym is);
          at_right = int_term u.locals b h.holds.met.types (formed_later types u b.var has fb.int) ∙ ap Some (sym is');
          came = came;
        }) h

    compare_so : (c : Comparison) (o p : Option Term) (truth : Bool) → holds c x y ≡ truth → ((t : Term) → o ≡ Some t → IsFormedTerm types t) → ((t : Term) → p ≡ Some t → IsFormedTerm types t) → IsNumberOf u.locals o x → IsNumberOf u.locals p y → Fits structs f u → Fits structs (compared c o p truth f) u
    compare_so c None p truth came fo fp is is' h = h
    compare_so c (Some a) None truth came fo fp is is' h = h
    compare_so comparisons.Equal (Some a) (Some b) truth came fo fp is is' h = compare_by hows.Eq a b truth came (fo a refl) (fp b refl) (is a refl) (is' b refl) h
    compare_so comparisons.NotEqual (Some a) (Some b) truth came fo fp is is' h = compare_by hows.Ne a b truth came (fo a refl) (fp b refl) (is a refl) (is' b refl) h
    compare_so comparisons.Less (Some a) (Some b) truth came fo fp is is' h = compare_by hows.Lt a b truth came (fo a refl) (fp b refl) (is a refl) (is' b refl) h
    compare_so comparisons.LessEqual (Some a) (Some b) truth came fo fp is is' h = compare_by hows.Le a b truth came (fo a refl) (fp b refl) (is a refl) (is' b refl) h
    compare_so comparisons.Greater (Some a) (Some b) truth came fo fp is is' h = compare_by hows.Gt a b truth came (fo a refl) (fp b refl) (is a refl) (is' b refl) h
    compare_so comparisons.GreaterEqual (Some a) (Some b) truth came fo fp is is' h = compare_by hows.Ge a b truth came (fo a refl) (fp b refl) (is a refl) (is' b refl) h

-- ---- conditions

module _ (audited : Bool) (g : Setting) (k : Knot) (calls : CallsKeep k) (structs : List Structure) (types : List CType) where
  -- where an expression gives a value, what it tells is so
  abbrev Told : core.Expression → Knowledge → Value → State → Type 0
  Told e f v t = FitsAlike structs (length types) (told types e (truth v) f) t

  value_here : (e : core.Expression) (s : State) → WhereGiven (λ v t. IsAfter s t) (value audited g k e s)
  value_here e s = value_after audited g k calls e s

  zeros_here : (e : core.Expression) (s : State) → WhereGiven (λ (v : Value) (t : State). EndInZeros s.blocks → EndInZeros t.blocks) (value audited g k e s)
  zeros_here e s = so_further (λ v t. IsLater s t) (λ (v : Value) (t : State). EndInZeros s.blocks → EndInZeros t.blocks) (value audited g k e s) (value_keeps audited g k calls s e s (later_here s)) (λ v t later. later.1)

  fits_typed : (f : Knowledge) (s : State) → FitsAlike structs (length types) f s → HaveTypes s.locals
  fits_typed f s h = types_alike structs (length types) f s (λ w alike. (h w alike).holds)

  plain : (e : core.Expression) (f : Knowledge) (s : State) → IsFlow f → ((b : Bool) → told types e b f ≡ f) → FitsAlike structs (length types) f s → WhereGiven (Told e f) (value audited g k e s)
  plain e f s flow same h =
      so_further (λ v t. IsAfter s t) (Told e f) (value audited g k e s) (value_here e s) (λ v t after. subst (λ f. FitsAlike structs (length types) f t) (sym (same (truth v))) (fits_after structs (length types) f s t flow after h))

  -- the local pointer that an expression is holds the value
  abbrev IsAt : core.Expression → Value → State → Type 0
  IsAt e v t = (p : ℕ) → pointer_local types e ≡ Some p → (l : Local) → slice_get t.locals p ≡ Some l → l.value ≡ v

  at_alike : (e : core.Expression) (v : Value) (t w : State) → HasLocals types t → IsAlike (length types) t w → IsAt e v t → IsAt e v w
  at_alike e v t w has alike is p q l there =
      let it = pointer_is types e p q in
      let same = alike.tracked p it.below (λ c. it.untold (let r = has p it.there.0 it.there.1 in it.there.1 ∙ (sym r ∙ c))) in
      is p q l (sym same ∙ there)

  local_given : (p : ℕ) (bounds : Option PointerBounds) (o : Option Local) (s : State) → slice_get s.locals p ≡ o → WhereGiven (λ v t. (l : Local) → slice_get t.locals p ≡ Some l → l.value ≡ v) (and_then (given o s) (audit audited bounds))
  local_given p bounds None s e = tt
  local_given p bounds (Some m) s e = audited_so (λ v t. (l : Local) → slice_get t.locals p ≡ Some l → l.value ≡ v) audited bounds m.value s (λ l e'. let same : l ≡ m = cc in ap (λ (l : Local). l.value) same)

  pub pointer_so : (e : core.Expression) (s : State) → WhereGiven (IsAt e) (value audited g k e s)
  pointer_so e s = by (pointer_local types e) refl
    where
      by : (o : Option ℕ) → pointer_local types e ≡ o → WhereGiven (IsAt e) (value audited g k e s)
      by None none = so_always (IsAt e) (value audited g k e s) (λ v t p is. absurd (cc))
      by (Some p) is =
          let it = pointer_is types e p is in
          so_further (λ v t. (l : Local) → slice_get t.locals p ≡ Some l → l.value ≡ v) (IsAt e) (value audited g k e s)
          (subst (λ e. WhereGiven (λ v t. (l : Local) → slice_get t.locals p ≡ Some l → l.value ≡ v) (value audited g k e s)) (sym it.is) (local_given p it.bounds (slice_get s.locals p) s refl))
          (λ v t h q is' l e'. let same : q ≡ p = cc in h l (subst (λ q. slice_get t.locals q ≡ Some l) same e'))

  pub null_given : (e : core.Expression) (s : State) → WhereGiven (λ (v : Value) (t : State). is_null e ≡ true → v ≡ Null) (value audited g k e s)
  null_given e s = by (is_null e) refl
    where
      by : (test : Bool) → is_null e ≡ test → WhereGiven (λ (v : Value) (t : State). is_null e ≡ true → v ≡ Null) (value audited g k e s)
      by true is = subst (λ e. WhereGiven (λ (v : Value) (t : State). is_null e ≡ true → v ≡ Null) (value audited g k e s)) (sym (null_is e is)) (λ q. refl)
      by false is = so_always (λ (v : Value) (t : State). is_null e ≡ true → v ≡ Null) (value audited g k e s) (λ v t q. absurd (cc))

  module _ (f : Knowledge) (flow : IsFlow f) (few : length types ≤ f.vars) where
    below_vars : (e : core.Expression) (p : ℕ) → pointer_local types e ≡ Some p → p < f.vars
    below_vars e p h = let low = (pointer_is types e p h).below in omega (arith, low, few)

    -- two pointers were the same, or weren't
    same_by : (left right : core.Expression) (a b : Value) (u : State) (test one other : Bool) → same_place a b ≡ Some test → is_null right ≡ one → is_null left ≡ other → IsAt left a u → IsAt right b u → (is_null right ≡ true → b ≡ Null) → (is_null left ≡ true → a ≡ Null) → Fits structs f u
        → Fits structs (picked one (null_told (pointer_local types left) (not test) f) (picked other (null_told (pointer_local types right) (not test) f) f)) u
    same_by left right a b u test true other e ir il at_left at_right null_right null_left h =
        let q : same_place a Null ≡ Some test = subst (λ b. same_place a b ≡ Some test) (null_right ir) e in
        null_so structs (pointer_local types left) (not test) f u a flow (below_vars left) at_left (left_null a test q) h
    same_by left right a b u test false true e ir il at_left at_right null_right null_left h =
        let q : same_place Null b ≡ Some test = subst (λ a. same_place a b ≡ Some test) (null_left il) e in
        null_so structs (pointer_local types right) (not test) f u b flow (below_vars right) at_right (right_null b test q) h
    same_by left right a b u test false false e ir il at_left at_right null_right null_left h = h

    same_so : (left right : core.Expression) (a b : Value) (u : State) (o : Option Bool) → same_place a b ≡ o → IsAt left a u → IsAt right b u → (is_null right ≡ true → b ≡ Null) → (is_null left ≡ true → a ≡ Null) → HasLocals types u → FitsAlike structs (length types) f u
        → WhereGiven (Told (core.Same left right) f) (test_given o u)
    same_so left right a b u None e at_left at_right null_right null_left has h = tt
    same_so left right a b u (Some test) e at_left at_right null_right null_left has h = λ w alike.
        subst (λ c. Fits structs (same_told types left right c f) w) (sym (test_truth test))
        (same_by left right a b w test (is_null right) (is_null left) e refl refl (at_alike left a u w has alike at_left) (at_alike right b u w has alike at_right) null_right null_left (h w alike))

    compared_so : (c : Comparison) (left right : core.Expression) (a b : Value) (u : State) → HasLocals types u → IsOfTerm u.locals (term types left) a → IsOfTerm u.locals (term types right) b → FitsAlike structs (length types) f u → WhereGiven (Told (core.Compare c left right) f) (compared_values c a b u)
    compared_so c left right (Number x) (Number y) u has is is' h = λ w alike.
        subst (λ t. Fits structs (compared c (term types left) (term types right) t f) w) (sym (test_truth (holds c x y)))
        (compare_so structs types f flow few w (has_alike types u w alike has) x y c (term types left) (term types right) (holds c x y) refl (term_formed types left) (term_formed types right) (number_alike types u w has alike (term types left) x (term_formed types left) (number_is u.locals (term types left) x is)) (number_alike types u w has alike (term types right) y (term_formed types right) (number_is u.locals (term types right) y is')) (h w alike))
    compared_so c left right (Number x) Null u has is is' h = tt
    compared_so c left right (Number x) (At block byte) u has is is' h = tt
    compared_so c left right Null b u has is is' h = tt
    compared_so c left right (At block byte) b u has is is' h = tt

  term_here : (e : core.Expression) (s : State) → HaveTypes s.locals → HasLocals types s → WhereGiven (λ v t. IsOfTerm s.locals (term types e) v) (value audited g k e s)
  term_here e s typed has = term_so audited g k calls types s.locals typed has e s refl

  few_behind : (e : core.Expression) (b : Bool) (f : Knowledge) → IsFlow f → length types ≤ f.vars → length types ≤ (told types e b f).vars
  few_behind e b f flow few = subst (λ n. length types ≤ n) (sym (told_is types f few e b f (told_here f flow)).tested.vars) few

  flow_behind : (e : core.Expression) (b : Bool) (f : Knowledge) → IsFlow f → length types ≤ f.vars → IsFlow (told types e b f)
  flow_behind e b f flow few = (told_is types f few e b f (told_here f flow)).flow

  -- both ways through an expression
  near_told : (left : core.Expression) (one : Bool) (f : Knowledge) → IsFlow f → length types ≤ f.vars → IsTold f (told types left one f)
  near_told left one f flow few = told_is types f few left one f (told_here f flow)

  far_told : (left right : core.Expression) (one other : Bool) (f : Knowledge) → IsFlow f → length types ≤ f.vars → IsTold f (told types right one (told types left other f))
  far_told left right one other f flow few = told_is types f few right one (told types left other f) (near_told left other f flow few)

  -- the run took the one way, or the other
  on_first : (left right : core.Expression) (one other : Bool) (f : Knowledge) → IsFlow f → length types ≤ f.vars → (s : State) → FitsAlike structs (length types) f s → FitsAlike structs (length types) (told types left one f) s
      → FitsAlike structs (length types) (rejoined f (told types left one f) (told types right one (told types left other f))) s
  on_first left right one other f flow few s was h w alike =
      let near = near_told left one f flow few in
      let far = far_told left right one other f flow few in
      (flows_hold structs (told types left one f) near.flow).rejoin_first f (told types right one (told types left other f)) w flow far.flow near.tested far.tested (was w alike) (h w alike)

  on_second : (left right : core.Expression) (one other : Bool) (f : Knowledge) → IsFlow f → length types ≤ f.vars → (s : State) → FitsAlike structs (length types) f s → FitsAlike structs (length types) (told types right one (told types left other f)) s
      → FitsAlike structs (length types) (rejoined f (told types left one f) (told types right one (told types left other f))) s
  on_second left right one other f flow few s was h w alike =
      let near = near_told left one f flow few in
      let far = far_told left right one other f flow few in
      (flows_hold structs (told types left one f) near.flow).rejoin_second f (told types right one (told types left other f)) w flow far.flow near.tested far.tested (was w alike) (h w alike)

  -- ---- what an element tells

  loaded_so : (f : Knowledge) (flow : IsFlow f) (few : length types ≤ f.vars) (i : ℕ) (b : Option PointerBounds) (e : core.Expression) (s : State) → HasLocals types s → EndInZeros s.blocks → ((p : PointerBounds) → b ≡ Some p → IsRightNode structs types f i p)
      → FitsAlike structs (length types) f s → (o : Result Value) → WhereGiven (λ v w. IsAfter s w × IsLoaded i b (term types e) v w) o → WhereGiven (λ (v : Value) (w : State). EndInZeros s.blocks → EndInZeros w.blocks) o
      → WhereGiven (λ v w. FitsAlike structs (length types) (picked (truth v) (element_told (is_ended_local (slice_get types i)) i (term types e) f) f) w) o
  loaded_so f flow few i b e s has zeros right h o loads keeps =
      so_further (λ v w. (IsAfter s w × IsLoaded i b (term types e) v w) × (EndInZeros s.blocks → EndInZeros w.blocks)) (λ v w. FitsAlike structs (length types) (picked (truth v) (element_told (is_ended_local (slice_get types i)) i (term types e) f) f) w) o
      (so_both (λ v w. IsAfter s w × IsLoaded i b (term types e) v w) (λ (v : Value) (w : State). EndInZeros s.blocks → EndInZeros w.blocks) o loads keeps)
      (λ v w x. by v w (fits_after structs (length types) f s w flow x.0.0 h) (has_after types s w x.0.0 has) (x.1 zeros) x.0.1 (truth v) refl (is_ended_local (slice_get types i)) refl (term types e) refl)
    where
      by : (v : Value) (w : State) → FitsAlike structs (length types) f w → HasLocals types w → EndInZeros w.blocks → IsLoaded i b (term types e) v w → (came : Bool) → truth v ≡ came → (ended : Bool) → is_ended_local (slice_get types i) ≡ ended → (index : Option Term) → term types e ≡ index
          → FitsAlike structs (length types) (picked came (element_told ended i index f) f) w
      by v w fits has' zeros' l false came ended is index at = fits
      by v w fits has' zeros' l true came false is index at = fits
      by v w fits has' zeros' l true came true is None at = fits
      by v w fits has' zeros' l true came true is (Some index) at = widened_so structs types f flow few i b e index at is right v w has' zeros' l came fits

  -- what was told of a load, where it came out so
  load_told : (type : CType) (p : core.Place) (bounds : Option PointerBounds) (f g : Knowledge) → place_told types p f ≡ g → (v : Value) (w : State) → FitsAlike structs (length types) (picked (truth v) g f) w → Told (core.Load type p bounds) f v w
  load_told type p bounds f g is v w h = subst (λ f. FitsAlike structs (length types) f w) (by (truth v)) h
    where
      by : (came : Bool) → picked came g f ≡ told types (core.Load type p bounds) came f
      by true = sym is
      by false = refl

  load_plain : (type : CType) (p : core.Place) (bounds : Option PointerBounds) (f : Knowledge) → place_told types p f ≡ f → (c : Bool) → told types (core.Load type p bounds) c f ≡ f
  load_plain type p bounds f same true = same
  load_plain type p bounds f same false = refl

  elements_so : (type : CType) (pointer number : core.Expression) (site : Site) (bounds : Option PointerBounds) (f : Knowledge) → IsFlow f → length types ≤ f.vars → IsRightPointer structs types f pointer → (s : State) → HasLocals types s → EndInZeros s.blocks → FitsAlike structs (length types) f s
      → WhereGiven (Told (core.Load type (core.Through pointer (core.Element number true) 0 site) bounds) f) (value audited g k (core.Load type (core.Through pointer (core.Element number true) 0 site) bounds) s)
  elements_so type (core.Local i b) number site bounds f flow few right s has zeros h =
      let load = core.Load type (core.Through (core.Local i b) (core.Element number true) 0 site) bounds in
      so_further (λ v w. FitsAlike structs (length types) (picked (truth v) (element_told (is_ended_local (slice_get types i)) i (term types number) f) f) w) (Told load f) (value audited g k load s)
      (loaded_so f flow few i b number s has zeros right h (value audited g k load s) (element_loaded audited g k calls types s (fits_typed f s h) has i b number type site bounds) (zeros_here load s))
      (λ v w x. load_told type (core.Through (core.Local i b) (core.Element number true) 0 site) bounds f _ refl v w x)
  elements_so type (core.Sum (core.Local i b) directions.Forward number site own) (core.Number (pos ℕ.zero)) site' bounds f flow few right s has zeros h =
      let load = core.Load type (core.Through (core.Sum (core.Local i b) directions.Forward number site own) (core.Element (core.Number (pos 0)) true) 0 site') bounds in
      so_further (λ v w. FitsAlike structs (length types) (picked (truth v) (element_told (is_ended_local (slice_get types i)) i (term types number) f) f) w) (Told load f) (value audited g k load s)
      (loaded_so f flow few i b number s has zeros right h (value audited g k load s) (sum_loaded audited g k calls types s (fits_typed f s h) has i b number type site site' own bounds) (zeros_here load s))
      (λ v w x. load_told type (core.Through (core.Sum (core.Local i b) directions.Forward number site own) (core.Element (core.Number (pos 0)) true) 0 site') bounds f _ refl v w x)
  elements_so type pointer number site bounds f flow few right s has zeros h =
      let p = core.Through pointer (core.Element number true) 0 site in
      plain (core.Load type p bounds) f s flow (load_plain type p bounds f refl) h

  place_so : (type : CType) (p : core.Place) (bounds : Option PointerBounds) (f : Knowledge) → IsFlow f → length types ≤ f.vars → IsRightPlace structs types f p → (s : State) → HasLocals types s → EndInZeros s.blocks → FitsAlike structs (length types) f s
      → WhereGiven (Told (core.Load type p bounds) f) (value audited g k (core.Load type p bounds) s)
  place_so type (core.Through pointer (core.Element number true) offset site) bounds f flow few right s has zeros h =
      subst (λ offset. WhereGiven (Told (core.Load type (core.Through pointer (core.Element number true) offset site) bounds) f) (value audited g k (core.Load type (core.Through pointer (core.Element number true) offset site) bounds) s)) (sym right.0)
      (elements_so type pointer number site bounds f flow few right.1 s has zeros h)
  place_so type p bounds f flow few right s has zeros h = plain (core.Load type p bounds) f s flow (load_plain type p bounds f refl) h

  -- what is told, and what stays as it was
  abbrev IsKeptTold : core.Expression → Knowledge → State → Value → State → Type 0
  IsKeptTold e f s v t = (IsAfter s t × (EndInZeros s.blocks → EndInZeros t.blocks)) × Told e f v t

  kept_told : (e : core.Expression) (f : Knowledge) (s : State) → WhereGiven (Told e f) (value audited g k e s) → WhereGiven (IsKeptTold e f s) (value audited g k e s)
  kept_told e f s h =
      so_both (λ v t. IsAfter s t × (EndInZeros s.blocks → EndInZeros t.blocks)) (Told e f) (value audited g k e s) (value_keeps audited g k calls s e s (later_here s)) h

  pub told_so : (e : core.Expression) (f : Knowledge) → IsFlow f → length types ≤ f.vars → AreRight structs types f e → (s : State) → HasLocals types s → EndInZeros s.blocks → FitsAlike structs (length types) f s → WhereGiven (Told e f) (value audited g k e s)
  told_so (core.Number number) f flow few nodes s has zeros h = plain (core.Number number) f s flow (λ b. refl) h
  told_so core.Null f flow few nodes s has zeros h = plain core.Null f s flow (λ b. refl) h
  told_so (core.Local x bounds) f flow few nodes s has zeros h =
      so_further (λ v t. IsAfter s t × IsAt (core.Local x bounds) v t) (Told (core.Local x bounds) f) (value audited g k (core.Local x bounds) s) (so_both (λ v t. IsAfter s t) (IsAt (core.Local x bounds)) (value audited g k (core.Local x bounds) s) (value_here (core.Local x bounds) s) (pointer_so (core.Local x bounds) s))
      (λ v t q w alike. null_so structs (pointer_local types (core.Local x bounds)) (truth v) f w v flow (below_vars f flow few (core.Local x bounds)) (at_alike (core.Local x bounds) v t w (has_after types s t q.0 has) alike q.1) (truth_there v) (fits_after structs (length types) f s t flow q.0 h w alike))
  told_so (core.Load type p bounds) f flow few nodes s has zeros h = place_so type p bounds f flow few nodes s has zeros h
  told_so (core.AddressOf place bounds) f flow few nodes s has zeros h = plain (core.AddressOf place bounds) f s flow (λ b. refl) h
  told_so (core.Negate operand site) f flow few nodes s has zeros h = plain (core.Negate operand site) f s flow (λ b. refl) h
  told_so (core.Complement operand) f flow few nodes s has zeros h = plain (core.Complement operand) f s flow (λ b. refl) h
  told_so (core.Not operand) f flow few nodes s has zeros h =
      so_on (Told operand f) (Told (core.Not operand) f) (value audited g k operand s) _ (told_so operand f flow few nodes s has zeros h)
      (λ v t x. subst (λ c. FitsAlike structs (length types) (told types operand c f) t) (sym (ap not (test_truth (not (truth v))) ∙ not_not (truth v))) x)
  told_so (core.Arithmetic operator left right site) f flow few nodes s has zeros h = plain (core.Arithmetic operator left right site) f s flow (λ b. refl) h
  told_so (core.Compare comparison left right) f flow few nodes s has zeros h =
      so_on (λ v t. IsAfter s t × IsOfTerm s.locals (term types left) v) (Told (core.Compare comparison left right) f) (value audited g k left s) _
      (so_both (λ v t. IsAfter s t) (λ v t. IsOfTerm s.locals (term types left) v) (value audited g k left s) (value_here left s) (term_here left s (types_alike structs (length types) f s (λ w alike. (h w alike).holds)) has))
      (λ a t x. let h' = fits_after structs (length types) f s t flow x.0 h in
      so_on (λ v u. IsAfter t u × IsOfTerm t.locals (term types right) v) (Told (core.Compare comparison left right) f) (value audited g k right t) _
      (so_both (λ v u. IsAfter t u) (λ v u. IsOfTerm t.locals (term types right) v) (value audited g k right t) (value_here right t) (term_here right t (types_alike structs (length types) f t (λ w alike. (h' w alike).holds)) (has_after types s t x.0 has)))
      (λ b u y. let all = after_on s t u x.0 y.0 in
      compared_so f flow few comparison left right a b u (has_after types s u all has) (subst (λ ls. IsOfTerm ls (term types left) a) (sym all.1) x.1) (subst (λ ls. IsOfTerm ls (term types right) b) (sym y.0.1) y.1) (fits_after structs (length types) f s u flow all h)))
  told_so (core.Same left right) f flow few nodes s has zeros h =
      so_on (λ v t. IsAfter s t × (IsAt left v t × (is_null left ≡ true → v ≡ Null))) (Told (core.Same left right) f) (value audited g k left s) _
      (so_both (λ v t. IsAfter s t) (λ v t. IsAt left v t × (is_null left ≡ true → v ≡ Null)) (value audited g k left s) (value_here left s)
      (so_both (IsAt left) (λ v t. is_null left ≡ true → v ≡ Null) (value audited g k left s) (pointer_so left s) (null_given left s)))
      (λ a t x. so_on (λ v u. IsAfter t u × (IsAt right v u × (is_null right ≡ true → v ≡ Null))) (Told (core.Same left right) f) (value audited g k right t) _
      (so_both (λ v u. IsAfter t u) (λ v u. IsAt right v u × (is_null right ≡ true → v ≡ Null)) (value audited g k right t) (value_here right t)
      (so_both (IsAt right) (λ v u. is_null right ≡ true → v ≡ Null) (value audited g k right t) (pointer_so right t) (null_given right t)))
      (λ b u y. same_so f flow few left right a b u (same_place a b) refl (λ p is l e. x.1.0 p is l (subst (λ ls. slice_get ls p ≡ Some l) y.0.1 e)) y.1.0 y.1.1 x.1.1 (has_after types s u (after_on s t u x.0 y.0) has) (fits_after structs (length types) f s u flow (after_on s t u x.0 y.0) h)))
  told_so (core.AndAlso left right) f flow few nodes s has zeros h =
      so_on (λ v t. IsKeptTold left f s v t) (Told (core.AndAlso left right) f) (value audited g k left s) _ (kept_told left f s (told_so left f flow few nodes.0 s has zeros h))
      (λ a t x. by t (truth a) (fits_after structs (length types) f s t flow x.0.0 h) (λ has' zeros' h'. told_so right (told types left true f) (flow_behind left true f flow few) (few_behind left true f flow few) nodes.1 t has' zeros' h') (has_after types s t x.0.0 has) (x.0.1 zeros) x.1)
    where
      behind : (b : Bool) (u : State) → FitsAlike structs (length types) f u → FitsAlike structs (length types) (told types right b (told types left true f)) u → FitsAlike structs (length types) (told types (core.AndAlso left right) (truth (number_of_test b)) f) u
      behind true u was h = h
      behind false u was h = on_second left right false true f flow few u was h

      by : (t : State) (c : Bool) → FitsAlike structs (length types) f t → (HasLocals types t → EndInZeros t.blocks → FitsAlike structs (length types) (told types left true f) t → WhereGiven (Told right (told types left true f)) (value audited g k right t)) → HasLocals types t → EndInZeros t.blocks → FitsAlike structs (length types) (told types left c f) t
          → WhereGiven (Told (core.AndAlso left right) f) (choose c (and_then (value audited g k right t) (λ b u. Gives (number_of_test (truth b)) u)) (Gives (number_of_test false) t))
      by t true was again has zeros h =
          so_on (λ b u. IsAfter t u × Told right (told types left true f) b u) (Told (core.AndAlso left right) f) (value audited g k right t) _
          (so_both (λ b u. IsAfter t u) (Told right (told types left true f)) (value audited g k right t) (value_here right t) (again has zeros h)) (λ b u x. behind (truth b) u (fits_after structs (length types) f t u flow x.0 was) x.1)
      by t false was again has zeros h = on_first left right false true f flow few t was h
  told_so (core.OrElse left right) f flow few nodes s has zeros h =
      so_on (λ v t. IsKeptTold left f s v t) (Told (core.OrElse left right) f) (value audited g k left s) _ (kept_told left f s (told_so left f flow few nodes.0 s has zeros h))
      (λ a t x. by t (truth a) (fits_after structs (length types) f s t flow x.0.0 h) (λ has' zeros' h'. told_so right (told types left false f) (flow_behind left false f flow few) (few_behind left false f flow few) nodes.1 t has' zeros' h') (has_after types s t x.0.0 has) (x.0.1 zeros) x.1)
    where
      behind : (b : Bool) (u : State) → FitsAlike structs (length types) f u → FitsAlike structs (length types) (told types right b (told types left false f)) u → FitsAlike structs (length types) (told types (core.OrElse left right) (truth (number_of_test b)) f) u
      behind true u was h = on_second left right true false f flow few u was h
      behind false u was h = h

      by : (t : State) (c : Bool) → FitsAlike structs (length types) f t → (HasLocals types t → EndInZeros t.blocks → FitsAlike structs (length types) (told types left false f) t → WhereGiven (Told right (told types left false f)) (value audited g k right t)) → HasLocals types t → EndInZeros t.blocks → FitsAlike structs (length types) (told types left c f) t
          → WhereGiven (Told (core.OrElse left right) f) (choose c (Gives (number_of_test true) t) (and_then (value audited g k right t) (λ b u. Gives (number_of_test (truth b)) u)))
      by t true was again has zeros h = on_first left right true false f flow few t was h
      by t false was again has zeros h =
          so_on (λ b u. IsAfter t u × Told right (told types left false f) b u) (Told (core.OrElse left right) f) (value audited g k right t) _
          (so_both (λ b u. IsAfter t u) (Told right (told types left false f)) (value audited g k right t) (value_here right t) (again has zeros h)) (λ b u x. behind (truth b) u (fits_after structs (length types) f t u flow x.0 was) x.1)
  told_so (core.LowByte operand) f flow few nodes s has zeros h = plain (core.LowByte operand) f s flow (λ b. refl) h
  told_so (core.Call callee arguments bounds) f flow few nodes s has zeros h = plain (core.Call callee arguments bounds) f s flow (λ b. refl) h
  told_so core.NextInput f flow few nodes s has zeros h = plain core.NextInput f s flow (λ b. refl) h
  told_so (core.Sum pointer direction number site bounds) f flow few nodes s has zeros h = plain (core.Sum pointer direction number site bounds) f s flow (λ b. refl) h
  told_so (core.Order comparison left right site) f flow few nodes s has zeros h = plain (core.Order comparison left right site) f s flow (λ b. refl) h
  told_so (core.Allocate count element terminator bounds) f flow few nodes s has zeros h = plain (core.Allocate count element terminator bounds) f s flow (λ b. refl) h
  told_so (core.Length pointer site) f flow few nodes s has zeros h = plain (core.Length pointer site) f s flow (λ b. refl) h
  told_so (core.Cast pointer bounds) f flow few nodes s has zeros h = plain (core.Cast pointer bounds) f s flow (λ b. refl) h

  -- with what stays as it was
  pub told_fits : (e : core.Expression) (f : Knowledge) → IsFlow f → length types ≤ f.vars → AreRight structs types f e → (s : State) → HasLocals types s → EndInZeros s.blocks → FitsAlike structs (length types) f s
      → WhereGiven (λ v t. IsAfter s t × FitsAlike structs (length types) (told types e (truth v) f) t) (value audited g k e s)
  told_fits e f flow few right s has zeros h = so_both (λ v t. IsAfter s t) (Told e f) (value audited g k e s) (value_here e s) (told_so e f flow few right s has zeros h)
