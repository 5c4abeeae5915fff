-- What steps of flows leave as it is: declared bounds, and that nothing became of pointers.
use Rattle.std.proofs.Common.{ℕ, ◌≡◌, ◌≢◌, Bool, true, false, cond, Option, None, Some, List, [], length, map, set, refl, sym, ap, ◌∙◌}
use Rattle.std.proofs.lemmas.List.{get_or-set_other}
use Rattle.bounds_exprs.specs.declared.term.Term.{Term}
use Rattle.bounds_exprs.specs.declared.term.Bounds.{Bounds}
use Rattle.bounds_exprs.specs.Terms.{is_var}
use Rattle.bounds_exprs.specs.Changes.{is_named, moved_back}
use Rattle.bounds_flow.specs.declared.held.Held.{Held}
use Rattle.bounds_flow.specs.declared.held.Mark.TheVariants as marks
use Rattle.bounds_flow.specs.declared.changes.Change.{Change}
use Rattle.bounds_flow.specs.declared.changes.Change.TheVariants.{Shift, Number, Base, Leave, Head, Settle}
use Rattle.bounds_flow.specs.declared.steps.Test.{Test}
use Rattle.bounds_flow.specs.declared.steps.Test.TheVariants.{NotNull, Compare}
use Rattle.bounds_flow.specs.Pointers.{after_base, after_leaving, after_number, after_shift, assigned_from, dropped, fresh, is_own, known_not_null, moved_off, moved_to, no_pointer, same_bounds, settled_pointer, speaks_of, where_bounds, with_declared, with_bounds}
use Rattle.bounds_flow.specs.Changes.{changed}
use Rattle.bounds_flow.specs.Flows.{Knowledge, held_at, assumed, entered, left, measured, measured_by, met, number_assigned, number_held, variable, wider}
use Rattle.subsumption.specs.ClosedTables.{ClosedTable, entails_terms}
use Rattle.bounds_flow_meaning.specs.Holding.{IsSettled}
use Rattle.bounds_flow_meaning.specs.Laws.{AreBeside, AreTested, FlowsStayAlike, StepsStayBeside, StepsStaySettled}
use Rattle.bounds_flow_meaning.proofs.Steps.{each_map, each_put, each_set}
use Rattle.bounds_flow_meaning.proofs.Ways.{bounds_self, false_set, head_at, joined_at, leaving, none_assigned}

-- ---- one pointer

moved_declared : (o : Option Bounds) (h : Held) → (moved_to o h).declared ≡ h.declared
moved_declared None h = refl
moved_declared (Some b) h = refl

either_declared : (b : Bool) (h k : Held) (d : Option Bounds) → h.declared ≡ d → k.declared ≡ d → (cond b h k).declared ≡ d
either_declared true h k d p q = p
either_declared false h k d p q = q

where_declared : (o : Option Bounds) (test : Bounds → Bool) (change : Bounds → Held) (h : Held) → ((b : Bounds) → (change b).declared ≡ h.declared) → (where_bounds o test change h).declared ≡ h.declared
where_declared None test change h each = refl
where_declared (Some b) test change h each = either_declared (test b) (change b) h h.declared (each b) refl

changed_declared : (assigned : List Bool) (change : Change) (h : Held) → (changed assigned change h).declared ≡ h.declared
changed_declared assigned (Shift x c) h = where_declared h.bounds (is_named x) (λ b. moved_to (moved_back x c b) h) h (λ b. moved_declared (moved_back x c b) h)
changed_declared assigned (Number x) h = where_declared h.bounds (is_named x) (λ b. dropped assigned h) h (λ b. either_declared _ (with_declared h) _ h.declared refl refl)
changed_declared assigned (Base p moved) h = where_declared h.bounds (λ b. is_var p b.base) (λ b. moved_to (moved_off moved b) h) h (λ b. moved_declared (moved_off moved b) h)
changed_declared assigned (Leave x) h = where_declared h.bounds (speaks_of x) (λ b. with_declared h) h (λ b. refl)
changed_declared assigned Head h = refl
changed_declared assigned Settle h = refl

-- ---- declared bounds of flows

number_declared : (x : ℕ) (to : Option Term) (since : List Bool) (held : List Held) (p : ℕ) → (held_at (number_held x to since held) p).declared ≡ (held_at held p).declared
number_declared x None since held p = each_map (λ q k. k.declared ≡ (held_at held q).declared) (after_number x since) refl held (λ q. changed_declared since (Number x) (held_at held q)) p
number_declared x (Some e) since held p = by (is_var x e.var)
  where
    by : (b : Bool) → (held_at (cond b (map (after_shift x e.plus) held) (map (after_number x since) held)) p).declared ≡ (held_at held p).declared
    by true = each_map (λ q k. k.declared ≡ (held_at held q).declared) (after_shift x e.plus) refl held (λ q. changed_declared since (Shift x e.plus) (held_at held q)) p
    by false = each_map (λ q k. k.declared ≡ (held_at held q).declared) (after_number x since) refl held (λ q. changed_declared since (Number x) (held_at held q)) p

abbrev Declares : List Held → ℕ → Held → Type 0
Declares held q k = k.declared ≡ (held_at held q).declared

assumed_declared : (f : Knowledge) (test : Test) (truth : Bool) (p : ℕ) → (held_at (assumed test truth f).held p).declared ≡ (held_at f.held p).declared
assumed_declared f (NotNull x) true p = each_put (Declares f.held) f.held x (known_not_null (held_at f.held x)) refl (λ q. refl) p
assumed_declared f (NotNull x) false p = refl
assumed_declared f (Compare how a b) truth p = refl

bounds_declared : (o : Option Bounds) (h : Held) → (with_bounds o h).declared ≡ h.declared
bounds_declared None h = refl
bounds_declared (Some b) h = refl

bounds_marked : (o : Option Bounds) (h : Held) → (with_bounds o h).mark ≡ h.mark
bounds_marked None h = refl
bounds_marked (Some b) h = refl

left_declared : (f g : Knowledge) (x : ℕ) (declared : Option Bounds) → held_at f.held x ≡ no_pointer → AreBeside (entered x declared f) g → (p : ℕ) → (held_at (left x g).held p).declared ≡ (held_at f.held p).declared
left_declared f g x declared none beside = each_set (Declares f.held) (map (after_leaving x) g.held) x no_pointer here here others
  where
    here : None ≡ (held_at f.held x).declared
    here = sym (ap (λ (h : Held). h.declared) none)

    others : (q : ℕ) → q ≢ x → (held_at (map (after_leaving x) g.held) q).declared ≡ (held_at f.held q).declared
    others q ne =
        each_map (Declares g.held) (after_leaving x) refl g.held (λ r. changed_declared [] (Leave x) (held_at g.held r)) q
        ∙ (beside.declared q ∙ ap (λ (h : Held). h.declared) (get_or-set_other f.held x q (fresh declared) no_pointer ne))

measured_declared : (x : ℕ) (t : ClosedTable) (o : Option Bounds) (h : Held) → (measured x t o h).declared ≡ h.declared
measured_declared x t None h = refl
measured_declared x t (Some b) h = either_declared (entails_terms b.hi (variable x) t) (record h { bounds = Some (record b { hi = variable x }) }) h h.declared refl refl

length_beside : (f : Knowledge) (x p : ℕ) (own : Bool) → AreBeside f (cond own (measured_by x p (number_assigned x None f)) (number_assigned x None f))
length_beside f x p true =
    let g = number_assigned x None f in
    let here = held_at g.held p in
    record {
      vars = refl;
      declared = each_put (Declares f.held) g.held p (measured x (measured_by x p g).facts here.bounds here)
          (measured_declared x (measured_by x p g).facts here.bounds here ∙ number_declared x None (set f.assigned x true) f.held p)
          (number_declared x None (set f.assigned x true) f.held);
    }
length_beside f x p false = record { vars = refl; declared = number_declared x None (set f.assigned x true) f.held }

stay_beside : (f : Knowledge) → StepsStayBeside f
stay_beside f = record {
  assign_int = λ x to. record { vars = refl; declared = number_declared x to (set f.assigned x true) f.held };
  assign_pointer = λ p from moved not_null. record {
    vars = refl;
    declared = each_put (Declares f.held) (map (after_base p moved) f.held) p (assigned_from p from moved not_null (held_at f.held p)) refl
        (each_map (Declares f.held) (after_base p moved) refl f.held (λ q. changed_declared [] (Base p moved) (held_at f.held q)));
  };
  settle = record { vars = refl; declared = each_map (Declares f.held) settled_pointer refl f.held (λ q. refl) };
  assume = λ test truth. record { vars = assumed_vars test truth; declared = assumed_declared f test truth };
  assign_length = λ x p. length_beside f x p (is_own (held_at f.held p).bounds);
  widen = λ p index. record {
    vars = refl;
    declared = each_put (Declares f.held) f.held p (with_bounds (wider index f.facts (held_at f.held p).bounds) (held_at f.held p))
        (bounds_declared (wider index f.facts (held_at f.held p).bounds) (held_at f.held p)) (λ q. refl);
  };
  enter_loop = λ changed. record { vars = refl; declared = λ p. (head_at changed f p).declared };
  cut = record { vars = refl; declared = λ p. refl };
  join = λ g e. record { vars = refl; declared = λ p. ap (λ (h : Held). h.declared) (joined_at f.held g.held (sym e) p) };
  scope = λ x declared g none beside. record { vars = beside.vars; declared = left_declared f g x declared none beside };
}
  where
    assumed_vars : (test : Test) (truth : Bool) → (assumed test truth f).vars ≡ f.vars
    assumed_vars (NotNull x) true = refl
    assumed_vars (NotNull x) false = refl
    assumed_vars (Compare how a b) truth = refl

-- ---- settled flows

abbrev Rests : ℕ → Held → Type 0
Rests q k = k.mark ≡ marks.Settled

assumed_settled : (f : Knowledge) (test : Test) (truth : Bool) → IsSettled f → IsSettled (assumed test truth f)
assumed_settled f (NotNull x) true settled = record { marks = each_put Rests f.held x (known_not_null (held_at f.held x)) (settled.marks x) settled.marks; assigned = settled.assigned; apart = settled.apart }
assumed_settled f (NotNull x) false settled = settled
assumed_settled f (Compare how a b) truth settled = record { marks = settled.marks; assigned = settled.assigned; apart = settled.apart }

stay_settled : (f : Knowledge) → StepsStaySettled f
stay_settled f = record {
  settle = record { marks = each_map Rests settled_pointer refl f.held (λ q. refl); assigned = none_assigned f.assigned; apart = refl };
  enter = λ x declared settled. record { marks = each_put Rests f.held x (fresh declared) refl settled.marks; assigned = settled.assigned; apart = settled.apart };
  leave = λ x settled. record {
    marks = each_put Rests (map (after_leaving x) f.held) x no_pointer refl
        (each_map Rests (after_leaving x) refl f.held (λ q. leaving (λ k. k.mark ≡ marks.Settled) (held_at f.held q) x (settled.marks q) (settled.marks q)));
    assigned = λ y. false_set f.assigned x y (settled.assigned y);
    apart = settled.apart;
  };
  assume = assumed_settled f;
  widen = λ p index settled. record {
    marks = each_put Rests f.held p (with_bounds (wider index f.facts (held_at f.held p).bounds) (held_at f.held p))
        (bounds_marked (wider index f.facts (held_at f.held p).bounds) (held_at f.held p) ∙ settled.marks p) settled.marks;
    assigned = settled.assigned;
    apart = settled.apart;
  };
  enter_loop = λ changed settled. record { marks = λ p. (head_at changed f p).mark ∙ settled.marks p; assigned = settled.assigned; apart = settled.apart };
  cut = λ settled. record { marks = settled.marks; assigned = settled.assigned; apart = settled.apart };
  join = λ g e settled. record { marks = λ p. ap (λ (h : Held). h.mark) (joined_at f.held g.held (sym e) p) ∙ settled.marks p; assigned = settled.assigned; apart = settled.apart };
}

-- ---- flows between which there are tests

-- what tests leave of a pointer
record IsKept (h k : Held) : Type 0 where
  pub declared : k.declared ≡ h.declared
  pub bounds : k.bounds ≡ h.bounds
  pub mark : k.mark ≡ h.mark

tested_by : (f g : Knowledge) → g.vars ≡ f.vars → g.assigned ≡ f.assigned → ((p : ℕ) → IsKept (held_at f.held p) (held_at g.held p)) → AreTested f g
tested_by f g vars assigned kept = record { vars = vars; assigned = assigned; declared = λ p. (kept p).declared; bounds = λ p. (kept p).bounds; marks = λ p. (kept p).mark }

kept_of : (f g : Knowledge) → AreTested f g → (p : ℕ) → IsKept (held_at f.held p) (held_at g.held p)
kept_of f g t p = record { declared = t.declared p; bounds = t.bounds p; mark = t.marks p }

assumed_tested : (f g : Knowledge) (test : Test) (truth : Bool) → AreTested f g → AreTested f (assumed test truth g)
assumed_tested f g (NotNull x) true t =
    let k = kept_of f g t in
    tested_by f (assumed (NotNull x) true g) t.vars t.assigned
    (each_put (λ q k. IsKept (held_at f.held q) k) g.held x (known_not_null (held_at g.held x)) (record { declared = (k x).declared; bounds = (k x).bounds; mark = (k x).mark }) k)
assumed_tested f g (NotNull x) false t = t
assumed_tested f g (Compare how a b) truth t = tested_by f (assumed (Compare how a b) truth g) t.vars t.assigned (kept_of f g t)

joined_tested : (f g h : Knowledge) → length h.held ≡ length g.held → AreTested f g → AreTested f h → AreTested f (met g h)
joined_tested f g h e t u = tested_by f (met g h) t.vars t.assigned (λ p.
    let same : (held_at g.held p).bounds ≡ (held_at h.held p).bounds = t.bounds p ∙ sym (u.bounds p) in
    let test : same_bounds (held_at g.held p).bounds (held_at h.held p).bounds ≡ true = ap (same_bounds (held_at g.held p).bounds) (sym same) ∙ bounds_self (held_at g.held p).bounds in
    let j = joined_at g.held h.held (sym e) p in
    record {
      declared = ap (λ (k : Held). k.declared) j ∙ t.declared p;
      bounds = ap (λ (k : Held). k.bounds) j ∙ (ap (λ b. cond b (held_at g.held p).bounds (held_at g.held p).declared) test ∙ t.bounds p);
      mark = ap (λ (k : Held). k.mark) j ∙ t.marks p;
    })

pub flows_stay_alike : FlowsStayAlike
flows_stay_alike = (stay_beside, stay_settled, λ f g. record { assume = λ test truth. assumed_tested f g test truth; join = λ h e. joined_tested f g h e })
