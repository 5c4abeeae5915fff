-- A bundle begins; and two ways through one expression meet: what was known before it is so still, so they may fall back on that.
use Rattle.std.proofs.Common.{ℕ, zero, suc, ◌≡◌, Bool, true, false, cond, Option, Some, List, [], ◌∷◌, length, refl, sym, ap, ◌∙◌, subst, arith}
use Rattle.std.specs.Prelude.{slice_get, slice_index_or, ◌&&◌}
use Rattle.bounds_exprs.specs.declared.term.Bounds.{Bounds}
use Rattle.subsumption.specs.ClosedTables.{joined}
use Rattle.subsumption.specs.TableLaws.{IsTable, MeetsTable}
use Rattle.pointer_modes.specs.Types.{CType, Structure}
use Rattle.bounds_flow.specs.declared.held.Held.{Held}
use Rattle.bounds_flow.specs.declared.held.Mark.{Mark}
use Rattle.bounds_flow.specs.Pointers.{joined_over, same_bounds}
use Rattle.bounds_flow.specs.Flows.{Knowledge, held_at, in_bundle, met, rejoined, rejoined_held}
use Rattle.bounds_flow.specs.Conditions.{IsFlow}
use Rattle.ckc_core.specs.States.{Local, State}
use Rattle.bounds_flow_meaning.specs.Holding.{Fits, HaveOneStart, Holds, IsFormed, IsHeld, IsSettled, numbers_in, target_size, types_of}
use Rattle.bounds_flow_meaning.specs.Laws.{AreTold}
use Rattle.bounds_flow_meaning.proofs.Facts.{met_first, met_second}
use Rattle.bounds_flow_meaning.proofs.Validity.{both_true}
use Rattle.bounds_flow_meaning.proofs.Ways.{bounds_same, first_fits, second_fits}

pub bundle_fits : (structs : List Structure) (f : Knowledge) (s : State) → Fits structs f s → Fits structs (in_bundle f) s
bundle_fits structs f s h = record {
  holds = record { met = record { types = h.holds.met.types; facts = h.holds.met.facts; formed = h.holds.met.formed }; pointers = h.holds.pointers };
  settled = λ apart. absurd (cc);
  declared = λ apart. absurd (cc);
}

-- a pointer that has its own bounds or those from before, and of which so much is known
abbrev over : Bool → Bool → (before h : Held) → Held
over test known b h = record h { bounds = cond test h.bounds b.bounds; known = known }

-- a join of pointers, seen from the second way
over_second : (b h k : Held) → h.declared ≡ k.declared → h.mark ≡ k.mark → joined_over b.bounds h k ≡ over (same_bounds h.bounds k.bounds) (h.known && k.known) b k
over_second b h k declared mark =
    let t = same_bounds h.bounds k.bounds in
    let mk : Option Bounds → Option Bounds → Mark → Held = λ d e m. record { declared = d; bounds = e; known = h.known && k.known; mark = m } in
    ap (λ d. mk d (cond t h.bounds b.bounds) h.mark) declared ∙ (ap (λ e. mk k.declared e h.mark) (by t refl) ∙ ap (mk k.declared (cond t k.bounds b.bounds)) mark)
  where
    by : (t : Bool) → same_bounds h.bounds k.bounds ≡ t → cond t h.bounds b.bounds ≡ cond t k.bounds b.bounds
    by true e = bounds_same h.bounds k.bounds e
    by false e = refl

over_held : (structs : List Structure) (assigned : List Bool) (test known : Bool) (b h : Held) (l : Local) (s : State) → (known ≡ true → h.known ≡ true) → h.declared ≡ b.declared → h.mark ≡ b.mark → IsHeld structs assigned b l s
    → IsHeld structs assigned h l s → IsHeld structs assigned (over test known b h) l s
over_held structs assigned true known b h l s knows declared mark was held = record { valid = held.valid; known = λ e. held.known (knows e); null = held.null; declared = held.declared; start = held.start }
over_held structs assigned false known b h l s knows declared mark was held = record {
  valid = was.valid;
  known = λ e. held.known (knows e);
  null = held.null;
  declared = held.declared;
  start = λ rests. subst (HaveOneStart b.bounds) (sym declared) (was.start (sym mark ∙ rests));
}

over_formed : (structs : List Structure) (types : List CType) (size : ℕ) (test known : Bool) (b h : Held) → IsFormed structs types size b → IsFormed structs types size h → IsFormed structs types size (over test known b h)
over_formed structs types size true known b h was is = record { ints = is.ints; declared = is.declared; bounds = is.bounds }
over_formed structs types size false known b h was is = record { ints = is.ints; declared = is.declared; bounds = was.bounds }

pub rejoined_at : (before held others : List Held) → length before ≡ length held → length held ≡ length others → (p : ℕ) → held_at (rejoined_held before held others) p ≡ joined_over (held_at before p).bounds (held_at held p) (held_at others p)
rejoined_at [] [] [] d e p = refl
rejoined_at [] [] (k ∷ others) d e p = absurd (omega (arith, e))
rejoined_at [] (h ∷ held) others d e p = absurd (omega (arith, d))
rejoined_at (b ∷ before) [] others d e p = absurd (omega (arith, d))
rejoined_at (b ∷ before) (h ∷ held) [] d e p = absurd (omega (arith, e))
rejoined_at (b ∷ before) (h ∷ held) (k ∷ others) d e zero = refl
rejoined_at (b ∷ before) (h ∷ held) (k ∷ others) d e (suc p) = rejoined_at before held others (omega (arith, d)) (omega (arith, e)) p

module _ (structs : List Structure) (before f g : Knowledge) (start : IsFlow before) (flow : IsFlow f) (other : IsFlow g) (to_f : AreTold before f) (to_g : AreTold before g) (s : State) (was : Fits structs before s) where
  vars : g.vars ≡ f.vars
  vars = to_g.vars ∙ sym to_f.vars

  declared : (p : ℕ) → (held_at g.held p).declared ≡ (held_at f.held p).declared
  declared p = to_g.declared p ∙ sym (to_f.declared p)

  mark : (p : ℕ) → (held_at g.held p).mark ≡ (held_at f.held p).mark
  mark p = to_g.marks p ∙ sym (to_f.marks p)

  other_table : IsTable f.vars g.facts
  other_table = subst (λ n. IsTable n g.facts) vars other.facts

  settled_of : (h : Knowledge) → AreTold before h → before.bundled ≡ false → IsSettled h
  settled_of h to apart =
      let settled = was.settled apart in
      record { marks = λ p. to.marks p ∙ settled.marks p; assigned = λ x. ap (λ xs. slice_index_or xs x false) to.assigned ∙ settled.assigned x; apart = to.bundled ∙ apart }

  abbrev again : Knowledge
  again = record f { facts = joined f.vars f.facts g.facts; held = rejoined_held before.held f.held g.held }

  each_first : (P : ℕ → Held → Type 0) → ((q : ℕ) → P q (joined_over (held_at before.held q).bounds (held_at f.held q) (held_at g.held q))) → (q : ℕ) → P q (held_at again.held q)
  each_first P each q =
      subst (P q) (sym (rejoined_at before.held f.held g.held (start.variables.pointers ∙ (sym to_f.vars ∙ sym flow.variables.pointers)) (flow.variables.pointers ∙ sym (other.variables.pointers ∙ vars)) q)) (each q)

  abbrev test_at : ℕ → Bool
  test_at q = same_bounds (held_at f.held q).bounds (held_at g.held q).bounds

  abbrev known_at : ℕ → Bool
  known_at q = (held_at f.held q).known && (held_at g.held q).known

  each_second : (P : ℕ → Held → Type 0) → ((q : ℕ) → P q (over (test_at q) (known_at q) (held_at before.held q) (held_at g.held q))) → (q : ℕ) → P q (held_at again.held q)
  each_second P each =
      each_first P (λ q. subst (P q) (sym (over_second (held_at before.held q) (held_at f.held q) (held_at g.held q) (sym (declared q)) (sym (mark q)))) (each q))

  abbrev Formed : ℕ → Held → Type 0
  Formed q k = (t : CType) → slice_get (types_of s.locals) q ≡ Some t → IsFormed structs (types_of s.locals) (target_size structs t) k

  abbrev Is : ℕ → Held → Type 0
  Is q k = (l : Local) → slice_get s.locals q ≡ Some l → IsHeld structs f.assigned k l s

  was_held : (q : ℕ) → Is q (held_at before.held q)
  was_held q l e = subst (λ a. IsHeld structs a (held_at before.held q) l s) (sym to_f.assigned) (was.holds.pointers q l e)

  first_again : Holds structs f s → Holds structs again s
  first_again h = record {
    met = record {
      types = h.met.types;
      facts = met_first f.vars f.facts g.facts (numbers_in s.locals) flow.facts other_table h.met.facts;
      formed = each_first Formed (λ q t e. over_formed structs (types_of s.locals) (target_size structs t) (test_at q) (known_at q) (held_at before.held q) (held_at f.held q) (was.holds.met.formed q t e) (h.met.formed q t e));
    };
    pointers = each_first Is (λ q l e.
        over_held structs f.assigned (test_at q) (known_at q) (held_at before.held q) (held_at f.held q) l s (λ k. (both_true (held_at f.held q).known (held_at g.held q).known k).0) (to_f.declared q) (to_f.marks q) (was_held q l e) (h.pointers q l e));
  }

  second_again : Holds structs g s → Holds structs again s
  second_again h = record {
    met = record {
      types = h.met.types;
      facts = met_second f.vars f.facts g.facts (numbers_in s.locals) flow.facts other_table (subst (λ n. MeetsTable n (numbers_in s.locals) g.facts) vars h.met.facts);
      formed = each_second Formed (λ q t e. over_formed structs (types_of s.locals) (target_size structs t) (test_at q) (known_at q) (held_at before.held q) (held_at g.held q) (was.holds.met.formed q t e) (h.met.formed q t e));
    };
    pointers = each_second Is (λ q l e.
        over_held structs f.assigned (test_at q) (known_at q) (held_at before.held q) (held_at g.held q) l s (λ k. (both_true (held_at f.held q).known (held_at g.held q).known k).1) (to_g.declared q) (to_g.marks q) (was_held q l e)
        (subst (λ a. IsHeld structs a (held_at g.held q) l s) (to_g.assigned ∙ sym to_f.assigned) (h.pointers q l e)));
  }

  -- in a bundle nothing more is said
  again_fits : before.bundled ≡ true → Holds structs again s → Fits structs again s
  again_fits inside h = record { holds = h; settled = λ apart. absurd (never apart); declared = λ apart. absurd (never apart) }
    where
      never : f.bundled ≡ false → ⊥
      never apart = let both : true ≡ false = sym inside ∙ (sym to_f.bundled ∙ apart) in cc

  pub again_first : Fits structs f s → Fits structs (rejoined before f g) s
  again_first h = by before.bundled refl
    where
      by : (inside : Bool) → before.bundled ≡ inside → Fits structs (cond inside again (met f g)) s
      by true is = again_fits is (first_again h.holds)
      by false is = first_fits structs f g flow other vars s (settled_of f to_f is) h

  pub again_second : Fits structs g s → Fits structs (rejoined before f g) s
  again_second h = by before.bundled refl
    where
      by : (inside : Bool) → before.bundled ≡ inside → Fits structs (cond inside again (met f g)) s
      by true is = again_fits is (second_again h.holds)
      by false is = second_fits structs f g flow other vars s (record { vars = vars; declared = declared }) (settled_of f to_f is) (settled_of g to_g is) h
