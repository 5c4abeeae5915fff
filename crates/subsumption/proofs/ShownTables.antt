-- Lists of facts that show closed tables.
use Rattle.std.proofs.Common.{ℕ, Option, Some, ◌+◌, ◌<◌, ◌≡◌, ℤ, pos, negsuc, ◌-ℤ◌, Bool, true, false, None, List, [], ◌∷◌, ◌++◌, get_or, refl, sym, subst, arith, inl, inr}
use Rattle.std.specs.Prelude.{◌↔◌}
use Rattle.std.specs.List.{All, AllByRecursion}
use Rattle.std.proofs.lemmas.List.Elements.{All-from_recursion, recursion_from_All, All-contains}
use Rattle.subsumption.specs.declared.fact.Fact.{Fact}
use Rattle.subsumption.specs.Graphs.{fact_at, node_of}
use Rattle.subsumption.specs.Shifts.{moved}
use Rattle.subsumption.specs.declared.fact.Answer.TheVariants.{Yes, No}
use Rattle.subsumption.specs.Facts.{IsBelow, Holds, Meets, Entails, IsAbout, BothEntail, IsKept, IsWide, Leaves, numbers_of, IsKept}
use Rattle.subsumption.specs.Tables.{FollowsWithout}
use Rattle.subsumption.specs.ClosedTables.{ClosedTable, no_facts, entails_fact, with_fact, without, shifted, joined}
use Rattle.subsumption.specs.TableLaws.{IsTable, MeetsTable, SaysExactly, IsLeft, FollowsWith, FollowsWithoutNamed}
use Rattle.subsumption.specs.ShownTables.{Shows, ShowOne, AnswersAreShown}
use Rattle.subsumption.proofs.TableSteps.{entails_exactly, no_facts_met, have_one_form, are_exact, give_tables, stays_left, met_with_some}

-- ---- what is entailed in two ways

abbrev Alike : ℕ → (Fact → Type 0) → (Fact → Type 0) → Type 0
Alike vars first second = (goal : Fact) → IsAbout vars goal → first goal ↔ second goal

wide_alike : (vars : ℕ) (first second : Fact → Type 0) → Alike vars first second → IsWide vars first → IsWide vars second
wide_alike vars first second alike wide =
    let about : (k : ℤ) → IsAbout vars (fact_at wide.left wide.right k) = λ k. record { left = wide.about.left; right = wide.about.right } in
    record {
      met = λ h. wide.met ((alike (fact_at None None (negsuc 0)) (record { left = tt; right = tt })).1 h);
      left = wide.left;
      right = wide.right;
      about = wide.about;
      plus = wide.plus;
      least = record {
        holds = (alike (fact_at wide.left wide.right wide.plus) (about wide.plus)).0 wide.least.holds;
        least = λ h. wide.least.least ((alike (fact_at wide.left wide.right (wide.plus -ℤ pos 1)) (about (wide.plus -ℤ pos 1))).1 h);
      };
      outside = wide.outside;
    }

turned : (vars : ℕ) (first second : Fact → Type 0) → Alike vars first second → Alike vars second first
turned vars first second alike goal about = ((alike goal about).1, (alike goal about).0)

-- no facts entail what a table without facts does
none_same : (vars : ℕ) → SaysExactly vars (Entails []) (no_facts vars)
none_same vars goal about =
    let exact = entails_exactly vars (no_facts vars) goal ((give_tables vars).none) about in (
      (λ e v met. exact.0 e v (no_facts_met vars v)),
      (λ h. exact.1 (λ v met. h v (λ i d lt. absurd (omega (arith, lt))))),
    )

-- what a step leaves, by the closed table that is shown after it
leaves_shown : (vars : ℕ) (E second : Fact → Type 0) (G : List Fact) (u : ClosedTable) → Alike vars E second → IsLeft vars second u → SaysExactly vars (Entails G) u → (u ≡ no_facts vars → G ≡ []) → Leaves vars E G
leaves_shown vars E second G u alike (inl (wide, none)) says empty = record {
  none = λ w. empty none;
  same = λ narrow goal about. absurd (narrow (wide_alike vars second E (turned vars E second alike) wide));
}
leaves_shown vars E second G u alike (inr (narrow, said)) says empty = record {
  none = λ w. absurd (narrow (wide_alike vars E second alike w));
  same = λ n goal about. (let p = says goal about in let q = said goal about in let r = alike goal about in ((λ h. r.1 (q.0 (p.1 h))), (λ h. p.0 (q.1 (r.0 h)))));
}

-- ---- facts and one more

split : (v : ℕ → ℤ) (f : Fact) (xs : List Fact) → AllByRecursion (Holds v) (xs ++ f ∷ []) → AllByRecursion (Holds v) xs × Holds v f
split v f [] h = (tt, h.0)
split v f (x ∷ xs) h = (let r = split v f xs h.1 in ((h.0, r.0), r.1))

put_behind : (v : ℕ → ℤ) (f : Fact) (xs : List Fact) → AllByRecursion (Holds v) xs → Holds v f → AllByRecursion (Holds v) (xs ++ f ∷ [])
put_behind v f [] r h = (h, tt)
put_behind v f (x ∷ xs) r h = (r.0, put_behind v f xs r.1 h)

module _ (vars : ℕ) (facts : List Fact) (t : ClosedTable) (all_about : All (IsAbout vars) facts) (closed : IsTable vars t) (same : SaysExactly vars (Entails facts) t) where
  -- valuations meet the facts exactly where they meet the closed table
  to_table : (v : ℕ → ℤ) → Meets v facts → MeetsTable vars v t
  to_table v met f about e = (same f about).0 e v met

  from_table : (v : ℕ → ℤ) → MeetsTable vars v t → Meets v facts
  from_table v met = λ i d lt. (let about = all_about i d lt in met (get_or facts i d) about ((same (get_or facts i d) about).1 (λ w holds. holds i d lt)))

  add_alike : (f : Fact) → Alike vars (Entails (facts ++ f ∷ [])) (FollowsWith vars f t)
  add_alike f goal about = (
    (λ h v met new. h v (All-from_recursion (Holds v) (facts ++ f ∷ []) (put_behind v f facts (recursion_from_All (Holds v) facts (from_table v met)) new))),
    (λ h v met. (let parts = split v f facts (recursion_from_All (Holds v) (facts ++ f ∷ []) met) in h v (to_table v (All-from_recursion (Holds v) facts parts.0)) parts.1)),
  )

  kill_alike : (x : ℕ) → x < vars → Alike vars (FollowsWithout x facts) (FollowsWithoutNamed vars x t)
  kill_alike x lt goal about = (
    (λ h v all. h v (λ f without entailed. (let some = met_with_some vars t closed x lt v all in some.2 f without (entailed some.0 (from_table some.0 some.1))))),
    (λ h v all. h v (λ f ab without e. all f without ((same f ab).0 e))),
  )

-- ---- steps

module _ (vars : ℕ) (F G : List Fact) (t u : ClosedTable) (before : Shows vars F t) (after : Shows vars G u) (empty : u ≡ no_facts vars → G ≡ []) where
  pub add_leaves : (f : Fact) → IsAbout vars f → u ≡ with_fact vars f t → Leaves vars (Entails (F ++ f ∷ [])) G
  add_leaves f about e = leaves_shown vars (Entails (F ++ f ∷ [])) (FollowsWith vars f t) G u (add_alike vars F t before.about before.closed before.same f)
      (subst (IsLeft vars (FollowsWith vars f t)) (sym e) ((are_exact vars t before.closed).add f about)) after.same empty

  pub kill_leaves : (x : ℕ) → x < vars → u ≡ without vars x t → Leaves vars (FollowsWithout x F) G
  kill_leaves x lt e = leaves_shown vars (FollowsWithout x F) (FollowsWithoutNamed vars x t) G u (kill_alike vars F t before.about before.closed before.same x lt)
      (subst (IsLeft vars (FollowsWithoutNamed vars x t)) (sym e) (stays_left vars (FollowsWithoutNamed vars x t) (without vars x t) ((give_tables vars).kill t x before.closed) ((are_exact vars t before.closed).kill x lt))) after.same empty

  pub shift_leaves : (x : ℕ) (c : ℤ) → x < vars → u ≡ shifted vars x c t → Leaves vars (λ goal. Entails F (moved x c goal)) G
  shift_leaves x c lt e = leaves_shown vars (λ goal. Entails F (moved x c goal)) (λ goal. entails_fact (moved x c goal) t ≡ true) G u
      (λ goal about. (let s = before.same (moved x c goal) (record { left = about.left; right = about.right }) in (s.1, s.0)))
      (subst (IsLeft vars (λ goal. entails_fact (moved x c goal) t ≡ true)) (sym e) ((are_exact vars t before.closed).shift x c lt)) after.same empty

  pub join_same : (K : List Fact) (w : ClosedTable) → Shows vars K w → u ≡ joined vars t w → (goal : Fact) → IsAbout vars goal → Entails G goal ↔ BothEntail F K goal
  join_same K w other e goal about =
      let says = subst (λ u. (entails_fact goal u ≡ true) ↔ ((entails_fact goal t ≡ true) × (entails_fact goal w ≡ true))) (sym e) ((are_exact vars t before.closed).join w other.closed goal about) in
      let p = before.same goal about in let q = other.same goal about in let r = after.same goal about in (
        (λ h. let both = says.0 (r.1 h) in (p.0 both.0, q.0 both.1)),
        (λ h. r.0 (says.1 (p.1 h.0, q.1 h.1))),
      )

both_true : (a b : Bool) → (a ≡ true → b ≡ true) → (b ≡ true → a ≡ true) → a ≡ b
both_true true b f g = sym (f refl)
both_true false true f g = g refl
both_true false false f g = refl

pub show_one : ShowOne
show_one vars facts t u a b = have_one_form vars t u a.closed b.closed (λ goal about. both_true (entails_fact goal t) (entails_fact goal u)
    (λ e. (b.same goal about).1 ((a.same goal about).0 e)) (λ e. (a.same goal about).1 ((b.same goal about).0 e)))

not_true : (b : Bool) → (b ≡ true → ⊥) → false ≡ b
not_true true h = absurd (h refl)
not_true false h = refl

pub answers_are_shown : AnswersAreShown
answers_are_shown vars facts t goal (Yes path) shows about h =
    sym ((shows.same goal about).1 (λ v m. h.1 v (λ i d lt. All-contains (Holds v) facts (get_or path.facts.items i d) m (h.0 i d lt))))
answers_are_shown vars facts t goal (No valuation) shows about h =
    not_true (entails_fact goal t) (λ e. h.1 ((shows.same goal about).0 e (numbers_of valuation.values.items) h.0))

-- ---- facts about the variables

below_of : (vars : ℕ) (o : Option ℕ) → node_of o < vars + 1 → IsBelow vars o
below_of vars None h = tt
below_of vars (Some x) h = omega (arith, h)

pub about_nodes : (vars : ℕ) (f : Fact) → node_of f.left < vars + 1 → node_of f.right < vars + 1 → IsAbout vars f
about_nodes vars f left right = record { left = below_of vars f.left left; right = below_of vars f.right right }

pub kept_about : (vars : ℕ) (facts : List Fact) → All (IsKept (vars + 1)) facts → All (IsAbout vars) facts
kept_about vars facts kept = λ i d lt. (let h = kept i d lt in about_nodes vars (get_or facts i d) h.left h.right)
