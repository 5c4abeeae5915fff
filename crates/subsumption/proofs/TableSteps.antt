-- What closed tables entail, and their changes.
use Rattle.std.proofs.Common.{ℕ, zero, suc, ◌+◌, ◌^◌, ◌<◌, ◌≤◌, ◌≡◌, ◌≢◌, ℤ, pos, negsuc, neg_ℤ, ◌+ℤ◌, ◌-ℤ◌, ◌≤ℤ◌, ◌<ℤ◌, Bool, true, false, cond, ◌==◌, Option, None, Some, ◌∷◌, refl, sym, ◌∙◌, ap, subst, arith, ◌⊎◌, inl, inr}
use Rattle.std.specs.Prelude.{◌↔◌, ◌&&◌, unsigned_abs}
use Rattle.std.specs.List.{list_all}
use Rattle.std.proofs.lemmas.Int.{ints}
use Rattle.std.proofs.lemmas.Bool.{cases_eq}
use Rattle.std.proofs.lemmas.Bool.Decides.{nat_tests}
use Rattle.std.specs.Int.Signed.{le_z}
use Rattle.subsumption.specs.declared.fact.Fact.{Fact}
use Rattle.subsumption.specs.Distances.{is_near, longer_of}
use Rattle.subsumption.specs.Graphs.{fact_at, node_of}
use Rattle.subsumption.specs.Shifts.{moved, is_variable}
use Rattle.subsumption.specs.Facts.{value_of, Holds, IsAbout, IsBelow, IsWide, fact_of}
use Rattle.subsumption.specs.Tables.{IsWithout}
use Rattle.subsumption.specs.ClosedTables.{AtMost, is_at_most, Pairs, no_pairs, sum_of, added, killed, raised, shared, values_below, Rows, entry, rows_of, are_near, ClosedTable, Contradiction, Least, no_facts, table_of, is_broken, entails_fact, with_fact, without, shifted, joined}
use Rattle.subsumption.specs.TableLaws.{IsClosed, AreClosed, IsTable, GiveTables, MeetsTable, EntailsExactly, EntailsTermsExactly, NoFactsAreMet, SaysExactly, IsLeft, FollowsWith, FollowsWithoutNamed, AreExact, HaveOneForm}
use Rattle.subsumption.proofs.TableConstants.{MeetsPairs, put, at_most_from, at_most_to, at_most_up, longer_from, longer_to}
use Rattle.subsumption.proofs.TableNumbers.{complete, high, numbers, numbers_below, numbers_reached, numbers_meet, at_least}
use Rattle.subsumption.proofs.TableChanges.{entry_is, to_same, from_same, none_closed, none_met, rows_closed, added_closed, added_met, added_back, not_both, killed_is, killed_of, IsApart, killed_closed, put_other, raised_is, raised_of, raised_closed, offset, shared_closed}

-- ---- nodes

abbrev pub unnode : ℕ → Option ℕ
unnode zero = None
unnode (suc x) = Some x

pub node_unnode : (i : ℕ) → node_of (unnode i) ≡ i
node_unnode zero = refl
node_unnode (suc x) = refl

pub below_node : (vars : ℕ) (o : Option ℕ) → IsBelow vars o → node_of o < vars + 1
below_node vars None h = omega arith
below_node vars (Some x) h = omega (arith, h)

pub node_below : (vars : ℕ) (o : Option ℕ) → node_of o < vars + 1 → IsBelow vars o
node_below vars None h = tt
node_below vars (Some x) h = omega (arith, h)

-- numbers of nodes
unfoldable pub nodes : (ℕ → ℤ) → ℕ → ℤ
nodes v zero = pos 0
nodes v (suc x) = v x

pub nodes_value : (v : ℕ → ℤ) (o : Option ℕ) → nodes v (node_of o) ≡ value_of v o
unfolding nodes
nodes_value v None = refl
nodes_value v (Some x) = refl

pub counted : (ℕ → ℤ) → ℕ → ℤ
counted a i = a (suc i) -ℤ a 0

pub counted_is : (a : ℕ → ℤ) (i : ℕ) → nodes (counted a) i ≡ a i -ℤ a 0
unfolding nodes counted
counted_is a zero = omega (arith, ints)
counted_is a (suc i) = refl

-- a closed table knows all that holds of all valuations of variables
known : (n : ℕ) (t : Pairs) → IsClosed n t → (x y : ℕ) (c : ℤ) → x < n → y < n → ((v : ℕ → ℤ) → MeetsPairs n (nodes v) t → nodes v x ≤ℤ (nodes v y +ℤ c)) → AtMost (t x y) c
known n t closed x y c lx ly h = complete n t closed x y c lx ly (λ a meets.
    let at : nodes (counted a) x ≤ℤ (nodes (counted a) y +ℤ c) = h (counted a) (λ i j e li lj q.
    let m = meets i j e li lj q in let p = counted_is a i in let r = counted_is a j in omega (arith, ints, m, p, r)) in
    let p = counted_is a x in let r = counted_is a y in omega (arith, ints, at, p, r))

-- ---- rows whose constants are near

and_parts : (a b : Bool) → (a && b) ≡ true → (a ≡ true) × (b ≡ true)
and_parts true b e = (refl, e)
and_parts false b e = absurd (cc)

and_both : (a b : Bool) → a ≡ true → b ≡ true → (a && b) ≡ true
and_both true b e f = f
and_both false b e f = absurd (cc)

and_false : (a b : Bool) → (a && b) ≡ false → (a ≡ false) ⊎ (b ≡ false)
and_false true b e = inr e
and_false false b e = inl refl

module _ {A : Type 0} (p : A → Bool) where
  all_below : (n : ℕ) (f : ℕ → A) → list_all p (values_below n f) ≡ true → (i : ℕ) → i < n → p (f i) ≡ true
  all_below zero f e i lt = absurd (omega arith)
  all_below (suc n) f e zero lt = (and_parts (p (f 0)) (list_all p (values_below n (λ i. f (suc i)))) e).0
  all_below (suc n) f e (suc i) lt = all_below n (λ i. f (suc i)) (and_parts (p (f 0)) (list_all p (values_below n (λ i. f (suc i)))) e).1 i (omega arith)

  below_all : (n : ℕ) (f : ℕ → A) → ((i : ℕ) → i < n → p (f i) ≡ true) → list_all p (values_below n f) ≡ true
  below_all zero f h = refl
  below_all (suc n) f h = and_both (p (f 0)) (list_all p (values_below n (λ i. f (suc i)))) (h 0 (omega arith)) (below_all n (λ i. f (suc i)) (λ i lt. h (suc i) (omega (arith, lt))))

  not_all : (n : ℕ) (f : ℕ → A) → list_all p (values_below n f) ≡ false → (i : ℕ) × (i < n) × (p (f i) ≡ false)
  not_all zero f e = absurd (cc)
  not_all (suc n) f e = elim (and_false (p (f 0)) (list_all p (values_below n (λ i. f (suc i)))) e) [
    | inl h ↦ (0, omega arith, h)
    | inr h ↦ (let x = not_all n (λ i. f (suc i)) h in let lt = x.1 in (suc x.0, omega (arith, lt), x.2))
  ]

-- no constant of the pairs is too large
abbrev AreNear : ℕ → Pairs → Type 0
AreNear n t = (i j : ℕ) → i < n → j < n → is_near (t i j) ≡ true

pub rows_near : (n : ℕ) (t : Pairs) → are_near (rows_of n t) ≡ true → AreNear n t
rows_near n t e i j li lj = all_below is_near n (t i) (all_below (list_all is_near) n (λ i. values_below n (λ j. t i j)) e i li) j lj

pub near_rows : (n : ℕ) (t : Pairs) → AreNear n t → are_near (rows_of n t) ≡ true
near_rows n t h = below_all (list_all is_near) n (λ i. values_below n (λ j. t i j)) (λ i li. below_all is_near n (t i) (λ j lj. h i j li lj))

rows_far : (n : ℕ) (t : Pairs) → are_near (rows_of n t) ≡ false → (i j : ℕ) × (i < n) × (j < n) × (is_near (t i j) ≡ false)
rows_far n t e =
    let x = not_all (list_all is_near) n (λ i. values_below n (λ j. t i j)) e in
    let y = not_all is_near n (t x.0) x.2 in (x.0, y.0, x.1, y.1, y.2)

pub none_near : (n : ℕ) → AreNear n no_pairs
none_near n i j li lj = by (i == j)
  where
    by : (b : Bool) → is_near (cond b (Some (pos 0)) None) ≡ true
    by true = refl
    by false = refl

far_constant : (o : Option ℤ) → is_near o ≡ false → (d : ℤ) × (o ≡ Some d) × (2 ^ 100 < unsigned_abs d)
far_constant None e = absurd (cc)
far_constant (Some d) e = (d, refl, grind (arith, nat_tests))

pub least_near : (o : Option ℤ) (k : ℤ) → is_near o ≡ true → AtMost o k → (AtMost o (k -ℤ pos 1) → ⊥) → unsigned_abs k ≤ 2 ^ 100
least_near None k e h l = absurd h
least_near (Some d) k e h l = by (le_z d (k -ℤ pos 1)) refl
  where
    by : (b : Bool) → le_z d (k -ℤ pos 1) ≡ b → unsigned_abs k ≤ 2 ^ 100
    by true q = absurd (l (grind (arith, ints)))
    by false q = (let lt : (k -ℤ pos 1) <ℤ d = grind (arith, ints) in let same : d ≡ k = omega (arith, ints, lt, h) in let small : unsigned_abs d ≤ 2 ^ 100 = grind (arith, nat_tests) in subst (λ k. unsigned_abs k ≤ 2 ^ 100) same small)

-- ---- tables with the same constants

constant_same : (o p : Option ℤ) → ((c : ℤ) → is_at_most o c ≡ is_at_most p c) → o ≡ p
constant_same None None h = refl
constant_same None (Some e) h = absurd (let q = h e in let a : le_z e e ≡ true = grind (arith, ints) in cc)
constant_same (Some d) None h = absurd (let q = h d in let a : le_z d d ≡ true = grind (arith, ints) in cc)
constant_same (Some d) (Some e) h =
    let a : d ≤ℤ e = at_most_from (Some d) e (h e ∙ at_most_to (Some e) e (omega (arith, ints))) in
    let b : e ≤ℤ d = at_most_from (Some e) d (sym (h d) ∙ at_most_to (Some d) d (omega (arith, ints))) in
    let q : d ≡ e = omega (arith, ints, a, b) in ap Some q

below_same : {A : Type 0} (n : ℕ) (f g : ℕ → A) → ((i : ℕ) → i < n → f i ≡ g i) → values_below n f ≡ values_below n g
below_same zero f g h = refl
below_same (suc n) f g h = ap (λ x. x ∷ values_below n (λ i. f (suc i))) (h 0 (omega arith)) ∙ ap (λ xs. g 0 ∷ xs) (below_same n (λ i. f (suc i)) (λ i. g (suc i)) (λ i lt. h (suc i) (omega (arith, lt))))

pub rows_same : (n : ℕ) (t u : Pairs) → ((i j : ℕ) → i < n → j < n → t i j ≡ u i j) → rows_of n t ≡ rows_of n u
rows_same n t u h = below_same n (λ i. values_below n (λ j. t i j)) (λ i. values_below n (λ j. u i j)) (λ i li. below_same n (t i) (u i) (λ j lj. h i j li lj))

pub made_closed : (n : ℕ) (t : Pairs) → IsClosed n t → are_near (rows_of n t) ≡ true → AreClosed n (rows_of n t)
made_closed n t closed near = record { shape = rows_same n (entry (rows_of n t)) t (entry_is n t); closed = rows_closed n t closed; near = near }

pub none_table : (vars : ℕ) → IsTable vars (no_facts vars)
none_table vars = made_closed (vars + 1) no_pairs (none_closed (vars + 1)) (near_rows (vars + 1) no_pairs (none_near (vars + 1)))

pub guarded_table : (vars : ℕ) (t : Pairs) → IsClosed (vars + 1) t → IsTable vars (table_of vars t)
guarded_table vars t closed = by (are_near (rows_of (vars + 1) t)) refl
  where
    by : (b : Bool) → are_near (rows_of (vars + 1) t) ≡ b → IsTable vars (cond b (Least (rows_of (vars + 1) t)) (no_facts vars))
    by true e = made_closed (vars + 1) t closed e
    by false e = none_table vars

-- ---- what a table entails

pub holds_node : (v : ℕ → ℤ) (f : Fact) → Holds v f → nodes v (node_of f.left) ≤ℤ (nodes v (node_of f.right) +ℤ f.plus)
holds_node v f h = (let p = nodes_value v f.left in let q = nodes_value v f.right in omega (arith, ints, h, p, q))

pub node_holds : (v : ℕ → ℤ) (f : Fact) → nodes v (node_of f.left) ≤ℤ (nodes v (node_of f.right) +ℤ f.plus) → Holds v f
node_holds v f h = (let p = nodes_value v f.left in let q = nodes_value v f.right in omega (arith, ints, h, p, q))

-- a valuation meets a table exactly where the numbers of its nodes meet each two's constant
pub to_pairs : (vars : ℕ) (rows : Rows) (v : ℕ → ℤ) → MeetsTable vars v (Least rows) → MeetsPairs (vars + 1) (nodes v) (entry rows)
to_pairs vars rows v met i j c li lj at =
    let left = unnode i in let right = unnode j in
    let ei = node_unnode i in let ej = node_unnode j in
    let about : IsAbout vars (fact_at left right c) = record { left = node_below vars left (subst (λ i. i < vars + 1) (sym ei) li); right = node_below vars right (subst (λ i. i < vars + 1) (sym ej) lj) } in
    let there : AtMost (entry rows (node_of left) (node_of right)) c = to_same (entry rows i j) (entry rows (node_of left) (node_of right)) c (ap (λ i. entry rows i (node_of right)) ei ∙ ap (entry rows i) ej) at in
    let holds = met (fact_at left right c) about (at_most_to (entry rows (node_of left) (node_of right)) c there) in
    let p : nodes v i ≡ value_of v left = ap (nodes v) (sym ei) ∙ nodes_value v left in
    let q : nodes v j ≡ value_of v right = ap (nodes v) (sym ej) ∙ nodes_value v right in
    omega (arith, ints, holds, p, q)

pub from_pairs : (vars : ℕ) (rows : Rows) (v : ℕ → ℤ) → MeetsPairs (vars + 1) (nodes v) (entry rows) → MeetsTable vars v (Least rows)
from_pairs vars rows v met f about e = node_holds v f (met (node_of f.left) (node_of f.right) f.plus (below_node vars f.left about.left) (below_node vars f.right about.right)
    (at_most_from (entry rows (node_of f.left) (node_of f.right)) f.plus e))

pub entails_exactly : EntailsExactly
entails_exactly vars Contradiction goal table about = ((λ e v met. met goal about refl), (λ h. refl))
entails_exactly vars (Least rows) goal table about = (
  (λ e v met. met goal about e),
  (λ h. at_most_to (entry rows (node_of goal.left) (node_of goal.right)) goal.plus
      (known (vars + 1) (entry rows) table.closed (node_of goal.left) (node_of goal.right) goal.plus (below_node vars goal.left about.left) (below_node vars goal.right about.right)
      (λ v met. holds_node v goal (h v (from_pairs vars rows v met))))),
)

pub entails_terms_exactly : EntailsTermsExactly
entails_terms_exactly vars t a b table la lb =
    let exact = entails_exactly vars t (fact_of a b) table (record { left = la; right = lb }) in (
      (λ e v met. let holds = exact.0 e v met in omega (arith, ints, holds)),
      (λ h. exact.1 (λ v met. let holds = h v met in omega (arith, ints, holds))),
    )

none_meets : (vars : ℕ) (v : ℕ → ℤ) → MeetsPairs (vars + 1) (nodes v) (entry (rows_of (vars + 1) no_pairs))
none_meets vars v i j c li lj at = none_met (vars + 1) (nodes v) i j c li lj (from_same (no_pairs i j) (entry (rows_of (vars + 1) no_pairs) i j) c (entry_is (vars + 1) no_pairs i j li lj) at)

pub no_facts_met : NoFactsAreMet
no_facts_met vars v = from_pairs vars (rows_of (vars + 1) no_pairs) v (none_meets vars v)

-- ---- tables that entail the same

zero_below : (o : Option ℤ) → o ≡ Some (pos 0) → AtMost o (negsuc 0) → ⊥
zero_below o e h = (let P : Option ℤ → Type 0 = λ o. AtMost o (negsuc 0) in let le : pos 0 ≤ℤ negsuc 0 = subst P e h in omega (arith, ints, le))

not_below : (vars : ℕ) (rows : Rows) → AreClosed (vars + 1) rows → true ≡ entails_fact (fact_at None None (negsuc 0)) (Least rows) → ⊥
not_below vars rows table e = zero_below (entry rows 0 0) (table.closed.diagonal 0 (omega arith)) (at_most_from (entry rows 0 0) (negsuc 0) (sym e))

entries_same : (vars : ℕ) (rows others : Rows) → ((goal : Fact) → IsAbout vars goal → entails_fact goal (Least rows) ≡ entails_fact goal (Least others)) → (i j : ℕ) → i < vars + 1 → j < vars + 1 → entry rows i j ≡ entry others i j
entries_same vars rows others h i j li lj = constant_same (entry rows i j) (entry others i j) (λ c.
    let ei = node_unnode i in let ej = node_unnode j in
    let e = h (fact_at (unnode i) (unnode j) c) (record { left = node_below vars (unnode i) (subst (λ i. i < vars + 1) (sym ei) li); right = node_below vars (unnode j) (subst (λ i. i < vars + 1) (sym ej) lj) }) in
    let P : ℕ → ℕ → Type 0 = λ i j. is_at_most (entry rows i j) c ≡ is_at_most (entry others i j) c in
    subst (λ i. P i j) ei (subst (P (node_of (unnode i))) ej e))

pub have_one_form : HaveOneForm
have_one_form vars Contradiction Contradiction a b h = refl
have_one_form vars Contradiction (Least others) a b h = absurd (not_below vars others b (h (fact_at None None (negsuc 0)) (record { left = tt; right = tt })))
have_one_form vars (Least rows) Contradiction a b h = absurd (not_below vars rows a (sym (h (fact_at None None (negsuc 0)) (record { left = tt; right = tt }))))
have_one_form vars (Least rows) (Least others) a b h =
    let e : rows ≡ others = sym a.shape ∙ (rows_same (vars + 1) (entry rows) (entry others) (entries_same vars rows others h) ∙ b.shape) in ap Least e

-- ---- a step that leaves what pairs entail

-- what is entailed is what the pairs know
abbrev Tells : ℕ → (Fact → Type 0) → Pairs → Type 0
Tells vars entailed t = (goal : Fact) → IsAbout vars goal → entailed goal ↔ AtMost (t (node_of goal.left) (node_of goal.right)) goal.plus

module _ (vars : ℕ) (entailed : Fact → Type 0) (t : Pairs) (closed : IsClosed (vars + 1) t) (tells : Tells vars entailed t) where
  rows_say : SaysExactly vars entailed (Least (rows_of (vars + 1) t))
  rows_say goal about =
      let i = node_of goal.left in let j = node_of goal.right in
      let e = entry_is (vars + 1) t i j (below_node vars goal.left about.left) (below_node vars goal.right about.right) in
      let o = entry (rows_of (vars + 1) t) i j in (
        (λ x. (tells goal about).1 (from_same (t i j) o goal.plus e (at_most_from o goal.plus x))),
        (λ x. at_most_to o goal.plus (to_same (t i j) o goal.plus e ((tells goal about).0 x))),
      )

  not_wide : AreNear (vars + 1) t → IsWide vars entailed → ⊥
  not_wide near wide =
      let l = node_of wide.left in let r = node_of wide.right in
      let li = below_node vars wide.left wide.about.left in let lj = below_node vars wide.right wide.about.right in
      let about : (k : ℤ) → IsAbout vars (fact_at wide.left wide.right k) = λ k. record { left = wide.about.left; right = wide.about.right } in
      let small = least_near (t l r) wide.plus (near l r li lj) ((tells (fact_at wide.left wide.right wide.plus) (about wide.plus)).0 wide.least.holds)
      (λ h. wide.least.least ((tells (fact_at wide.left wide.right (wide.plus -ℤ pos 1)) (about (wide.plus -ℤ pos 1))).1 h)) in
      let big = wide.outside in omega (arith, small, big)

  is_wide : are_near (rows_of (vars + 1) t) ≡ false → IsWide vars entailed
  is_wide far =
      let x = rows_far (vars + 1) t far in
      let c = far_constant (t x.0 x.1) x.4 in
      let d = c.0 in
      let left = unnode x.0 in let right = unnode x.1 in
      let li : node_of left < vars + 1 = subst (λ i. i < vars + 1) (sym (node_unnode x.0)) x.2 in
      let lj : node_of right < vars + 1 = subst (λ i. i < vars + 1) (sym (node_unnode x.1)) x.3 in
      let about : (k : ℤ) → IsAbout vars (fact_at left right k) = λ k. record { left = node_below vars left li; right = node_below vars right lj } in
      let here : t (node_of left) (node_of right) ≡ Some d = ap (λ i. t i (node_of right)) (node_unnode x.0) ∙ (ap (t x.0) (node_unnode x.1) ∙ c.1) in
      record {
        met = λ h. zero_below (t 0 0) (closed.diagonal 0 (omega arith)) ((tells (fact_at None None (negsuc 0)) (record { left = tt; right = tt })).0 h);
        left = left;
        right = right;
        about = about (pos 0);
        plus = d;
        least = record {
          holds = (tells (fact_at left right d) (about d)).1 (to_same (Some d) (t (node_of left) (node_of right)) d here (omega (arith, ints)));
          least = λ h. (let le : d ≤ℤ (d -ℤ pos 1) = from_same (Some d) (t (node_of left) (node_of right)) (d -ℤ pos 1) here ((tells (fact_at left right (d -ℤ pos 1)) (about (d -ℤ pos 1))).0 h) in omega (arith, ints, le));
        };
        outside = c.2;
      }

  left_by : (b : Bool) → are_near (rows_of (vars + 1) t) ≡ b → IsLeft vars entailed (cond b (Least (rows_of (vars + 1) t)) (no_facts vars))
  left_by true e = inr (not_wide (rows_near (vars + 1) t e), rows_say)
  left_by false e = inl (is_wide e, refl)

  step_left : IsLeft vars entailed (table_of vars t)
  step_left = left_by (are_near (rows_of (vars + 1) t)) refl

  -- where no constant is too large
  near_says : AreNear (vars + 1) t → SaysExactly vars entailed (table_of vars t)
  near_says near = by (are_near (rows_of (vars + 1) t)) (near_rows (vars + 1) t near)
    where
      by : (b : Bool) → b ≡ true → SaysExactly vars entailed (cond b (Least (rows_of (vars + 1) t)) (no_facts vars))
      by true e = rows_say
      by false e = absurd (cc)

-- where everything is entailed
all_left : (vars : ℕ) (entailed : Fact → Type 0) → ((goal : Fact) → IsAbout vars goal → entailed goal) → IsLeft vars entailed Contradiction
all_left vars entailed all = inr ((λ wide. wide.met (all (fact_at None None (negsuc 0)) (record { left = tt; right = tt }))), (λ goal about. ((λ x. all goal about), (λ x. refl))))

pub entries_near : (vars : ℕ) (rows : Rows) → AreClosed (vars + 1) rows → AreNear (vars + 1) (entry rows)
entries_near vars rows table = rows_near (vars + 1) (entry rows) (ap are_near table.shape ∙ table.near)

-- where a table entails it already
pub stays_left : (vars : ℕ) (entailed : Fact → Type 0) (u : ClosedTable) → IsTable vars u → SaysExactly vars entailed u → IsLeft vars entailed u
stays_left vars entailed Contradiction table says = inr ((λ wide. wide.met ((says (fact_at None None (negsuc 0)) (record { left = tt; right = tt })).0 refl)), says)
stays_left vars entailed (Least rows) table says =
    let near = entries_near vars rows table in
    let tells : Tells vars entailed (entry rows) = λ goal about. (
      (λ x. at_most_from (entry rows (node_of goal.left) (node_of goal.right)) goal.plus ((says goal about).1 x)),
      (λ x. (says goal about).0 (at_most_to (entry rows (node_of goal.left) (node_of goal.right)) goal.plus x)),
    ) in inr (not_wide vars entailed (entry rows) table.closed tells near, says)

-- ---- the changes

here_by : (x : ℕ) (z : ℤ) (v : ℕ → ℤ) (b : Bool) → (x == x) ≡ b → cond b z (v x) ≡ z
here_by x z v true e = refl
here_by x z v false e = absurd (grind (arith, nat_tests))

put_here : (x : ℕ) (z : ℤ) (v : ℕ → ℤ) → put x z v x ≡ z
put_here x z v = here_by x z v (x == x) refl

module _ (vars : ℕ) (rows : Rows) (table : AreClosed (vars + 1) rows) where
  add_left : (f : Fact) → IsAbout vars f → (b : Bool) → is_broken (entry rows (node_of f.right) (node_of f.left)) f.plus ≡ b
      → IsLeft vars (FollowsWith vars f (Least rows)) (cond b Contradiction (table_of vars (added (node_of f.left) (node_of f.right) f.plus (entry rows))))
  add_left f about true e = all_left vars (FollowsWith vars f (Least rows)) (λ goal ab v met h. absurd (
      not_both (vars + 1) (node_of f.left) (node_of f.right) f.plus (entry rows) (below_node vars f.left about.left) (below_node vars f.right about.right) (nodes v) e (to_pairs vars rows v met) (holds_node v f h)))
  add_left f about false e =
      let x = node_of f.left in let y = node_of f.right in
      let lx = below_node vars f.left about.left in let ly = below_node vars f.right about.right in
      let u = added x y f.plus (entry rows) in
      let closed = added_closed (vars + 1) x y f.plus (entry rows) lx ly table.closed e in
      step_left vars (FollowsWith vars f (Least rows)) u closed (λ goal ab. (
        (λ h. known (vars + 1) u closed (node_of goal.left) (node_of goal.right) goal.plus (below_node vars goal.left ab.left) (below_node vars goal.right ab.right) (λ v met.
            let back = added_back (vars + 1) x y f.plus (entry rows) lx ly table.closed (nodes v) met in
            holds_node v goal (h v (from_pairs vars rows v back.0) (node_holds v f back.1)))),
        (λ at v met h.
            node_holds v goal (added_met (vars + 1) x y f.plus (entry rows) lx ly (nodes v) (to_pairs vars rows v met) (holds_node v f h) (node_of goal.left) (node_of goal.right) goal.plus (below_node vars goal.left ab.left) (below_node vars goal.right ab.right) at)),
      ))

  offset_is : (x : ℕ) (c : ℤ) (o : Option ℕ) (p q : Bool) → is_variable x o ≡ p → (node_of o == suc x) ≡ q → cond p c (pos 0) ≡ cond q c (pos 0)
  offset_is x c o true true ep eq = refl
  offset_is x c o false false ep eq = refl
  offset_is x c None true false ep eq = absurd (cc)
  offset_is x c (Some y) true false ep eq = absurd (grind (arith, nat_tests))
  offset_is x c None false true ep eq = absurd (grind (arith, nat_tests))
  offset_is x c (Some y) false true ep eq = absurd (grind (arith, nat_tests))

  shift_left : (x : ℕ) (c : ℤ) → IsLeft vars (λ goal. entails_fact (moved x c goal) (Least rows) ≡ true) (table_of vars (raised (suc x) c (entry rows)))
  shift_left x c =
      step_left vars (λ goal. entails_fact (moved x c goal) (Least rows) ≡ true) (raised (suc x) c (entry rows)) (raised_closed (vars + 1) (suc x) c (entry rows) table.closed) (λ goal about.
      let i = node_of goal.left in let j = node_of goal.right in
      let p = offset_is x c goal.left (is_variable x goal.left) (i == suc x) refl refl in
      let q = offset_is x c goal.right (is_variable x goal.right) (j == suc x) refl refl in (
        (λ h. raised_of (suc x) c (entry rows) i j (moved x c goal).plus goal.plus (at_most_from (entry rows i j) (moved x c goal).plus h) (omega (arith, ints, p, q))),
        (λ at. at_most_to (entry rows i j) (moved x c goal).plus (at_most_up (entry rows i j) ((goal.plus -ℤ offset (suc x) c i) +ℤ offset (suc x) c j) (moved x c goal).plus (raised_is (suc x) c (entry rows) i j goal.plus at) (omega (arith, ints, p, q)))),
      ))

  -- numbers that meet the table without x meet the whole table with some number for x
  module _ (x : ℕ) (v : ℕ → ℤ) (met : MeetsPairs (vars + 1) (nodes v) (killed (suc x) (entry rows))) where
    abbrev reach : ℕ → Option ℤ
    reach z = sum_of (entry rows z (suc x)) (Some (neg_ℤ (nodes v z)))

    abbrev far : ℤ
    far = (high reach (pos 0) (vars + 1)).0

    abbrev start : ℕ → ℤ
    start = put (suc x) far (nodes v)

    abbrev all : ℕ → ℤ
    all = numbers (vars + 1) (entry rows) table.closed start

    above : (z w : ℕ) (d : ℤ) → z < vars + 1 → w < vars + 1 → z ≢ suc x → AtMost (entry rows z w) d → nodes v z ≤ℤ (d +ℤ start w)
    above z w d lz lw ne at = elim (cases_eq w (suc x)) [
      | inl same ↦ (
          let there : AtMost (entry rows z (suc x)) d = subst (λ w. AtMost (entry rows z w) d) same at in
          let e = at_least (entry rows z (suc x)) d there in
          let far_enough = (high reach (pos 0) (vars + 1)).1 z (e.0 +ℤ neg_ℤ (nodes v z)) lz (ap (λ o. sum_of o (Some (neg_ℤ (nodes v z)))) e.1) in
          let le = e.2 in
          let s : start w ≡ far = ap start same ∙ put_here (suc x) far (nodes v) in
          omega (arith, ints, far_enough, le, s))
      | inr other ↦ (
          let le = met z w d lz lw (killed_of (suc x) (entry rows) z w d (inr (ne, other)) at) in
          let s = put_other (suc x) far (nodes v) w other in omega (arith, ints, le, s))
    ]

    unchanged : (z : ℕ) → z < vars + 1 → z ≢ suc x → all z ≡ nodes v z
    unchanged z lz ne =
        let low = numbers_below (vars + 1) (entry rows) table.closed start z z (pos 0) lz lz (to_same (Some (pos 0)) (entry rows z z) (pos 0) (table.closed.diagonal z lz) (omega (arith, ints))) in
        let s = put_other (suc x) far (nodes v) z ne in
        let r = numbers_reached (vars + 1) (entry rows) table.closed start z lz in
        let up = above z r.0 r.2.0 lz r.1 ne r.2.1 in
        let fits = r.2.2 in
        omega (arith, ints, low, s, up, fits)

    abbrev whole : ℕ → ℤ
    whole = put x (all (suc x)) v

    whole_node : (i : ℕ) → i < vars + 1 → nodes whole i ≡ all i
    unfolding nodes
    whole_node zero lt = sym (unchanged zero lt (λ e. absurd (omega (arith, e))))
    whole_node (suc i) lt = elim (cases_eq i x) [
      | inl same ↦ ap (put x (all (suc x)) v) same ∙ (put_here x (all (suc x)) v ∙ ap (λ i. all (suc i)) (sym same))
      | inr other ↦ put_other x (all (suc x)) v i other ∙ sym (unchanged (suc i) lt (λ e. other (omega (arith, e))))
    ]

    meets_all : MeetsTable vars whole (Least rows)
    meets_all = from_pairs vars rows whole (λ i j c li lj at. let le = numbers_meet (vars + 1) (entry rows) table.closed start i j c li lj at in let p = whole_node i li in let q = whole_node j lj in omega (arith, ints, le, p, q))

    value_other : (o : Option ℕ) → o ≢ Some x → value_of whole o ≡ value_of v o
    value_other None ne = refl
    value_other (Some y) ne = put_other x (all (suc x)) v y (λ e. ne (ap Some e))

    keeps : (f : Fact) → IsWithout x f → Holds whole f → Holds v f
    keeps f without h = (let p = value_other f.left without.left in let q = value_other f.right without.right in omega (arith, ints, h, p, q))

  variable_node : (x : ℕ) (o : Option ℕ) → o ≡ Some x → node_of o ≡ suc x
  variable_node x o e = ap node_of e

  pub near_killed : (x i j : ℕ) (o : Option ℤ) (p q r : Bool) → is_near o ≡ true → is_near (cond p o (cond q None (cond r None o))) ≡ true
  near_killed x i j o true q r h = h
  near_killed x i j o false true r h = refl
  near_killed x i j o false false true h = refl
  near_killed x i j o false false false h = h

  kill_tells : (x : ℕ) → Tells vars (FollowsWithoutNamed vars x (Least rows)) (killed (suc x) (entry rows))
  kill_tells x goal about = (
    (λ h. known (vars + 1) (killed (suc x) (entry rows)) (killed_closed (vars + 1) (suc x) (entry rows) table.closed) (node_of goal.left) (node_of goal.right) goal.plus (below_node vars goal.left about.left) (below_node vars goal.right about.right)
        (λ v met. holds_node v goal (h v (λ f ab without e. keeps x v met f without (meets_all x v met f ab e))))),
    (λ at v all. by goal about v all (killed_is (suc x) (entry rows) (node_of goal.left) (node_of goal.right) goal.plus at)),
  )
    where
      by : (goal : Fact) → IsAbout vars goal → (v : ℕ → ℤ) → ((f : Fact) → IsAbout vars f → IsWithout x f → entails_fact f (Least rows) ≡ true → Holds v f) → AtMost (entry rows (node_of goal.left) (node_of goal.right)) goal.plus × IsApart (suc x) (node_of goal.left) (node_of goal.right) → Holds v goal
      by goal about v all (at, inr apart) = all goal about (record { left = λ e. apart.0 (variable_node x goal.left e); right = λ e. apart.1 (variable_node x goal.right e) }) (at_most_to (entry rows (node_of goal.left) (node_of goal.right)) goal.plus at)
      by goal about v all (at, inl same) =
          let le : pos 0 ≤ℤ goal.plus = from_same (Some (pos 0)) (entry rows (node_of goal.left) (node_of goal.right)) goal.plus (ap (λ j. entry rows (node_of goal.left) j) (sym same) ∙ table.closed.diagonal (node_of goal.left) (below_node vars goal.left about.left)) at in
          let p : value_of v goal.left ≡ value_of v goal.right = sym (nodes_value v goal.left) ∙ (ap (nodes v) same ∙ nodes_value v goal.right) in
          omega (arith, ints, le, p)

  kill_rows : (x : ℕ) → SaysExactly vars (FollowsWithoutNamed vars x (Least rows)) (Least (rows_of (vars + 1) (killed (suc x) (entry rows))))
  kill_rows x = rows_say vars (FollowsWithoutNamed vars x (Least rows)) (killed (suc x) (entry rows)) (killed_closed (vars + 1) (suc x) (entry rows) table.closed) (kill_tells x)

  kill_says : (x : ℕ) → SaysExactly vars (FollowsWithoutNamed vars x (Least rows)) (table_of vars (killed (suc x) (entry rows)))
  kill_says x = near_says vars (FollowsWithoutNamed vars x (Least rows)) (killed (suc x) (entry rows)) (killed_closed (vars + 1) (suc x) (entry rows) table.closed) (kill_tells x)
      (λ i j li lj. near_killed (suc x) i j (entry rows i j) (i == j) (i == suc x) (j == suc x) (entries_near vars rows table i j li lj))

abbrev Both : ClosedTable → ClosedTable → Fact → Type 0
Both t u goal = (entails_fact goal t ≡ true) × (entails_fact goal u ≡ true)

pub near_longer : (o p : Option ℤ) → is_near o ≡ true → is_near p ≡ true → is_near (longer_of o p) ≡ true
near_longer None p h k = refl
near_longer (Some d) None h k = refl
near_longer (Some d) (Some e) h k = by (le_z d e)
  where
    by : (b : Bool) → is_near (Some (cond b e d)) ≡ true
    by true = k
    by false = h

join_says : (vars : ℕ) (t u : ClosedTable) → IsTable vars t → IsTable vars u → SaysExactly vars (Both t u) (joined vars t u)
join_says vars Contradiction u a b = λ goal about. ((λ x. (refl, x)), (λ h. h.1))
join_says vars (Least rows) Contradiction a b = λ goal about. ((λ x. (x, refl)), (λ h. h.0))
join_says vars (Least rows) (Least others) a b =
    near_says vars (Both (Least rows) (Least others)) (shared (entry rows) (entry others)) (shared_closed (vars + 1) (entry rows) (entry others) a.closed b.closed) (λ goal about.
    let i = node_of goal.left in let j = node_of goal.right in (
      (λ h. longer_to (entry rows i j) (entry others i j) goal.plus (at_most_from (entry rows i j) goal.plus h.0) (at_most_from (entry others i j) goal.plus h.1)),
      (λ at. let l = longer_from (entry rows i j) (entry others i j) goal.plus at in (at_most_to (entry rows i j) goal.plus l.0, at_most_to (entry others i j) goal.plus l.1)),
    )) (λ i j li lj. near_longer (entry rows i j) (entry others i j) (entries_near vars rows a i j li lj) (entries_near vars others b i j li lj))

-- facts that don't name x, and that nothing meets
none_unmet : {vars : ℕ} (x : ℕ) (v : ℕ → ℤ) → ((f : Fact) → IsAbout vars f → IsWithout x f → entails_fact f Contradiction ≡ true → Holds v f) → ⊥
none_unmet x v all =
    let h = all (fact_at None None (negsuc 0)) (record { left = tt; right = tt }) (record { left = λ e. absurd (cc); right = λ e. absurd (cc) }) refl in omega (arith, ints, h)

pub are_exact : AreExact
are_exact vars Contradiction table = record {
  add = λ f about. all_left vars (FollowsWith vars f Contradiction) (λ goal ab v met h. met goal ab refl);
  kill = λ x lt goal ab. ((λ e v all. absurd (none_unmet x v all)), (λ h. refl));
  shift = λ x c lt. all_left vars (λ goal. entails_fact (moved x c goal) Contradiction ≡ true) (λ goal ab. refl);
  join = λ u other. join_says vars Contradiction u table other;
}
are_exact vars (Least rows) table = record {
  add = λ f about. add_left vars rows table f about (is_broken (entry rows (node_of f.right) (node_of f.left)) f.plus) refl;
  kill = λ x lt. kill_says vars rows table x;
  shift = λ x c lt. shift_left vars rows table x c;
  join = λ u other. join_says vars (Least rows) u table other;
}

-- ---- changes of tables are tables

module _ (vars : ℕ) where
  add_table_by : (rows : Rows) (f : Fact) → AreClosed (vars + 1) rows → IsAbout vars f → (b : Bool) → is_broken (entry rows (node_of f.right) (node_of f.left)) f.plus ≡ b
      → IsTable vars (cond b Contradiction (table_of vars (added (node_of f.left) (node_of f.right) f.plus (entry rows))))
  add_table_by rows f table about true e = tt
  add_table_by rows f table about false e = guarded_table vars (added (node_of f.left) (node_of f.right) f.plus (entry rows))
      (added_closed (vars + 1) (node_of f.left) (node_of f.right) f.plus (entry rows) (below_node vars f.left about.left) (below_node vars f.right about.right) table.closed e)

  add_table : (t : ClosedTable) (f : Fact) → IsTable vars t → IsAbout vars f → IsTable vars (with_fact vars f t)
  add_table Contradiction f table about = tt
  add_table (Least rows) f table about = add_table_by rows f table about (is_broken (entry rows (node_of f.right) (node_of f.left)) f.plus) refl

  kill_table : (t : ClosedTable) (x : ℕ) → IsTable vars t → IsTable vars (without vars x t)
  kill_table Contradiction x table = tt
  kill_table (Least rows) x table = guarded_table vars (killed (suc x) (entry rows)) (killed_closed (vars + 1) (suc x) (entry rows) table.closed)

  shift_table : (t : ClosedTable) (x : ℕ) (c : ℤ) → IsTable vars t → IsTable vars (shifted vars x c t)
  shift_table Contradiction x c table = tt
  shift_table (Least rows) x c table = guarded_table vars (raised (suc x) c (entry rows)) (raised_closed (vars + 1) (suc x) c (entry rows) table.closed)

  join_table : (t u : ClosedTable) → IsTable vars t → IsTable vars u → IsTable vars (joined vars t u)
  join_table Contradiction u a b = b
  join_table (Least rows) Contradiction a b = a
  join_table (Least rows) (Least others) a b = guarded_table vars (shared (entry rows) (entry others)) (shared_closed (vars + 1) (entry rows) (entry others) a.closed b.closed)

  pub give_tables : GiveTables vars
  give_tables = record { none = none_table vars; add = add_table; kill = kill_table; shift = shift_table; join = join_table }

-- ---- numbers that meet what a table says without x meet all of it with some number for x

abbrev pub MetWithSome : ℕ → ClosedTable → ℕ → (ℕ → ℤ) → Type 0
MetWithSome vars t x v = (w : ℕ → ℤ) × MeetsTable vars w t × ((f : Fact) → IsWithout x f → Holds w f → Holds v f)

pub met_with_some : (vars : ℕ) (t : ClosedTable) → IsTable vars t → (x : ℕ) → x < vars → (v : ℕ → ℤ)
    → ((f : Fact) → IsAbout vars f → IsWithout x f → entails_fact f t ≡ true → Holds v f) → MetWithSome vars t x v
met_with_some vars Contradiction table x lt v all = absurd (none_unmet x v all)
met_with_some vars (Least rows) table x lt v all =
    let u = killed (suc x) (entry rows) in
    let said : MeetsTable vars v (Least (rows_of (vars + 1) u)) = λ goal about e. (kill_rows vars rows table x goal about).0 e v all in
    let met : MeetsPairs (vars + 1) (nodes v) u = λ i j c li lj at. to_pairs vars (rows_of (vars + 1) u) v said i j c li lj (to_same (u i j) (entry (rows_of (vars + 1) u) i j) c (entry_is (vars + 1) u i j li lj) at) in
    (whole vars rows table x v met, meets_all vars rows table x v met, keeps vars rows table x v met)
