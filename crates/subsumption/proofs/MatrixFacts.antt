-- The facts of a matrix of steps: one for each two, and together they entail what the least constants say.
use Rattle.std.proofs.Common.{ℕ, zero, suc, ◌+◌, ◌-◌, ◌<◌, ◌≡◌, ◌≢◌, ◌==◌, ℤ, pos, ◌+ℤ◌, ◌≤ℤ◌, Bool, true, false, cond, Option, None, Some, List, [], ◌∷◌, ◌++◌, length, get_or, refl, sym, ◌∙◌, ap, subst, arith, inl, inr}
use Rattle.std.specs.List.{All, Contains}
use Rattle.std.proofs.lemmas.Int.{ints}
use Rattle.std.proofs.lemmas.Bool.{cases_eq, cases_lt}
use Rattle.std.proofs.lemmas.Bool.Decides.{nat_tests}
use Rattle.std.proofs.lemmas.List.{length-append, get_or_append_left, get_or-append_right}
use Rattle.std.proofs.lemmas.List.Elements.{All-nil, All-cons, All-append, All-contains, All-weaker, Contains-append_left, Contains-append_right}
use Rattle.subsumption.specs.declared.fact.Fact.{Fact}
use Rattle.subsumption.specs.Graphs.{fact_at, node_of, at_index}
use Rattle.subsumption.specs.declared.row.Step.{Step}
use Rattle.subsumption.specs.Facts.{Holds, Meets, Entails, IsAlike, HasOneEach}
use Rattle.subsumption.specs.Squares.{Cells}
use Rattle.subsumption.specs.ClosedTables.{Least, rows_of, are_near, entry}
use Rattle.subsumption.specs.TableLaws.{IsClosed, IsTable, SaysExactly}
use Rattle.subsumption.specs.Matrices.{cell, plus_of, constants_of}
use Rattle.subsumption.specs.MatrixPaths.{fact_by, facts_between, listed, facts_of, IsCanonical}
use Rattle.subsumption.proofs.TableConstants.{MeetsPairs, at_most_from}
use Rattle.subsumption.proofs.TableChanges.{entry_is, to_same, from_same}
use Rattle.subsumption.proofs.TableSteps.{nodes, holds_node, node_holds, below_node, to_pairs, made_closed, near_rows, entails_exactly}
use Rattle.subsumption.proofs.Lists.{node_of-at_index}
use Rattle.subsumption.proofs.Ones.{alike_along, one_none}

-- ---- lists one behind the other

listed_all : {A : Type 0} (P : A → Type 0) (n : ℕ) (f : ℕ → List A) → ((k : ℕ) → k < n → All P (f k)) → All P (listed n f)
unfolding listed
listed_all P zero f h = All-nil P
listed_all P (suc n) f h = All-append P (listed n f) (f n) (listed_all P n f (λ k lt. h k (omega arith))) (h n (omega arith))

listed_has : {A : Type 0} (n : ℕ) (f : ℕ → List A) (k : ℕ) (a : A) → k < n → Contains (f k) a → Contains (listed n f) a
unfolding listed
listed_has zero f k a lt h = absurd (omega arith)
listed_has (suc n) f k a lt h = elim (cases_eq k n) [
  | inl same ↦ Contains-append_right (listed n f) (f n) a (subst (λ k. Contains (f k) a) same h)
  | inr ne ↦ Contains-append_left (listed n f) (f n) a (listed_has n f k a (omega arith) h)
]

pub listed_none : {A : Type 0} (n : ℕ) (f : ℕ → List A) → ((k : ℕ) → k < n → f k ≡ []) → listed n f ≡ []
unfolding listed
listed_none zero f h = refl
listed_none (suc n) f h = ap (λ xs. xs ++ f n) (listed_none n f (λ k lt. h k (omega arith))) ∙ h n (omega arith)

one_append : (F G : List Fact) → HasOneEach F → HasOneEach G → All (λ f. All (λ g. IsAlike f g → ⊥) G) F → HasOneEach (F ++ G)
one_append F G one two apart = record {
  apart = λ i j d lt in' alike. (let size = length-append F G in elim (cases_lt j (length F)) [
    | inl jl ↦ one.apart i j d lt jl (alike_along _ _ _ _ (get_or_append_left F G d i (omega (arith, jl, lt))) (get_or_append_left F G d j jl) alike)
    | inr jr ↦ (let right : get_or (F ++ G) j d ≡ get_or G (j - length F) d = get_or-append_right F G (length F) j d refl jr in elim (cases_lt i (length F)) [
      | inl il ↦ apart i d il (j - length F) d (omega (arith, size, in', jr)) (alike_along _ _ _ _ (get_or_append_left F G d i il) right alike)
      | inr ir ↦ two.apart (i - length F) (j - length F) d (omega (arith, ir, lt)) (omega (arith, size, in', jr)) (alike_along _ _ _ _ (get_or-append_right F G (length F) i d refl ir) right alike)
    ])
  ]);
}

-- lists with one fact each, whose facts a number tells apart
listed_one : (key : Fact → ℕ) → ((f g : Fact) → IsAlike f g → key f ≡ key g) → (n : ℕ) (f : ℕ → List Fact) → ((k : ℕ) → k < n → HasOneEach (f k)) → ((k : ℕ) → k < n → All (λ g. key g ≡ k) (f k)) → HasOneEach (listed n f)
unfolding listed
listed_one key same zero f one at = one_none
listed_one key same (suc n) f one at =
    let below : All (λ g. key g < n) (listed n f) = listed_all (λ g. key g < n) n f (λ k lt. All-weaker (λ g. key g ≡ k) (λ g. key g < n) (λ g e. omega (arith, e, lt)) (f k) (at k (omega arith))) in
    let here = at n (omega arith) in
    one_append (listed n f) (f n) (listed_one key same n f (λ k lt. one k (omega arith)) (λ k lt. at k (omega arith))) (one n (omega arith))
    (λ i d li j e lj alike. let p = below i d li in let q = here j e lj in let r = same (get_or (listed n f) i d) (get_or (f n) j e) alike in absurd (omega (arith, p, q, r)))

-- ---- the facts of a matrix

module _ (m : Cells) where
  between_all : (P : Fact → Type 0) (i j : ℕ) → ((s : Step) → i ≢ j → cell m i j ≡ Some s → s.first ≡ j → P (fact_at (at_index i) (at_index j) s.plus)) → All P (facts_between m i j)
  between_all P i j h = by (i == j) refl (cell m i j) refl
    where
      put : (s : Step) (b : Bool) → (s.first == j) ≡ b → i ≢ j → cell m i j ≡ Some s → All P (cond b (fact_at (at_index i) (at_index j) s.plus ∷ []) [])
      put s true e ne q = All-cons P (fact_at (at_index i) (at_index j) s.plus) [] (h s ne q (grind (arith, nat_tests))) (All-nil P)
      put s false e ne q = All-nil P

      by : (b : Bool) → (i == j) ≡ b → (o : Option Step) → cell m i j ≡ o → All P (cond b [] (fact_by i j o))
      by true e o q = All-nil P
      by false e None q = All-nil P
      by false e (Some s) q = put s (s.first == j) refl (λ same. grind (arith, nat_tests)) q

  between_has : (i j : ℕ) (s : Step) → i ≢ j → cell m i j ≡ Some s → s.first ≡ j → Contains (facts_between m i j) (fact_at (at_index i) (at_index j) s.plus)
  between_has i j s ne q same = by (i == j) refl
    where
      here : (b : Bool) → (s.first == j) ≡ b → Contains (cond b (fact_at (at_index i) (at_index j) s.plus ∷ []) []) (fact_at (at_index i) (at_index j) s.plus)
      here true e = (0, omega arith, refl)
      here false e = absurd (grind (arith, nat_tests))

      by : (b : Bool) → (i == j) ≡ b → Contains (cond b [] (fact_by i j (cell m i j))) (fact_at (at_index i) (at_index j) s.plus)
      by true e = absurd (ne (grind (arith, nat_tests)))
      by false e = subst (λ o. Contains (fact_by i j o) (fact_at (at_index i) (at_index j) s.plus)) (sym q) (here (s.first == j) refl)

  between_one : (i j : ℕ) → HasOneEach (facts_between m i j)
  between_one i j = by (i == j) (cell m i j)
    where
      single : (f : Fact) → HasOneEach (f ∷ [])
      single f = record { apart = λ i j d lt in' alike. absurd (omega (arith, lt, in')) }

      put : (s : Step) (b : Bool) → HasOneEach (cond b (fact_at (at_index i) (at_index j) s.plus ∷ []) [])
      put s true = single (fact_at (at_index i) (at_index j) s.plus)
      put s false = one_none

      by : (b : Bool) (o : Option Step) → HasOneEach (cond b [] (fact_by i j o))
      by true o = one_none
      by false None = one_none
      by false (Some s) = put s (s.first == j)

  pub facts_all : (P : Fact → Type 0) → ((i j : ℕ) (s : Step) → i < m.n → j < m.n → i ≢ j → cell m i j ≡ Some s → s.first ≡ j → P (fact_at (at_index i) (at_index j) s.plus)) → All P (facts_of m)
  facts_all P h = listed_all P m.n (λ i. listed m.n (λ j. facts_between m i j)) (λ i li. listed_all P m.n (λ j. facts_between m i j) (λ j lj. between_all P i j (λ s. h i j s li lj)))

  pub facts_has : (i j : ℕ) (s : Step) → i < m.n → j < m.n → i ≢ j → cell m i j ≡ Some s → s.first ≡ j → Contains (facts_of m) (fact_at (at_index i) (at_index j) s.plus)
  facts_has i j s li lj ne q same = listed_has m.n (λ i. listed m.n (λ j. facts_between m i j)) i (fact_at (at_index i) (at_index j) s.plus) li
      (listed_has m.n (λ j. facts_between m i j) j (fact_at (at_index i) (at_index j) s.plus) lj (between_has i j s ne q same))

  pub facts_one : HasOneEach (facts_of m)
  facts_one = listed_one (λ f. node_of f.left) (λ f g alike. ap node_of alike.left) m.n (λ i. listed m.n (λ j. facts_between m i j))
      (λ i li. listed_one (λ f. node_of f.right) (λ f g alike. ap node_of alike.right) m.n (λ j. facts_between m i j) (λ j lj. between_one i j)
      (λ j lj. between_all (λ f. node_of f.right ≡ j) i j (λ s ne q same. node_of-at_index j)))
      (λ i li. listed_all (λ f. node_of f.left ≡ i) m.n (λ j. facts_between m i j) (λ j lj. between_all (λ f. node_of f.left ≡ i) i j (λ s ne q same. node_of-at_index i)))

  -- numbers that meet the constants meet the facts
  pub meets_facts : (v : ℕ → ℤ) → MeetsPairs m.n (nodes v) (constants_of m) → Meets v (facts_of m)
  meets_facts v met = facts_all (Holds v) (λ i j s li lj ne e same.
      let le = met i j s.plus li lj (to_same (Some s.plus) (constants_of m i j) s.plus (ap plus_of e) (omega (arith, ints))) in
      node_holds v (fact_at (at_index i) (at_index j) s.plus) (let p : nodes v (node_of (at_index i)) ≡ nodes v i = ap (nodes v) (node_of-at_index i) in let q : nodes v (node_of (at_index j)) ≡ nodes v j = ap (nodes v) (node_of-at_index j) in omega (arith, ints, le, p, q)))

  some_plus : (o : Option Step) (d : ℤ) → plus_of o ≡ Some d → (s : Step) × (o ≡ Some s) × (s.plus ≡ d)
  some_plus None d e = absurd (cc)
  some_plus (Some s) d e = (s, refl, (cc))

  module _ (canonical : IsCanonical m) (v : ℕ → ℤ) (met : Meets v (facts_of m)) where
    -- by the rank of the path
    step_holds : (k i j : ℕ) (s : Step) → canonical.paths.rank i j < k → i < m.n → j < m.n → cell m i j ≡ Some s → nodes v i ≤ℤ (nodes v j +ℤ s.plus)
    step_holds zero i j s less li lj e = absurd (omega arith)
    step_holds (suc k) i j s less li lj e = elim (cases_eq i j) [
      | inl same ↦ (
          let q : constants_of m i j ≡ Some (pos 0) = ap (λ j. constants_of m i j) (sym same) ∙ canonical.closed.diagonal i li in
          let z : s.plus ≡ pos 0 = (let p : constants_of m i j ≡ Some s.plus = ap plus_of e in let r : Some s.plus ≡ Some (pos 0) = cc in cc) in
          let w : nodes v i ≡ nodes v j = ap (nodes v) same in omega (arith, ints, z, w))
      | inr ne ↦ (
          let on = canonical.paths.continues i j s li lj ne e in
          let here = All-contains (Holds v) (facts_of m) (fact_at (at_index i) (at_index s.first) on.head) met (facts_has i s.first (record { plus = on.head; first = s.first }) li on.room (λ q. on.apart (sym q)) on.fact refl) in
          let first = holds_node v (fact_at (at_index i) (at_index s.first) on.head) here in
          let p : nodes v (node_of (at_index i)) ≡ nodes v i = ap (nodes v) (node_of-at_index i) in
          let q : nodes v (node_of (at_index s.first)) ≡ nodes v s.first = ap (nodes v) (node_of-at_index s.first) in
          let rest = some_plus (cell m s.first j) on.rest on.behind in
          let sooner = on.sooner in
          let last = step_holds k s.first j rest.0 (omega (arith, sooner, less)) on.room lj rest.1 in
          let sum = on.sum in let r = rest.2 in
          omega (arith, ints, first, p, q, last, sum, r))
    ]

    pub facts_meet : MeetsPairs m.n (nodes v) (constants_of m)
    facts_meet i j c li lj at = by (cell m i j) refl
      where
        by : (o : Option Step) → cell m i j ≡ o → nodes v i ≤ℤ (nodes v j +ℤ c)
        by None e = absurd (from_same None (constants_of m i j) c (ap plus_of e) at)
        by (Some s) e = (let h = step_holds (suc (canonical.paths.rank i j)) i j s (omega arith) li lj e in let le : s.plus ≤ℤ c = from_same (Some s.plus) (constants_of m i j) c (ap plus_of e) at in omega (arith, ints, h, le))

-- ---- facts and their closed table

module _ (vars : ℕ) (m : Cells) (size : m.n ≡ vars + 1) (canonical : IsCanonical m) where
  pub table_rows : IsTable vars (Least (rows_of m.n (constants_of m)))
  table_rows = subst (λ n. IsTable vars (Least (rows_of n (constants_of m)))) (sym size)
      (made_closed (vars + 1) (constants_of m) (subst (λ n. IsClosed n (constants_of m)) size canonical.closed) (subst (λ n. are_near (rows_of n (constants_of m)) ≡ true) size (near_rows m.n (constants_of m) canonical.near)))

  pub says_rows : SaysExactly vars (Entails (facts_of m)) (Least (rows_of m.n (constants_of m)))
  says_rows goal about =
      let i = node_of goal.left in let j = node_of goal.right in
      let li : i < m.n = subst (λ n. i < n) (sym size) (below_node vars goal.left about.left) in
      let lj : j < m.n = subst (λ n. j < n) (sym size) (below_node vars goal.right about.right) in
      let there = entry_is m.n (constants_of m) i j li lj in (
        (λ e v met. node_holds v goal (facts_meet m canonical v met i j goal.plus li lj (from_same (constants_of m i j) (entry (rows_of m.n (constants_of m)) i j) goal.plus there (at_most_from (entry (rows_of m.n (constants_of m)) i j) goal.plus e)))),
        (λ h. (entails_exactly vars (Least (rows_of m.n (constants_of m))) goal table_rows about).1 (λ v met. h v (meets_facts m v (λ a b c la lb at.
            to_pairs vars (rows_of m.n (constants_of m)) v met a b c (subst (λ n. a < n) size la) (subst (λ n. b < n) size lb) (to_same (constants_of m a b) (entry (rows_of m.n (constants_of m)) a b) c (entry_is m.n (constants_of m) a b la lb) at))))),
      )
