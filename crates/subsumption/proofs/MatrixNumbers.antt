-- The numbers that a matrix gives meet all that it knows, and break what it doesn't.
use Rattle.std.proofs.Common.{ℕ, zero, suc, ◌+◌, ◌^◌, ◌<◌, ◌≡◌, ◌==◌, ℤ, pos, ◌+ℤ◌, ◌-ℤ◌, ◌≤ℤ◌, Bool, true, false, cond, Option, None, Some, List, refl, sym, ◌∙◌, ap, subst, arith, ◌⊎◌, inl, inr}
use Rattle.std.proofs.lemmas.Int.{ints}
use Rattle.std.proofs.lemmas.Bool.{cases_eq}
use Rattle.std.proofs.lemmas.Bool.Decides.{nat_tests}
use Rattle.subsumption.specs.declared.fact.Fact.{Fact}
use Rattle.subsumption.specs.Graphs.{node_of, IsWithin}
use Rattle.subsumption.specs.Distances.{is_near}
use Rattle.subsumption.specs.declared.row.Step.{Step}
use Rattle.subsumption.specs.Facts.{Holds, Meets, numbers_of}
use Rattle.subsumption.specs.Squares.{Cells}
use Rattle.subsumption.specs.ClosedTables.{AtMost, smaller_of}
use Rattle.subsumption.specs.Matrices.{cell, plus_of, constants_of, AreNear}
use Rattle.subsumption.specs.MatrixPaths.{facts_of, IsCanonical}
use Rattle.subsumption.specs.MatrixWays.{start_of, cost_of, least_below, or_zero, number_of, AreNumbers}
use Rattle.subsumption.proofs.TableConstants.{at_most_up, smaller_from, smaller_to, sum_from, sum_to}
use Rattle.subsumption.proofs.TableChanges.{to_same, from_same}
use Rattle.subsumption.proofs.TableNumbers.{at_least, numbers, numbers_below, numbers_reached, numbers_meet}
use Rattle.subsumption.proofs.TableSteps.{nodes, holds_node}
use Rattle.subsumption.proofs.MatrixFacts.{meets_facts}

-- ---- constants that aren't large

pub near_within : (d : ℤ) → is_near (Some d) ≡ true → IsWithin (2 ^ 100) d
near_within d e = record { low = grind (arith, ints, nat_tests); high = grind (arith, ints, nat_tests) }

pub cell_within : (m : Cells) (i j : ℕ) (o : Option Step) (s : Step) → AreNear m → i < m.n → j < m.n → o ≡ cell m i j → o ≡ Some s → IsWithin (2 ^ 100) s.plus
cell_within m i j o s near li lj e f = near_within s.plus (ap (λ o. is_near (plus_of o)) (sym f ∙ e) ∙ near i j li lj)

-- ---- the least of some constants

pub least_more : (f : ℕ → Option ℤ) (n : ℕ) → least_below f (n + 1) ≡ smaller_of (least_below f n) (f n)
unfolding least_below
least_more f n = (let e : suc n ≡ n + 1 = omega arith in ap (least_below f) (sym e))

pub least_none : (f : ℕ → Option ℤ) → None ≡ least_below f 0
unfolding least_below
least_none f = refl

least_at : (f : ℕ → Option ℤ) (n w : ℕ) (e : ℤ) → w < n → AtMost (f w) e → AtMost (least_below f n) e
unfolding least_below
least_at f zero w e lt h = absurd (omega arith)
least_at f (suc n) w e lt h = elim (cases_eq w n) [
  | inl same ↦ smaller_to (least_below f n) (f n) e (inr (subst (λ w. AtMost (f w) e) same h))
  | inr ne ↦ smaller_to (least_below f n) (f n) e (inl (least_at f n w e (omega arith) h))
]

least_from : (f : ℕ → Option ℤ) (n : ℕ) (e : ℤ) → AtMost (least_below f n) e → (w : ℕ) × (w < n) × AtMost (f w) e
unfolding least_below
least_from f zero e h = absurd h
least_from f (suc n) e h = elim (smaller_from (least_below f n) (f n) e h) [
  | inl a ↦ (let r = least_from f n e a in let lt = r.1 in (r.0, omega (arith, lt), r.2))
  | inr b ↦ (n, omega arith, b)
]

least_some : (o : Option ℤ) (d : ℤ) → AtMost o d → ((e : ℤ) → AtMost o e → d ≤ℤ e) → o ≡ Some d
least_some None d h low = absurd h
least_some (Some c) d h low = (let le = low c (omega (arith, ints)) in let e : c ≡ d = omega (arith, ints, le, h) in ap Some e)

start_here : (y : ℕ) (b : Bool) → (y == y) ≡ b → cond b (pos 0) (pos (2 ^ 102)) ≡ pos 0
start_here y true e = refl
start_here y false e = absurd (grind (arith, nat_tests))

start_by : (y w : ℕ) (b : Bool) → (w == y) ≡ b → ((w ≡ y) × (cond b (pos 0) (pos (2 ^ 102)) ≡ pos 0)) ⊎ (cond b (pos 0) (pos (2 ^ 102)) ≡ pos (2 ^ 102))
start_by y w true e = inl ((grind (arith, nat_tests)), refl)
start_by y w false e = inr refl

-- where a path leads to y, no other node allows less
pub least_direct : (m : Cells) (y z : ℕ) (o : Option Step) (s : Step) → AreNear m → y < m.n → z < m.n → o ≡ cell m z y → o ≡ Some s → Some s.plus ≡ least_below (cost_of m y z) m.n
least_direct m y z o s near ly lz e f =
    let there : constants_of m z y ≡ Some s.plus = ap plus_of (sym e ∙ f) in
    let small = cell_within m z y o s near lz ly e f in
    let high = small.high in
    let zero_y : start_of y y ≡ pos 0 = start_here y (y == y) refl in
    let at = sum_to (constants_of m z y) (Some (start_of y y)) s.plus (start_of y y) (to_same (Some s.plus) (constants_of m z y) s.plus there (omega (arith, ints))) (omega (arith, ints)) in
    sym (least_some (least_below (cost_of m y z) m.n) s.plus
    (least_at (cost_of m y z) m.n y s.plus ly (at_most_up (cost_of m y z y) (s.plus +ℤ start_of y y) s.plus at (omega (arith, ints, zero_y))))
    (λ e h. let w = least_from (cost_of m y z) m.n e h in
    let sum = sum_from (constants_of m z w.0) (Some (start_of y w.0)) e w.2 in
    let right = sum.right in let fits = sum.fits in
    elim (start_by y w.0 (w.0 == y) refl) [
      | inl same ↦ (
          let q : start_of y w.0 ≡ pos 0 = same.1 in
          let le : s.plus ≤ℤ sum.first = from_same (Some s.plus) (constants_of m z y) sum.first there (subst (λ w. AtMost (constants_of m z w) sum.first) same.0 sum.left) in
          omega (arith, ints, q, le, right, fits))
      | inr q ↦ (
          let r : start_of y w.0 ≡ pos (2 ^ 102) = q in
          let d = at_least (constants_of m z w.0) sum.first sum.left in
          let within = near_within d.0 (ap is_near (sym d.1) ∙ near z w.0 lz w.1) in
          let low = within.low in let le = d.2 in
          omega (arith, ints, high, r, low, le, right, fits))
    ]))

module _ (m : Cells) (canonical : IsCanonical m) (y : ℕ) where
  abbrev v : ℕ → ℤ
  v = numbers m.n (constants_of m) canonical.closed (start_of y)

  number_is : (z : ℕ) → z < m.n → number_of m y z ≡ v z
  number_is z lz = ap or_zero (least_some (least_below (cost_of m y z) m.n) (v z)
      (let r = numbers_reached m.n (constants_of m) canonical.closed (start_of y) z lz in
      let fits = r.2.2 in
      let at = sum_to (constants_of m z r.0) (Some (start_of y r.0)) r.2.0 (start_of y r.0) r.2.1 (omega (arith, ints)) in
      at_most_up (least_below (cost_of m y z) m.n) (r.2.0 +ℤ start_of y r.0) (v z) (least_at (cost_of m y z) m.n r.0 (r.2.0 +ℤ start_of y r.0) r.1 at) fits)
      (λ e h. let w = least_from (cost_of m y z) m.n e h in
      let sum = sum_from (constants_of m z w.0) (Some (start_of y w.0)) e w.2 in
      let below = numbers_below m.n (constants_of m) canonical.closed (start_of y) z w.0 sum.first lz w.1 sum.left in
      let a = sum.right in let b = sum.fits in omega (arith, ints, below, a, b)))

  -- what isn't known is broken
  broken : (x : ℕ) (c : ℤ) → x < m.n → y < m.n → IsWithin (2 ^ 66) c → (AtMost (constants_of m x y) c → ⊥) → v x ≤ℤ (v y +ℤ c) → ⊥
  broken x c lx ly small unknown h =
      let zero_y : start_of y y ≡ pos 0 = start_here y (y == y) refl in
      let low = numbers_below m.n (constants_of m) canonical.closed (start_of y) y y (pos 0) ly ly (to_same (Some (pos 0)) (constants_of m y y) (pos 0) (canonical.closed.diagonal y ly) (omega (arith, ints))) in
      let r = numbers_reached m.n (constants_of m) canonical.closed (start_of y) x lx in
      let w = r.0 in let d = r.2.0 in let fits = r.2.2 in
      elim (start_by y w (w == y) refl) [
        | inl same ↦ (let q = same.1 in unknown (at_most_up (constants_of m x y) d c (subst (λ w. AtMost (constants_of m x w) d) same.0 r.2.1) (omega (arith, ints, h, zero_y, low, fits, q))))
        | inr q ↦ (
            let e = at_least (constants_of m x w) d r.2.1 in
            let near = near_within e.0 (ap is_near (sym e.1) ∙ canonical.near x w lx r.1) in
            let far = near.low in let le = e.2 in let few = small.high in
            let s : start_of y w ≡ pos (2 ^ 102) = q in
            absurd (omega (arith, ints, h, zero_y, low, fits, s, far, le, few)))
      ]

  module _ (values : List ℤ) (are : AreNumbers m y values) where
    node_is : (i : ℕ) → i < m.n → nodes (numbers_of values) i ≡ v i -ℤ v 0
    unfolding nodes
    node_is zero li = omega (arith, ints)
    node_is (suc i) li =
        let size = are.size in
        let e = are.each i (omega (arith, size, li)) in
        let one : i + 1 ≡ suc i = omega arith in
        let p : number_of m y (i + 1) ≡ v (suc i) = ap (number_of m y) one ∙ number_is (suc i) li in
        let q = number_is 0 (omega (arith, li)) in
        omega (arith, ints, e, p, q)

    pub numbers_meet_facts : Meets (numbers_of values) (facts_of m)
    numbers_meet_facts = meets_facts m (numbers_of values) (λ i j c li lj at.
        let le = numbers_meet m.n (constants_of m) canonical.closed (start_of y) i j c li lj at in
        let p = node_is i li in let q = node_is j lj in omega (arith, ints, le, p, q))

    pub numbers_break : (goal : Fact) → node_of goal.left < m.n → node_of goal.right ≡ y → y < m.n → IsWithin (2 ^ 66) goal.plus → (AtMost (constants_of m (node_of goal.left) y) goal.plus → ⊥) → Holds (numbers_of values) goal → ⊥
    numbers_break goal lx e ly small unknown holds =
        let h = holds_node (numbers_of values) goal holds in
        let p = node_is (node_of goal.left) lx in
        let q = node_is y ly in
        let r : nodes (numbers_of values) (node_of goal.right) ≡ nodes (numbers_of values) y = ap (nodes (numbers_of values)) e in
        broken (node_of goal.left) goal.plus lx ly small unknown (omega (arith, ints, h, p, q, r))
