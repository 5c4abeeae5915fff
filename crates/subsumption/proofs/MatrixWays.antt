-- Walks along the paths of a matrix.
use Rattle.std.proofs.Common.{ℕ, zero, suc, ◌+◌, ◌-◌, ◌<◌, ◌≤◌, ◌≡◌, ◌≢◌, ℤ, pos, ◌+ℤ◌, ◌≤ℤ◌, Bool, true, false, cond, Some, List, [], ◌∷◌, ◌++◌, length, get_or, refl, sym, ◌∙◌, ap, subst, arith, inl, inr}
use Rattle.std.specs.Prelude.{nat_lt}
use Rattle.std.specs.List.{All, Contains}
use Rattle.std.proofs.lemmas.Int.{ints}
use Rattle.std.proofs.lemmas.Bool.{cases_eq}
use Rattle.std.proofs.lemmas.Bool.Decides.{nat_tests}
use Rattle.std.proofs.lemmas.List.{length_push}
use Rattle.std.proofs.lemmas.List.Elements.{All-nil, All-push, All-weaker}
use Rattle.subsumption.specs.declared.fact.Fact.{Fact}
use Rattle.subsumption.specs.Graphs.{fact_at, node_of, at_index}
use Rattle.subsumption.specs.Facts.{Holds, Meets, HasOneEach, value_of}
use Rattle.subsumption.specs.Squares.{Cells}
use Rattle.subsumption.specs.Matrices.{plus_of, constants_of}
use Rattle.subsumption.specs.MatrixPaths.{facts_of, HasPaths, IsCanonical}
use Rattle.subsumption.specs.MatrixWays.{Reaches, GoesOn, IsWay}
use Rattle.subsumption.proofs.MatrixFacts.{facts_has}
use Rattle.subsumption.proofs.Lists.{All_front, All_last, node_of-at_index}
use Rattle.subsumption.proofs.Ones.{one_none, one_push}

-- ---- how many nodes rank lower

pub lower : (ℕ → ℕ) → ℕ → ℕ → ℕ
lower f b zero = 0
lower f b (suc n) = lower f b n + cond (nat_lt (f n) b) 1 0

module _ (f : ℕ → ℕ) where
  counts_by : (x b c : ℕ) (p q : Bool) → nat_lt x b ≡ p → nat_lt x c ≡ q → b ≤ c → cond {A = ℕ} p 1 0 ≤ cond {A = ℕ} q 1 0
  counts_by x b c true true ep eq le = omega arith
  counts_by x b c true false ep eq le = absurd (grind (arith, nat_tests))
  counts_by x b c false q ep eq le = omega arith

  counts_less : (x c : ℕ) (p q : Bool) → nat_lt x x ≡ p → nat_lt x c ≡ q → x < c → cond {A = ℕ} p 1 0 < cond {A = ℕ} q 1 0
  counts_less x c true q ep eq lt = absurd (grind (arith, nat_tests))
  counts_less x c false true ep eq lt = omega arith
  counts_less x c false false ep eq lt = absurd (grind (arith, nat_tests))

  counts_one : (b : Bool) → cond {A = ℕ} b 1 0 ≤ 1
  counts_one true = omega arith
  counts_one false = omega arith

  lower_grows : (b c n : ℕ) → b ≤ c → lower f b n ≤ lower f c n
  unfolding lower
  lower_grows b c zero le = omega arith
  lower_grows b c (suc n) le = (let h = lower_grows b c n le in let k = counts_by (f n) b c (nat_lt (f n) b) (nat_lt (f n) c) refl refl le in omega (arith, h, k))

  lower_less : (p c n : ℕ) → p < n → f p < c → lower f (f p) n < lower f c n
  unfolding lower
  lower_less p c zero lt less = absurd (omega arith)
  lower_less p c (suc n) lt less = elim (cases_eq p n) [
    | inl same ↦ (
        let h = lower_grows (f p) c n (omega (arith, less)) in
        let P : ℕ → Type 0 = λ q. cond {A = ℕ} (nat_lt (f q) (f p)) 1 0 < cond {A = ℕ} (nat_lt (f q) c) 1 0 in
        let k = subst P same (counts_less (f p) c (nat_lt (f p) (f p)) (nat_lt (f p) c) refl refl less) in omega (arith, h, k))
    | inr ne ↦ (let h = lower_less p c n (omega arith) less in let k = counts_by (f n) (f p) c (nat_lt (f n) (f p)) (nat_lt (f n) c) refl refl (omega (arith, less)) in omega (arith, h, k))
  ]

  lower_most : (b n : ℕ) → lower f b n ≤ n
  unfolding lower
  lower_most b zero = omega arith
  lower_most b (suc n) = (let h = lower_most b n in let k = counts_one (nat_lt (f n) b) in omega (arith, h, k))

  lower_room : (p n : ℕ) → p < n → lower f (f p) n < n
  lower_room p n lt = (let h = lower_less p (suc (f p)) n lt (omega arith) in let k = lower_most (suc (f p)) n in omega (arith, h, k))

-- ---- a walk

-- the facts lead from one node to another that is nearer to the last
pub record LeadsTo (m : Cells) (i j here : ℕ) (path : List Fact) : Type 0 where
  pub room : here < m.n
  pub passed : ℤ
  pub rest : ℤ
  pub behind : constants_of m here j ≡ Some rest
  pub whole : constants_of m i j ≡ Some (passed +ℤ rest)
  pub among : All (Contains (facts_of m)) path
  pub shows : (v : ℕ → ℤ) → Meets v path → value_of v (at_index i) ≤ℤ (value_of v (at_index here) +ℤ passed)
  pub count : (paths : HasPaths m) → length path + lower (λ p. paths.rank p j) (paths.rank here j) m.n < m.n
  pub one_each : HasOneEach path
  pub apart : (paths : HasPaths m) → All (λ f. paths.rank here j < paths.rank (node_of f.left) j) path

module _ (m : Cells) (i j : ℕ) where
  pub leads_start : i < m.n → Reaches m i j → LeadsTo m i j i []
  leads_start li (d, e) = record {
    room = li;
    passed = pos 0;
    rest = d;
    behind = e;
    whole = (let z : d ≡ pos 0 +ℤ d = omega (arith, ints) in e ∙ ap Some z);
    among = All-nil (Contains (facts_of m));
    shows = λ v met. omega (arith, ints);
    count = λ paths. (let h = lower_room (λ p. paths.rank p j) i m.n li in omega (arith, h));
    one_each = one_none;
    apart = λ paths. All-nil (λ f. paths.rank i j < paths.rank (node_of f.left) j);
  }

  pub leads_more : (here next : ℕ) (path after : List Fact) → IsCanonical m → j < m.n → here ≢ j → LeadsTo m i j here path → GoesOn m here j next path after → LeadsTo m i j next after
  leads_more here next path after canonical lj ne leads goes =
      let s = goes.step in
      let on = canonical.paths.continues here j s leads.room lj ne goes.is in
      let fact = fact_at (at_index here) (at_index s.first) on.head in
      let head : goes.head ≡ on.head = (let e : constants_of m here s.first ≡ Some goes.head = subst (λ n. constants_of m here n ≡ Some goes.head) goes.next_is goes.fact in
      let f : constants_of m here s.first ≡ Some on.head = ap plus_of on.fact in let g : Some goes.head ≡ Some on.head = sym e ∙ f in cc) in
      let rest : leads.rest ≡ s.plus = (let e : constants_of m here j ≡ Some s.plus = ap plus_of goes.is in let b = leads.behind in let g : Some leads.rest ≡ Some s.plus = sym b ∙ e in cc) in
      let sum = on.sum in
      let F : ℕ → ℤ → List Fact = λ n c. path ++ fact_at (at_index here) (at_index n) c ∷ [] in
      let is : path ++ fact ∷ [] ≡ after = sym (goes.path ∙ (ap (λ n. F n goes.head) goes.next_is ∙ ap (F s.first) head)) in
      let to : LeadsTo m i j s.first (path ++ fact ∷ []) = record {
        room = on.room;
        passed = leads.passed +ℤ on.head;
        rest = on.rest;
        behind = on.behind;
        whole = (let z : leads.passed +ℤ leads.rest ≡ (leads.passed +ℤ on.head) +ℤ on.rest = omega (arith, ints, rest, sum) in leads.whole ∙ ap Some z);
        among = All-push (Contains (facts_of m)) path fact leads.among (facts_has m here s.first (record { plus = on.head; first = s.first }) leads.room on.room (λ e. on.apart (sym e)) on.fact refl);
        shows = λ v met. (let before = leads.shows v (All_front (Holds v) path (fact ∷ []) met) in
            let last : value_of v (at_index here) ≤ℤ (value_of v (at_index s.first) +ℤ on.head) = All_last (Holds v) path fact met in omega (arith, ints, before, last));
        count = λ paths. (let go = paths.continues here j s leads.room lj ne goes.is in
            let h = lower_less (λ p. paths.rank p j) s.first (paths.rank here j) m.n on.room go.sooner in
            let c = leads.count paths in let size = length_push path fact in omega (arith, h, c, size));
        one_each = one_push path fact leads.one_each (λ k d lt alike.
            let low = leads.apart canonical.paths k d lt in
            let e : node_of (get_or path k d).left ≡ here = ap node_of alike.left ∙ node_of-at_index here in
            let r : canonical.paths.rank (node_of (get_or path k d).left) j ≡ canonical.paths.rank here j = ap (λ p. canonical.paths.rank p j) e in
            absurd (omega (arith, low, r)));
        apart = λ paths. (let go = paths.continues here j s leads.room lj ne goes.is in
            let sooner = go.sooner in
            let e : paths.rank (node_of (at_index here)) j ≡ paths.rank here j = ap (λ p. paths.rank p j) (node_of-at_index here) in
            All-push (λ f. paths.rank s.first j < paths.rank (node_of f.left) j) path fact
            (All-weaker (λ f. paths.rank here j < paths.rank (node_of f.left) j) (λ f. paths.rank s.first j < paths.rank (node_of f.left) j) (λ f h. omega (arith, h, sooner)) path (leads.apart paths))
            (omega (arith, e, sooner)));
      } in
      subst (λ n. LeadsTo m i j n after) (sym goes.next_is) (subst (LeadsTo m i j s.first) is to)

  pub leads_shorter : (here next : ℕ) (path after : List Fact) → IsCanonical m → LeadsTo m i j here path → GoesOn m here j next path after → m.n - length after < m.n - length path
  leads_shorter here next path after canonical leads goes =
      let c = leads.count canonical.paths in
      let size : length after ≡ length path + 1 = ap length goes.path ∙ length_push path (fact_at (at_index here) (at_index next) goes.head) in omega (arith, c, size)

  pub leads_there : (here : ℕ) (path : List Fact) → IsCanonical m → j < m.n → here ≡ j → LeadsTo m i j here path → IsWay m i j path
  leads_there here path canonical lj same leads =
      let c = leads.count canonical.paths in
      let zero_j : constants_of m here j ≡ Some (pos 0) = ap (λ h. constants_of m h j) same ∙ canonical.closed.diagonal j lj in
      let rest : leads.rest ≡ pos 0 = (let b = leads.behind in let g : Some leads.rest ≡ Some (pos 0) = sym b ∙ zero_j in cc) in
      record {
        few = omega (arith, c);
        among = leads.among;
        one_each = leads.one_each;
        apart = All-weaker (λ f. canonical.paths.rank here j < canonical.paths.rank (node_of f.left) j) (λ f. f.left ≢ at_index j) (λ f h e.
            let n : node_of f.left ≡ here = ap node_of e ∙ (node_of-at_index j ∙ sym same) in
            let r : canonical.paths.rank (node_of f.left) j ≡ canonical.paths.rank here j = ap (λ p. canonical.paths.rank p j) n in absurd (omega (arith, h, r))) path (leads.apart canonical.paths);
        shows = λ d v e met. (let h = leads.shows v met in
            let k : d ≡ leads.passed +ℤ leads.rest = (let w = leads.whole in let g : Some d ≡ Some (leads.passed +ℤ leads.rest) = sym e ∙ w in cc) in
            let w : value_of v (at_index here) ≡ value_of v (at_index j) = ap (λ n. value_of v (at_index n)) same in
            omega (arith, ints, h, k, rest, w));
      }
