-- Answers that a matrix gives.
use Rattle.std.proofs.Common.{ℕ, ◌+◌, ◌^◌, ◌<◌, ◌≤◌, ◌≡◌, ℤ, pos, ◌+ℤ◌, ◌≤ℤ◌, ◌<ℤ◌, Bool, true, false, Option, None, Some, List, [], ◌∷◌, ◌++◌, length, refl, sym, ◌∙◌, ap, subst, arith}
use Rattle.std.specs.List.{All, Contains}
use Rattle.std.proofs.lemmas.Int.{ints}
use Rattle.std.proofs.lemmas.List.{length_push}
use Rattle.std.proofs.lemmas.List.Elements.{All-contains, All-push, All-weaker, Contains-append_left, Contains-push}
use Rattle.subsumption.specs.declared.fact.Fact.{Fact}
use Rattle.subsumption.specs.Graphs.{IsWithin, at_index, node_of}
use Rattle.subsumption.specs.Facts.{Entails, Holds, IsKept, Meets, numbers_of, value_of}
use Rattle.subsumption.specs.ClosedTables.{AtMost, is_at_most, is_broken}
use Rattle.subsumption.specs.Squares.{Cells}
use Rattle.subsumption.specs.Matrices.{constants_of}
use Rattle.subsumption.specs.MatrixPaths.{IsCanonical, facts_of}
use Rattle.subsumption.specs.MatrixWays.{AreNumbers, Contradicts, IsWay, Reaches}
use Rattle.subsumption.proofs.TableConstants.{at_most_from, at_most_to}
use Rattle.subsumption.proofs.TableNumbers.{at_least}
use Rattle.subsumption.proofs.Lists.{All_front, All_last}
use Rattle.subsumption.proofs.Ones.{one_push}
use Rattle.subsumption.proofs.KeptTables.{kept_facts}
use Rattle.subsumption.proofs.MatrixNumbers.{numbers_break, numbers_meet_facts}

at_index-node_of : (x : Option ℕ) → at_index (node_of x) ≡ x
at_index-node_of None = refl
at_index-node_of (Some i) = refl

-- ---- yes

known_at : (o : Option ℤ) (c : ℤ) (b : Bool) → b ≡ is_at_most o c → b ≡ true → (d : ℤ) × (o ≡ Some d) × (d ≤ℤ c)
known_at o c b e is = at_least o c (at_most_from o c (sym e ∙ is))

module _ (m : Cells) (goal : Fact) (x y : ℕ) (b : Bool) (left : x ≡ node_of goal.left) (right : y ≡ node_of goal.right) (said : b ≡ is_at_most (constants_of m (node_of goal.left) (node_of goal.right)) goal.plus) where
  pub known_reaches : b ≡ true → Reaches m x y
  known_reaches is =
      let d = known_at (constants_of m (node_of goal.left) (node_of goal.right)) goal.plus b said is in
      (d.0, subst (λ x. constants_of m x y ≡ Some d.0) (sym left) (subst (λ y. constants_of m (node_of goal.left) y ≡ Some d.0) (sym right) d.1))

  pub known_answer : (path : List Fact) → b ≡ true → IsWay m x y path → All (Contains (facts_of m)) path × Entails path goal × (length path ≤ m.n)
  known_answer path is given =
      let d = known_at (constants_of m (node_of goal.left) (node_of goal.right)) goal.plus b said is in
      let P : ℕ → ℕ → Type 0 = λ x y. IsWay m x y path in
      let way : IsWay m (node_of goal.left) (node_of goal.right) path = subst (P (node_of goal.left)) right (subst (λ x. P x y) left given) in
      let few = way.few in (
        way.among,
        (λ v met. let h = way.shows d.0 v d.1 met in
            let p : value_of v (at_index (node_of goal.left)) ≡ value_of v goal.left = ap (value_of v) (at_index-node_of goal.left) in
            let q : value_of v (at_index (node_of goal.right)) ≡ value_of v goal.right = ap (value_of v) (at_index-node_of goal.right) in
            let le = d.2 in omega (arith, ints, h, p, q, le)),
        omega (arith, few),
      )

-- ---- no

pub unknown_answer : (m : Cells) (goal : Fact) (y : ℕ) (b : Bool) → y ≡ node_of goal.right → b ≡ is_at_most (constants_of m (node_of goal.left) (node_of goal.right)) goal.plus
    → (values : List ℤ) → IsCanonical m → node_of goal.left < m.n → node_of goal.right < m.n → IsWithin (2 ^ 66) goal.plus → b ≡ false → AreNumbers m y values
    → Meets (numbers_of values) (facts_of m) × (Holds (numbers_of values) goal → ⊥) × (length values + 1 ≡ m.n)
unknown_answer m goal y b right said values canonical lx ly small is are =
    let unknown : AtMost (constants_of m (node_of goal.left) y) goal.plus → ⊥ = λ h.
    let P : ℕ → Type 0 = λ y. AtMost (constants_of m (node_of goal.left) y) goal.plus in
    let t = at_most_to (constants_of m (node_of goal.left) (node_of goal.right)) goal.plus (subst P right h) in absurd (cc) in (
      numbers_meet_facts m canonical y values are,
      numbers_break m canonical y values are goal lx (sym right) (subst (λ y. y < m.n) (sym right) ly) small unknown,
      are.size,
    )

-- ---- a contradiction

broken_at : (o : Option ℤ) (c : ℤ) → is_broken o c ≡ true → (d : ℤ) × (o ≡ Some d) × ((d +ℤ c) <ℤ pos 0)
broken_at None c e = absurd (cc)
broken_at (Some d) c e = (d, refl, grind (arith, ints))

module _ (m : Cells) (fact : Fact) (x y : ℕ) (left : x ≡ node_of fact.left) (right : y ≡ node_of fact.right) (broken : is_broken (constants_of m (node_of fact.right) (node_of fact.left)) fact.plus ≡ true) where
  pub broken_reaches : Reaches m y x
  broken_reaches =
      let d = broken_at (constants_of m (node_of fact.right) (node_of fact.left)) fact.plus broken in
      (d.0, subst (λ y. constants_of m y x ≡ Some d.0) (sym right) (subst (λ x. constants_of m (node_of fact.right) x ≡ Some d.0) (sym left) d.1))

  pub broken_way : (path after : List Fact) → IsCanonical m → node_of fact.left < m.n → node_of fact.right < m.n → IsWithin (2 ^ 66) fact.plus → IsWay m y x path → after ≡ path ++ fact ∷ [] → Contradicts m fact after
  broken_way path after canonical lx ly small given is =
      let d = broken_at (constants_of m (node_of fact.right) (node_of fact.left)) fact.plus broken in
      let P : ℕ → ℕ → Type 0 = λ y x. IsWay m y x path in
      let way : IsWay m (node_of fact.right) (node_of fact.left) path = subst (P (node_of fact.right)) left (subst (λ y. P y x) right given) in
      let low = small.low in let high = small.high in
      let all : Contradicts m fact (path ++ fact ∷ []) = record {
        few = (let few = way.few in let size = length_push path fact in omega (arith, few, size));
        among = All-push (Contains (facts_of m ++ fact ∷ [])) path fact (All-weaker (Contains (facts_of m)) (Contains (facts_of m ++ fact ∷ [])) (λ g h. Contains-append_left (facts_of m) (fact ∷ []) g h) path way.among) (Contains-push (facts_of m) fact);
        kept = All-push (IsKept m.n) path fact (All-weaker (Contains (facts_of m)) (IsKept m.n) (λ g h. All-contains (IsKept m.n) (facts_of m) g (kept_facts m canonical) h) path way.among)
            (record { left = lx; right = ly; plus = record { low = omega (arith, ints, low); high = omega (arith, ints, high) } });
        one_each = one_push path fact way.one_each (λ k g lt alike. way.apart k g lt (alike.left ∙ sym (at_index-node_of fact.left)));
        broken = λ v met.
            let h = way.shows d.0 v d.1 (All_front (Holds v) path (fact ∷ []) met) in
            let last : value_of v fact.left ≤ℤ (value_of v fact.right +ℤ fact.plus) = All_last (Holds v) path fact met in
            let p : value_of v (at_index (node_of fact.left)) ≡ value_of v fact.left = ap (value_of v) (at_index-node_of fact.left) in
            let q : value_of v (at_index (node_of fact.right)) ≡ value_of v fact.right = ap (value_of v) (at_index-node_of fact.right) in
            let less = d.2 in absurd (omega (arith, ints, h, last, p, q, less));
      } in
      subst (Contradicts m fact) (sym is) all
