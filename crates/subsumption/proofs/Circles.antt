-- Facts that lead round in a circle, after as many rounds as there are nodes.
use Rattle.std.proofs.Common.{ℕ, zero, suc, ◌+◌, ◌<◌, ◌≤◌, ◌≡◌, ℤ, pos, negsuc, ◌+ℤ◌, ◌-ℤ◌, ◌≤ℤ◌, ◌<ℤ◌, Bool, true, false, cond, Option, None, Some, List, [], ◌∷◌, ◌++◌, length, get_or, lit<, refl, ◌∙◌, ap, subst, arith, ◌⊎◌, inl, inr}
use Rattle.std.proofs.lemmas.Int.{ints}
use Rattle.std.proofs.lemmas.Bool.{cases_eq}
use Rattle.std.proofs.lemmas.List.{length_push}
use Rattle.std.proofs.lemmas.List.Elements.{All-push, All-contains, Contains-append_left, Contains-append_right}
use Rattle.std.specs.Int.Signed.{le_z}
use Rattle.std.specs.List.{All, Contains}
use Rattle.subsumption.specs.declared.fact.Fact.{Fact}
use Rattle.subsumption.specs.Graphs.{node_of, at, IsEdge, at_index}
use Rattle.subsumption.specs.Facts.{HoldsBy}
use Rattle.subsumption.specs.Models.{AreEdges, IsContradiction}
use Rattle.subsumption.specs.Relaxation.{last_of, IsStep, IsRelaxed, AreNamed, with_last}
use Rattle.subsumption.proofs.Lists.{node_same, le_from, lt_of, node_of-at_index}
use Rattle.subsumption.proofs.Gaps.{gap, climbed-is}

-- from each of these nodes one of them is lower, or as low and of a round before
abbrev Descends : (Option ℕ → Type 0) → (Option ℕ → ℤ) → (Option ℕ → ℕ) → Type 0
Descends S e R = (y : Option ℕ) → S y → (p : Option ℕ) × S p × ((e p <ℤ e y) ⊎ ((e p ≤ℤ e y) × (R p < R y)))

none_as_low : (S : Option ℕ → Type 0) (e : Option ℕ → ℤ) (R : Option ℕ → ℕ) → Descends S e R → (top : ℤ)
    → ((y : Option ℕ) → S y → e y <ℤ top → ⊥) → (m : ℕ) (y : Option ℕ) → S y → e y ≤ℤ top → R y ≤ m → ⊥
none_as_low S e R descends top lower zero y s le h = elim (descends y s).2 [
  | inl lt ↦ lower (descends y s).0 (descends y s).1 (omega (arith, ints))
  | inr same ↦ omega (arith, same.1)
]
none_as_low S e R descends top lower (suc m) y s le h = elim (descends y s).2 [
  | inl lt ↦ lower (descends y s).0 (descends y s).1 (omega (arith, ints))
  | inr same ↦ none_as_low S e R descends top lower m (descends y s).0 (descends y s).1 (let a = same.0 in omega (arith, ints)) (omega (arith, same.1))
]

none_below : (S : Option ℕ → Type 0) (e : Option ℕ → ℤ) (R : Option ℕ → ℕ) → Descends S e R → (base : ℤ) → ((y : Option ℕ) → S y → base ≤ℤ e y)
    → (m : ℕ) → ((y : Option ℕ) → S y → R y ≤ m) → (k : ℕ) (y : Option ℕ) → S y → e y <ℤ (base +ℤ pos k) → ⊥
none_below S e R descends base over m few zero y s lt = (let a = over y s in omega (arith, ints))
none_below S e R descends base over m few (suc k) y s lt =
    none_as_low S e R descends (base +ℤ pos k) (none_below S e R descends base over m few k) m y s (omega (arith, ints)) (few y s)

above_by : (z base d : ℤ) → d ≡ z -ℤ base → (k : ℕ) × (z <ℤ (base +ℤ pos k))
above_by z base (pos m) e = (suc m, omega (arith, ints))
above_by z base (negsuc m) e = (0, omega (arith, ints))

least_first : (a b : ℤ) (p : Bool) → le_z a b ≡ p → cond p a b ≤ℤ a
least_first a b true e = omega (arith, ints)
least_first a b false e = let h : b <ℤ a = lt_of a b e in omega (arith, ints)

least_second : (a b : ℤ) (p : Bool) → le_z a b ≡ p → cond p a b ≤ℤ b
least_second a b true e = le_from a b e
least_second a b false e = omega (arith, ints)

least_of_first : (e : ℕ → ℤ) (n : ℕ) → (base : ℤ) × ((i : ℕ) → i < n → base ≤ℤ e i)
least_of_first e zero = (pos 0, λ i lt. absurd (omega arith))
least_of_first e (suc n) =
    let rest = least_of_first e n in
    let base = cond (le_z rest.0 (e n)) rest.0 (e n) in
    let first : base ≤ℤ rest.0 = least_first rest.0 (e n) (le_z rest.0 (e n)) refl in
    let second : base ≤ℤ e n = least_second rest.0 (e n) (le_z rest.0 (e n)) refl in (
      base,
      λ i lt. elim (cases_eq i n) [
        | inl same ↦ (let is : e i ≡ e n = ap e same in omega (arith, ints, second, is))
        | inr ne ↦ (let a = rest.1 i (omega arith) in omega (arith, ints, first))
      ],
    )

-- finitely many nodes can't go down without end
no_descent : (n : ℕ) (S : Option ℕ → Type 0) (e : Option ℕ → ℤ) (R : Option ℕ → ℕ) → ((y : Option ℕ) → S y → node_of y < n) → Descends S e R
    → (m : ℕ) → ((y : Option ℕ) → S y → R y ≤ m) → (y : Option ℕ) → S y → ⊥
no_descent n S e R room descends m few y s =
    let base = least_of_first (λ i. e (at_index i)) n in
    let over : (x : Option ℕ) → S x → base.0 ≤ℤ e x = λ x t.
    (let same : at_index (node_of x) ≡ x = node_same (at_index (node_of x)) x (node_of-at_index (node_of x)) in
    let P : Option ℕ → Type 0 = λ z. base.0 ≤ℤ e z in subst P same (base.1 (node_of x) (room x t))) in
    let top = above_by (e y) base.0 (e y -ℤ base.0) refl in
    none_below S e R descends base.0 over m few top.0 y s top.1

-- a node of a round above t
abbrev IsAbove : (Option ℕ → ℕ) → ℕ → ℤ → Option ℕ → Type 0
IsAbove R n t y = (node_of y < n) × (t <ℤ pos (R y))

descends_by : (ap' ay dp dy plus : ℤ) (rp ry : ℕ) → ay ≤ℤ (ap' +ℤ plus) → (dp +ℤ plus) ≤ℤ dy → (rp < ry) ⊎ ((dp +ℤ plus) <ℤ dy)
    → ((dp -ℤ ap') <ℤ (dy -ℤ ay)) ⊎ (((dp -ℤ ap') ≤ℤ (dy -ℤ ay)) × (rp < ry))
descends_by ap' ay dp dy plus rp ry holds met (inl lt) = inr (omega (arith, ints), lt)
descends_by ap' ay dp dy plus rp ry holds met (inr lt) = inl (omega (arith, ints))

-- the fact that lowered a node last, which was lowered
step_at : (F : List Fact) (s : Option ℕ) (n k : ℕ) (D : List ℤ) (L : List (Option Fact)) → (r : IsRelaxed F s n k D L) → (y : Option ℕ) → node_of y < n
    → 0 < r.rounds y → (o : Option Fact) → last_of L y ≡ o → (f : Fact) × (last_of L y ≡ Some f) × IsStep F r.rounds D y f
step_at F s n k D L r y lt some None e = (let root = r.roots y lt e in absurd (omega (arith, root.unmoved)))
step_at F s n k D L r y lt some (Some f) e = (f, e, r.steps y f lt e)

-- As many rounds as there are nodes leave a gap among the numbers of rounds, and no fact leads across it.
unmet : (F : List Fact) (s : Option ℕ) (n : ℕ) (D : List ℤ) (L : List (Option Fact)) (path : List Fact) → AreEdges n F → IsRelaxed F s n n D L
    → AreNamed L n path → (a : Option ℕ → ℤ) → All (HoldsBy a) path → ⊥
unmet F s n D L path edges r named a holds =
    let R = r.rounds in
    let found = gap (λ i. pos (R (at_index i))) (negsuc 0) 1 n in
    let t = found.0 in
    let top : t ≤ℤ (negsuc 0 +ℤ pos n) = (let c = climbed-is (negsuc 0) 1 n in let u = found.2 in omega (arith, ints)) in
    let over : (y : Option ℕ) → node_of y < n → t <ℤ pos (R y) → (t +ℤ pos 1) <ℤ pos (R y) = λ y lt h.
    (let same : at_index (node_of y) ≡ y = node_same (at_index (node_of y)) y (node_of-at_index (node_of y)) in
    let P : Option ℕ → Type 0 = λ z. t <ℤ pos (R z) → (t +ℤ pos 1) <ℤ pos (R z) in subst P same (found.3 (node_of y) lt) h) in
    let descends : Descends (IsAbove R n t) (λ y. at D y -ℤ a y) R = λ y above.
    (let far = over y above.0 above.1 in
    let low = found.1 in
    let step = step_at F s n n D L r y above.0 (omega (arith, ints)) (last_of L y) refl in
    let f = step.0 in
    let edge : IsEdge n f = All-contains (IsEdge n) F f edges.edges step.2.among in
    let next = step.2.next in
    let same : a f.left ≡ a y = ap a step.2.left in
    let held : a f.left ≤ℤ (a f.right +ℤ f.plus) = All-contains (HoldsBy a) path f holds (named.all y f above.0 step.1) in (
      f.right,
      (edge.right, omega (arith, ints)),
      descends_by (a f.right) (a y) (at D f.right) (at D y) f.plus (R f.right) (R y) (omega (arith, ints)) step.2.met step.2.sooner,
    )) in
    let start = r.reached (omega (arith, edges.some)) in
    no_descent n (IsAbove R n t) (λ y. at D y -ℤ a y) R (λ y above. above.0) descends n (λ y above. r.latest y above.0) start.0
    (start.1, omega (arith, ints, start.2))

pub circle : (F : List Fact) (s : Option ℕ) (n : ℕ) (D : List ℤ) (L : List (Option Fact)) (path : List Fact) → AreEdges n F → IsRelaxed F s n n D L
    → AreNamed L n path → IsContradiction F n path
circle F s n D L path edges r named = record {
  among = λ i d lt. (let h = named.among i d lt in (r.steps h.0 (get_or path i d) h.1 h.2).among);
  unmet = λ a holds _. unmet F s n D L path edges r named a holds;
  count = named.count;
}

pub named_more : (L : List (Option Fact)) (i : ℕ) (K : List Fact) (o : Option Fact) → i < length L → get_or L i None ≡ o → AreNamed L i K → AreNamed L (i + 1) (with_last K o)
named_more L i K None lt e named = record {
  count = omega (arith, named.count);
  among = λ j d in'. (let h = named.among j d in' in (h.0, omega (arith, h.1), h.2));
  all = λ x f in' is. elim (cases_eq (node_of x) i) [
    | inl same ↦ (let a : last_of L x ≡ None = ap (λ m. get_or L m None) same ∙ e in cc)
    | inr ne ↦ named.all x f (omega arith) is
  ];
}
named_more L i K (Some g) lt e named =
    let here : node_of (at_index i) ≡ i = node_of-at_index i in
    let is' : last_of L (at_index i) ≡ Some g = ap (λ m. get_or L m None) here ∙ e in
    record {
      count = omega (arith, length_push K g, named.count);
      among = All-push (λ f. (x : Option ℕ) × (node_of x < i + 1) × (last_of L x ≡ Some f)) K g
          (λ j d in'. (let h = named.among j d in' in (h.0, omega (arith, h.1), h.2))) (at_index i, omega (arith, here), is');
      all = λ x f in' is. elim (cases_eq (node_of x) i) [
        | inl same ↦ (let a : last_of L x ≡ Some g = ap (λ m. get_or L m None) same ∙ e in
            let eq : g ≡ f = cc in
            subst (Contains (K ++ g ∷ [])) eq (Contains-append_right K (g ∷ []) g (0, lit< tt, refl)))
        | inr ne ↦ Contains-append_left K (g ∷ []) f (named.all x f (omega arith) is)
      ];
    }

pub named_start : (L : List (Option Fact)) → AreNamed L 0 []
named_start L = record { count = omega arith; among = λ j d lt. absurd (omega arith); all = λ x f lt is. absurd (omega arith) }
