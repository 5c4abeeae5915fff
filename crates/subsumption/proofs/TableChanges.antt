-- The changes of pairs keep them closed, and say what valuations meet them.
use Rattle.std.proofs.Common.{ℕ, zero, suc, ◌<◌, ◌≡◌, ◌≢◌, ℤ, pos, ◌+ℤ◌, ◌-ℤ◌, ◌≤ℤ◌, ◌<ℤ◌, Bool, true, false, cond, ◌==◌, Option, None, Some, [], get_or, refl, sym, ◌∙◌, ap, subst, arith, ◌⊎◌, inl, inr}
use Rattle.std.proofs.lemmas.Int.{ints}
use Rattle.std.proofs.lemmas.Bool.Decides.{nat_tests}
use Rattle.subsumption.specs.Distances.{longer_of}
use Rattle.subsumption.specs.ClosedTables.{AtMost, sum_of, Pairs, no_pairs, added, killed, raised, shared, values_below, entry, rows_of, is_broken}
use Rattle.subsumption.specs.TableLaws.{IsClosed}
use Rattle.subsumption.proofs.TableConstants.{MeetsPairs, put, at_most_up, smaller_from, smaller_to, longer_from, longer_to, sum_from, sum_to}

-- ---- rows hold what they were made of

pub made_at : {A : Type 0} (n : ℕ) (f : ℕ → A) (i : ℕ) (d : A) → i < n → get_or (values_below n f) i d ≡ f i
made_at zero f i d lt = absurd (omega arith)
made_at (suc n) f zero d lt = refl
made_at (suc n) f (suc i) d lt = made_at n (λ i. f (suc i)) i d (omega arith)

pub entry_is : (n : ℕ) (t : Pairs) (i j : ℕ) → i < n → j < n → entry (rows_of n t) i j ≡ t i j
entry_is n t i j li lj = ap (λ r. get_or r j None) (made_at n (λ i. values_below n (λ j. t i j)) i [] li) ∙ made_at n (λ j. t i j) j None lj

-- two tables with the same constants
abbrev pub AreSame : ℕ → Pairs → Pairs → Type 0
AreSame n t u = (i j : ℕ) → i < n → j < n → u i j ≡ t i j

pub to_same : (o p : Option ℤ) (c : ℤ) → p ≡ o → AtMost o c → AtMost p c
to_same o p c e h = let P : Option ℤ → Type 0 = λ x. AtMost x c in subst P (sym e) h

pub from_same : (o p : Option ℤ) (c : ℤ) → p ≡ o → AtMost p c → AtMost o c
from_same o p c e h = let P : Option ℤ → Type 0 = λ x. AtMost x c in subst P e h

pub closed_same : (n : ℕ) (t u : Pairs) → AreSame n t u → IsClosed n t → IsClosed n u
closed_same n t u same h = record {
  diagonal = λ i li. same i i li li ∙ h.diagonal i li;
  triangle = λ i j k c e li lj lk a b. to_same (t i k) (u i k) (c +ℤ e) (same i k li lk) (h.triangle i j k c e li lj lk (from_same (t i j) (u i j) c (same i j li lj) a) (from_same (t j k) (u j k) e (same j k lj lk) b));
}

-- ---- no facts

none_by : (i j : ℕ) (c : ℤ) (b : Bool) → (i == j) ≡ b → AtMost (cond b (Some (pos 0)) None) c → (i ≡ j) × (pos 0 ≤ℤ c)
none_by i j c true e h = ((grind (arith, nat_tests)), h)
none_by i j c false e h = absurd h

same_by : (i : ℕ) (b : Bool) → (i == i) ≡ b → cond b (Some (pos 0)) None ≡ Some (pos 0)
same_by i true e = refl
same_by i false e = absurd (grind (arith, nat_tests))

none_of : (i j : ℕ) (c : ℤ) (b : Bool) → (i == j) ≡ b → i ≡ j → pos 0 ≤ℤ c → AtMost (cond b (Some (pos 0)) None) c
none_of i j c true e same le = le
none_of i j c false e same le = absurd (grind (arith, nat_tests))

pub none_closed : (n : ℕ) → IsClosed n no_pairs
none_closed n = record {
  diagonal = λ i li. same_by i (i == i) refl;
  triangle = λ i j k c e li lj lk a b.
      let x = none_by i j c (i == j) refl a in
      let y = none_by j k e (j == k) refl b in
      let p = x.1 in let q = y.1 in
      none_of i k (c +ℤ e) (i == k) refl (x.0 ∙ y.0) (omega (arith, ints, p, q));
}

pub none_met : (n : ℕ) (v : ℕ → ℤ) → MeetsPairs n v no_pairs
none_met n v i j c li lj a = let x = none_by i j c (i == j) refl a in let e : v i ≡ v j = ap v x.0 in let le = x.1 in omega (arith, ints, e, le)

pub rows_closed : (n : ℕ) (t : Pairs) → IsClosed n t → IsClosed n (entry (rows_of n t))
rows_closed n t h = closed_same n t (entry (rows_of n t)) (entry_is n t) h

-- ---- one fact more

-- through the new fact
record IsThrough (x y : ℕ) (c : ℤ) (t : Pairs) (i j : ℕ) (e : ℤ) : Type 0 where
  pub before : ℤ
  pub behind : ℤ
  pub to : AtMost (t i x) before
  pub from : AtMost (t y j) behind
  pub fits : ((before +ℤ c) +ℤ behind) ≤ℤ e

added_is : (x y : ℕ) (c : ℤ) (t : Pairs) (i j : ℕ) (e : ℤ) → AtMost (added x y c t i j) e → AtMost (t i j) e ⊎ IsThrough x y c t i j e
added_is x y c t i j e h = elim (smaller_from (t i j) (sum_of (sum_of (t i x) (Some c)) (t y j)) e h) [
  | inl a ↦ inl a
  | inr a ↦ inr (
      let outer = sum_from (sum_of (t i x) (Some c)) (t y j) e a in
      let inner = sum_from (t i x) (Some c) outer.first outer.left in
      let p = outer.fits in let q = inner.fits in let r = inner.right in
      record { before = inner.first; behind = outer.second; to = inner.left; from = outer.right; fits = omega (arith, ints, p, q, r) })
]

added_old : (x y : ℕ) (c : ℤ) (t : Pairs) (i j : ℕ) (e : ℤ) → AtMost (t i j) e → AtMost (added x y c t i j) e
added_old x y c t i j e h = smaller_to (t i j) (sum_of (sum_of (t i x) (Some c)) (t y j)) e (inl h)

added_new : (x y : ℕ) (c : ℤ) (t : Pairs) (i j : ℕ) (a b e : ℤ) → AtMost (t i x) a → AtMost (t y j) b → ((a +ℤ c) +ℤ b) ≤ℤ e → AtMost (added x y c t i j) e
added_new x y c t i j a b e h k le =
    smaller_to (t i j) (sum_of (sum_of (t i x) (Some c)) (t y j)) e
    (inr (at_most_up (sum_of (sum_of (t i x) (Some c)) (t y j)) ((a +ℤ c) +ℤ b) e (sum_to (sum_of (t i x) (Some c)) (t y j) (a +ℤ c) b (sum_to (t i x) (Some c) a c h (omega (arith, ints))) k) le))

zero_at : (o : Option ℤ) → o ≡ Some (pos 0) → AtMost o (pos 0)
zero_at o e = let P : Option ℤ → Type 0 = λ x. AtMost x (pos 0) in subst P (sym e) (omega (arith, ints))

pub not_broken : (o : Option ℤ) (c d : ℤ) → is_broken o c ≡ false → AtMost o d → pos 0 ≤ℤ (d +ℤ c)
not_broken None c d e h = absurd h
not_broken (Some a) c d e h = (let le : pos 0 ≤ℤ (a +ℤ c) = grind (arith, ints) in omega (arith, ints, le, h))

module _ (n x y : ℕ) (c : ℤ) (t : Pairs) (lx : x < n) (ly : y < n) where
  pub added_met : (v : ℕ → ℤ) → MeetsPairs n v t → v x ≤ℤ (v y +ℤ c) → MeetsPairs n v (added x y c t)
  added_met v h new i j e li lj a = elim (added_is x y c t i j e a) [
    | inl p ↦ h i j e li lj p
    | inr p ↦ (let f = p.fits in let q = h i x p.before li lx p.to in let r = h y j p.behind ly lj p.from in omega (arith, ints, f, q, r, new))
  ]

  pub not_both : (v : ℕ → ℤ) → is_broken (t y x) c ≡ true → MeetsPairs n v t → v x ≤ℤ (v y +ℤ c) → ⊥
  not_both v e h new = by (t y x) refl e
    where
      by : (o : Option ℤ) → t y x ≡ o → is_broken o c ≡ true → ⊥
      by None q e = cc
      by (Some d) q e = (let lt : (d +ℤ c) <ℤ pos 0 = grind (arith, ints) in let a = h y x d ly lx (to_same (Some d) (t y x) d q (omega (arith, ints))) in omega (arith, ints, lt, a, new))

module _ (n x y : ℕ) (c : ℤ) (t : Pairs) (lx : x < n) (ly : y < n) (closed : IsClosed n t) where
  no_less : (i : ℕ) (e : ℤ) → i < n → is_broken (t y x) c ≡ false → AtMost (added x y c t i i) e → pos 0 ≤ℤ e
  no_less i e li sound h = elim (added_is x y c t i i e h) [
    | inl a ↦ from_same (Some (pos 0)) (t i i) e (closed.diagonal i li) a
    | inr a ↦ (
        let round = closed.triangle y i x a.behind a.before ly li lx a.from a.to in
        let low = not_broken (t y x) c (a.behind +ℤ a.before) sound round in
        let fits = a.fits in omega (arith, ints, low, fits))
  ]

  least_is_zero : (o : Option ℤ) → AtMost o (pos 0) → ((e : ℤ) → AtMost o e → pos 0 ≤ℤ e) → o ≡ Some (pos 0)
  least_is_zero None h low = absurd h
  least_is_zero (Some d) h low = (let le = low d (omega (arith, ints)) in let e : d ≡ pos 0 = omega (arith, ints, le, h) in ap Some e)

  pub added_closed : is_broken (t y x) c ≡ false → IsClosed n (added x y c t)
  added_closed sound = record {
    diagonal = λ i li. least_is_zero (added x y c t i i) (added_old x y c t i i (pos 0) (zero_at (t i i) (closed.diagonal i li))) (λ e h. no_less i e li sound h);
    triangle = λ i j k d e li lj lk a b. elim (added_is x y c t i j d a) [
      | inl p ↦ elim (added_is x y c t j k e b) [
        | inl q ↦ added_old x y c t i k (d +ℤ e) (closed.triangle i j k d e li lj lk p q)
        | inr q ↦ (let fits = q.fits in added_new x y c t i k (d +ℤ q.before) q.behind (d +ℤ e) (closed.triangle i j x d q.before li lj lx p q.to) q.from (omega (arith, ints, fits)))
      ]
      | inr p ↦ elim (added_is x y c t j k e b) [
        | inl q ↦ (let fits = p.fits in added_new x y c t i k p.before (p.behind +ℤ e) (d +ℤ e) p.to (closed.triangle y j k p.behind e ly lj lk p.from q) (omega (arith, ints, fits)))
        | inr q ↦ (
            let round = closed.triangle y j x p.behind q.before ly lj lx p.from q.to in
            let low = not_broken (t y x) c (p.behind +ℤ q.before) sound round in
            let f = p.fits in let g = q.fits in
            added_new x y c t i k p.before q.behind (d +ℤ e) p.to q.from (omega (arith, ints, low, f, g)))
      ]
    ];
  }

  pub added_back : (v : ℕ → ℤ) → MeetsPairs n v (added x y c t) → MeetsPairs n v t × (v x ≤ℤ (v y +ℤ c))
  added_back v h = (
    (λ i j e li lj a. h i j e li lj (added_old x y c t i j e a)),
    h x y c lx ly (added_new x y c t x y (pos 0) (pos 0) c (zero_at (t x x) (closed.diagonal x lx)) (zero_at (t y y) (closed.diagonal y ly)) (omega (arith, ints))),
  )

-- ---- without a node

abbrev pub IsApart : ℕ → ℕ → ℕ → Type 0
IsApart x i j = (i ≡ j) ⊎ ((i ≢ x) × (j ≢ x))

killed_by : (x i j : ℕ) (o : Option ℤ) (c : ℤ) (p q r : Bool) → (i == j) ≡ p → (i == x) ≡ q → (j == x) ≡ r → AtMost (cond p o (cond q None (cond r None o))) c → AtMost o c × IsApart x i j
killed_by x i j o c true q r ep eq er h = (h, inl (grind (arith, nat_tests)))
killed_by x i j o c false true r ep eq er h = absurd h
killed_by x i j o c false false true ep eq er h = absurd h
killed_by x i j o c false false false ep eq er h = (h, inr ((λ e. grind (arith, nat_tests)), (λ e. grind (arith, nat_tests))))

pub killed_is : (x : ℕ) (t : Pairs) (i j : ℕ) (c : ℤ) → AtMost (killed x t i j) c → AtMost (t i j) c × IsApart x i j
killed_is x t i j c h = killed_by x i j (t i j) c (i == j) (i == x) (j == x) refl refl refl h

kill_by : (x i j : ℕ) (o : Option ℤ) (c : ℤ) (p q r : Bool) → (i == j) ≡ p → (i == x) ≡ q → (j == x) ≡ r → IsApart x i j → AtMost o c → AtMost (cond p o (cond q None (cond r None o))) c
kill_by x i j o c true q r ep eq er apart h = h
kill_by x i j o c false false false ep eq er apart h = h
kill_by x i j o c false true r ep eq er (inl same) h = absurd (grind (arith, nat_tests))
kill_by x i j o c false true r ep eq er (inr apart) h = absurd (apart.0 (grind (arith, nat_tests)))
kill_by x i j o c false false true ep eq er (inl same) h = absurd (grind (arith, nat_tests))
kill_by x i j o c false false true ep eq er (inr apart) h = absurd (apart.1 (grind (arith, nat_tests)))

pub killed_of : (x : ℕ) (t : Pairs) (i j : ℕ) (c : ℤ) → IsApart x i j → AtMost (t i j) c → AtMost (killed x t i j) c
killed_of x t i j c apart h = kill_by x i j (t i j) c (i == j) (i == x) (j == x) refl refl refl apart h

apart_twice : (x i j k : ℕ) → IsApart x i j → IsApart x j k → IsApart x i k
apart_twice x i j k (inl p) (inl q) = inl (p ∙ q)
apart_twice x i j k (inl p) (inr q) = inr ((λ e. q.0 (sym p ∙ e)), q.1)
apart_twice x i j k (inr p) (inl q) = inr (p.0, (λ e. p.1 (q ∙ e)))
apart_twice x i j k (inr p) (inr q) = inr (p.0, q.1)

diagonal_by : (o : Option ℤ) (i x : ℕ) (b q : Bool) → (i == i) ≡ b → cond b o (cond q None (cond q None o)) ≡ o
diagonal_by o i x true q e = refl
diagonal_by o i x false q e = absurd (grind (arith, nat_tests))

pub killed_closed : (n x : ℕ) (t : Pairs) → IsClosed n t → IsClosed n (killed x t)
killed_closed n x t h = record {
  diagonal = λ i li. diagonal_by (t i i) i x (i == i) (i == x) refl ∙ h.diagonal i li;
  triangle = λ i j k c e li lj lk a b.
      let p = killed_is x t i j c a in let q = killed_is x t j k e b in
      killed_of x t i k (c +ℤ e) (apart_twice x i j k p.1 q.1) (h.triangle i j k c e li lj lk p.0 q.0);
}

put_by : (x : ℕ) (z : ℤ) (v : ℕ → ℤ) (i : ℕ) (b : Bool) → (i == x) ≡ b → i ≢ x → cond b z (v i) ≡ v i
put_by x z v i true e ne = absurd (ne (grind (arith, nat_tests)))
put_by x z v i false e ne = refl

pub put_other : (x : ℕ) (z : ℤ) (v : ℕ → ℤ) (i : ℕ) → i ≢ x → put x z v i ≡ v i
put_other x z v i ne = put_by x z v i (i == x) refl ne

-- ---- after x was assigned x + c

abbrev pub offset : ℕ → ℤ → ℕ → ℤ
offset x c i = cond (i == x) c (pos 0)

pub raised_is : (x : ℕ) (c : ℤ) (t : Pairs) (i j : ℕ) (e : ℤ) → AtMost (raised x c t i j) e → AtMost (t i j) ((e -ℤ offset x c i) +ℤ offset x c j)
raised_is x c t i j e h =
    let sum = sum_from (t i j) (Some (offset x c i -ℤ offset x c j)) e h in
    let p = sum.fits in let q = sum.right in
    at_most_up (t i j) sum.first ((e -ℤ offset x c i) +ℤ offset x c j) sum.left (omega (arith, ints, p, q))

pub raised_of : (x : ℕ) (c : ℤ) (t : Pairs) (i j : ℕ) (d e : ℤ) → AtMost (t i j) d → ((d +ℤ offset x c i) -ℤ offset x c j) ≤ℤ e → AtMost (raised x c t i j) e
raised_of x c t i j d e h le =
    let m = offset x c i -ℤ offset x c j in
    at_most_up (sum_of (t i j) (Some m)) (d +ℤ m) e (sum_to (t i j) (Some m) d m h (omega (arith, ints))) (omega (arith, ints, le))

raised_zero : (o : Option ℤ) (a : ℤ) → o ≡ Some (pos 0) → sum_of o (Some (a -ℤ a)) ≡ Some (pos 0)
raised_zero o a e = ap (λ o. sum_of o (Some (a -ℤ a))) e ∙ (let z : pos 0 +ℤ (a -ℤ a) ≡ pos 0 = omega (arith, ints) in ap Some z)

pub raised_closed : (n x : ℕ) (c : ℤ) (t : Pairs) → IsClosed n t → IsClosed n (raised x c t)
raised_closed n x c t h = record {
  diagonal = λ i li. raised_zero (t i i) (offset x c i) (h.diagonal i li);
  triangle = λ i j k d e li lj lk a b.
      let p = raised_is x c t i j d a in let q = raised_is x c t j k e b in
      raised_of x c t i k (((d -ℤ offset x c i) +ℤ offset x c j) +ℤ ((e -ℤ offset x c j) +ℤ offset x c k)) (d +ℤ e)
      (h.triangle i j k ((d -ℤ offset x c i) +ℤ offset x c j) ((e -ℤ offset x c j) +ℤ offset x c k) li lj lk p q) (omega (arith, ints));
}

-- ---- what both entail

longer_zero : (o p : Option ℤ) → o ≡ Some (pos 0) → p ≡ Some (pos 0) → longer_of o p ≡ Some (pos 0)
longer_zero o p e f = ap (λ o. longer_of o p) e ∙ ap (longer_of (Some (pos 0))) f

pub shared_closed : (n : ℕ) (t u : Pairs) → IsClosed n t → IsClosed n u → IsClosed n (shared t u)
shared_closed n t u h k = record {
  diagonal = λ i li. longer_zero (t i i) (u i i) (h.diagonal i li) (k.diagonal i li);
  triangle = λ i j l c e li lj lk a b.
      let p = longer_from (t i j) (u i j) c a in let q = longer_from (t j l) (u j l) e b in
      longer_to (t i l) (u i l) (c +ℤ e) (h.triangle i j l c e li lj lk p.0 q.0) (k.triangle i j l c e li lj lk p.1 q.1);
}
