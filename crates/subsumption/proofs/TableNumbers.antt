-- A closed table knows all that follows: what it doesn't entail is broken by numbers that meet it.
use Rattle.std.proofs.Common.{ℕ, zero, suc, ◌<◌, ◌≡◌, ℤ, pos, ◌+ℤ◌, ◌-ℤ◌, ◌≤ℤ◌, ◌<ℤ◌, Bool, true, false, cond, ◌==◌, Option, None, Some, refl, sym, ap, subst, arith, ◌⊎◌, inl, inr}
use Rattle.std.proofs.lemmas.Int.{ints}
use Rattle.std.proofs.lemmas.Bool.{cases_eq}
use Rattle.std.proofs.lemmas.Bool.Decides.{nat_tests}
use Rattle.std.specs.Int.Signed.{le_z}
use Rattle.subsumption.specs.ClosedTables.{AtMost, sum_of, Pairs}
use Rattle.subsumption.specs.TableLaws.{IsClosed}
use Rattle.subsumption.proofs.TableConstants.{MeetsPairs, at_most_up, sum_from, sum_to, le_from, lt_of}

-- the least of some constants, and where it stands
record IsLeast (f : ℕ → Option ℤ) (n : ℕ) (m : ℤ) : Type 0 where
  pub index : ℕ
  pub room : index < n
  pub reached : f index ≡ Some m
  pub least : (w : ℕ) (e : ℤ) → w < n → AtMost (f w) e → m ≤ℤ e

abbrev HasLeast : (ℕ → Option ℤ) → ℕ → Type 0
HasLeast f n = ((w : ℕ) → w < n → f w ≡ None) ⊎ ((m : ℤ) × IsLeast f n m)

none_at : (o : Option ℤ) (e : ℤ) → o ≡ None → AtMost o e → ⊥
none_at o e q h = let P : Option ℤ → Type 0 = λ x. AtMost x e in subst P q h

some_at : (o : Option ℤ) (d e : ℤ) → o ≡ Some d → AtMost o e → d ≤ℤ e
some_at o d e q h = let P : Option ℤ → Type 0 = λ x. AtMost x e in subst P q h

at_some : (o : Option ℤ) (d e : ℤ) → o ≡ Some d → d ≤ℤ e → AtMost o e
at_some o d e q h = let P : Option ℤ → Type 0 = λ x. AtMost x e in subst P (sym q) h

least_more : (f : ℕ → Option ℤ) (n : ℕ) (o : Option ℤ) → f n ≡ o → HasLeast f n → HasLeast f (suc n)
least_more f n None e (inl h) = inl (λ w lt. elim (cases_eq w n) [ inl same ↦ (let q : f w ≡ f n = ap f same in cc) | inr ne ↦ h w (omega arith) ])
least_more f n (Some d) e (inl h) = inr (
  d,
  record {
    index = n;
    room = omega arith;
    reached = e;
    least = λ w c lt at. elim (cases_eq w n) [
      | inl same ↦ some_at (f w) d c (let q : f w ≡ f n = ap f same in cc) at
      | inr ne ↦ absurd (none_at (f w) c (h w (omega arith)) at)
    ];
  },
)
least_more f n None e (inr (m, h)) = inr (
  m,
  record {
    index = h.index;
    room = (let r = h.room in omega arith);
    reached = h.reached;
    least = λ w c lt at. elim (cases_eq w n) [
      | inl same ↦ absurd (none_at (f w) c (let q : f w ≡ f n = ap f same in cc) at)
      | inr ne ↦ h.least w c (omega arith) at
    ];
  },
)
least_more f n (Some d) e (inr (m, h)) = by_test (le_z m d) refl
  where
    by_test : (b : Bool) → le_z m d ≡ b → HasLeast f (suc n)
    by_test true t = inr (
      m,
      record {
        index = h.index;
        room = (let r = h.room in omega arith);
        reached = h.reached;
        least = λ w c lt at. elim (cases_eq w n) [
          | inl same ↦ (let a : d ≤ℤ c = some_at (f w) d c (let q : f w ≡ f n = ap f same in cc) at in let b = le_from m d t in omega (arith, ints, a, b))
          | inr ne ↦ h.least w c (omega arith) at
        ];
      },
    )
    by_test false t = inr (
      d,
      record {
        index = n;
        room = omega arith;
        reached = e;
        least = λ w c lt at. elim (cases_eq w n) [
          | inl same ↦ some_at (f w) d c (let q : f w ≡ f n = ap f same in cc) at
          | inr ne ↦ (let a : m ≤ℤ c = h.least w c (omega arith) at in let b = lt_of m d t in omega (arith, ints, a, b))
        ];
      },
    )

least_of : (f : ℕ → Option ℤ) (n : ℕ) → HasLeast f n
least_of f zero = inl (λ w lt. absurd (omega arith))
least_of f (suc n) = least_more f n (f n) refl (least_of f n)

number_of : (f : ℕ → Option ℤ) (n : ℕ) → HasLeast f n → ℤ
number_of f n (inl h) = pos 0
number_of f n (inr (m, h)) = m

number_is : (f : ℕ → Option ℤ) (n : ℕ) (h : HasLeast f n) (w : ℕ) (d : ℤ) → w < n → f w ≡ Some d → IsLeast f n (number_of f n h)
unfolding number_of
number_is f n (inl h) w d lt e = absurd (let q = h w lt in cc)
number_is f n (inr (m, h)) w d lt e = h

-- a number so large that all constants lie above c with it
pub high : (f : ℕ → Option ℤ) (c : ℤ) (n : ℕ) → (k : ℤ) × ((w : ℕ) (d : ℤ) → w < n → f w ≡ Some d → c <ℤ (d +ℤ k))
high f c zero = (pos 0, λ w d lt e. absurd (omega arith))
high f c (suc n) = further (f n) refl (high f c n)
  where
    further : (o : Option ℤ) → f n ≡ o → (k : ℤ) × ((w : ℕ) (d : ℤ) → w < n → f w ≡ Some d → c <ℤ (d +ℤ k)) → (k : ℤ) × ((w : ℕ) (d : ℤ) → w < suc n → f w ≡ Some d → c <ℤ (d +ℤ k))
    further None e (k, h) = (k, λ w d lt q. elim (cases_eq w n) [ inl same ↦ (let r : f w ≡ f n = ap f same in absurd (cc)) | inr ne ↦ h w d (omega arith) q ])
    further (Some a) e (k, h) = by_test (le_z k ((c -ℤ a) +ℤ pos 1)) refl
      where
        here : (w : ℕ) (d : ℤ) → w ≡ n → f w ≡ Some d → a ≡ d
        here w d same q = (let r : f w ≡ f n = ap f same in let s : Some a ≡ Some d = cc in cc)

        by_test : (b : Bool) → le_z k ((c -ℤ a) +ℤ pos 1) ≡ b → (k : ℤ) × ((w : ℕ) (d : ℤ) → w < suc n → f w ≡ Some d → c <ℤ (d +ℤ k))
        by_test true t = (
          (c -ℤ a) +ℤ pos 1,
          λ w d lt q. elim (cases_eq w n) [
            | inl same ↦ (let s : a ≡ d = here w d same q in omega (arith, ints, s))
            | inr ne ↦ (let x = h w d (omega arith) q in let y = le_from k ((c -ℤ a) +ℤ pos 1) t in omega (arith, ints, x, y))
          ],
        )
        by_test false t = (
          k,
          λ w d lt q. elim (cases_eq w n) [
            | inl same ↦ (let s : a ≡ d = here w d same q in let y = lt_of k ((c -ℤ a) +ℤ pos 1) t in omega (arith, ints, s, y))
            | inr ne ↦ h w d (omega arith) q
          ],
        )

module _ (n : ℕ) (t : Pairs) (closed : IsClosed n t) (s : ℕ → ℤ) where
  -- from where each node can be reached, at which cost
  costs : ℕ → ℕ → Option ℤ
  costs z w = sum_of (t z w) (Some (s w))

  -- the least cost for each node
  pub numbers : ℕ → ℤ
  numbers z = number_of (costs z) n (least_of (costs z) n)

  numbers_are : (z : ℕ) → z < n → IsLeast (costs z) n (numbers z)
  unfolding numbers costs
  numbers_are z lt = number_is (costs z) n (least_of (costs z) n) z (pos 0 +ℤ s z) lt (ap (λ o. sum_of o (Some (s z))) (closed.diagonal z lt))

  pub numbers_below : (z w : ℕ) (c : ℤ) → z < n → w < n → AtMost (t z w) c → numbers z ≤ℤ (c +ℤ s w)
  unfolding costs
  numbers_below z w c lz lw h = (numbers_are z lz).least w (c +ℤ s w) lw (sum_to (t z w) (Some (s w)) c (s w) h (omega (arith, ints)))

  pub numbers_reached : (z : ℕ) → z < n → (w : ℕ) × (w < n) × ((d : ℤ) × AtMost (t z w) d × ((d +ℤ s w) ≤ℤ numbers z))
  unfolding costs
  numbers_reached z lz =
      let least = numbers_are z lz in
      let sum = sum_from (t z least.index) (Some (s least.index)) (numbers z) (at_some (costs z least.index) (numbers z) (numbers z) least.reached (omega (arith, ints))) in
      (least.index, least.room, (sum.first, sum.left, (let a = sum.right in let b = sum.fits in omega (arith, ints, a, b))))

  pub numbers_meet : MeetsPairs n numbers t
  numbers_meet i j c li lj h =
      let at = numbers_reached j lj in
      let d = at.2.0 in
      let through = numbers_below i at.0 (c +ℤ d) li at.1 (closed.triangle i j at.0 c d li lj at.1 h at.2.1) in
      let fits = at.2.2 in
      omega (arith, ints, through, fits)

other_or : (y w : ℕ) (k : ℤ) (b : Bool) → (w == y) ≡ b → ((w ≡ y) × (cond b (pos 0) k ≡ pos 0)) ⊎ (cond b (pos 0) k ≡ k)
other_or y w k true e = inl ((grind (arith, nat_tests)), refl)
other_or y w k false e = inr refl

start : ℕ → ℤ → ℕ → ℤ
start y k w = cond (w == y) (pos 0) k

start_at : (y : ℕ) (k : ℤ) (b : Bool) → (y == y) ≡ b → cond b (pos 0) k ≡ pos 0
start_at y k true e = refl
start_at y k false e = absurd (grind (arith, nat_tests))

pub at_least : (o : Option ℤ) (d : ℤ) → AtMost o d → (e : ℤ) × (o ≡ Some e) × (e ≤ℤ d)
at_least None d h = absurd h
at_least (Some e) d h = (e, refl, h)

pub complete : (n : ℕ) (t : Pairs) → IsClosed n t → (x y : ℕ) (c : ℤ) → x < n → y < n → ((v : ℕ → ℤ) → MeetsPairs n v t → v x ≤ℤ (v y +ℤ c)) → AtMost (t x y) c
unfolding start
complete n t closed x y c lx ly h =
    let top = high (t x) c n in
    let k = top.0 in
    let s = start y k in
    let v = numbers n t closed s in
    let holds = h v (numbers_meet n t closed s) in
    let zero_y : s y ≡ pos 0 = start_at y k (y == y) refl in
    let low = numbers_below n t closed s y y (pos 0) ly ly (at_some (t y y) (pos 0) (pos 0) (closed.diagonal y ly) (omega (arith, ints))) in
    let at = numbers_reached n t closed s x lx in
    let w = at.0 in
    let d = at.2.0 in
    let fits = at.2.2 in
    elim (other_or y w k (w == y) refl) [
      | inl same ↦ (let P : ℕ → Type 0 = λ w. AtMost (t x w) d in let q : s w ≡ pos 0 = same.1 in at_most_up (t x y) d c (subst P same.0 at.2.1) (omega (arith, ints, holds, zero_y, low, fits, q)))
      | inr q ↦ (let e = at_least (t x w) d at.2.1 in let above = top.1 w e.0 at.1 e.1 in let r : s w ≡ k = q in let le = e.2 in absurd (omega (arith, ints, holds, zero_y, low, fits, r, above, le)))
    ]
