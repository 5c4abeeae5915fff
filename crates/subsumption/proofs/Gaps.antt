-- Among n numbers that span much there is a gap, and what lies on one side of it can be moved by one.
use Rattle.std.proofs.Common.{ℕ, zero, suc, ◌+◌, ◌*◌, ◌<◌, ◌≤◌, ◌≡◌, ℤ, pos, ◌+ℤ◌, ◌≤ℤ◌, ◌<ℤ◌, Bool, true, false, refl, ap, arith, ◌⊎◌, inl, inr}
use Rattle.std.proofs.lemmas.Int.{ints}
use Rattle.std.proofs.Math.Nat.{suc-mul, zero-mul}
use Rattle.std.proofs.lemmas.Bool.{cases_eq}
use Rattle.std.specs.Int.Signed.{lt_z}

-- one where the test passed
abbrev one_if : Bool → ℕ
one_if true = 1
one_if false = 0

-- how many of the first n numbers lie above t
abbrev above : (ℕ → ℤ) → ℤ → ℕ → ℕ
above a t zero = 0
above a t (suc n) = one_if (lt_z t (a n)) + above a t n

most_by : (b : Bool) (m n : ℕ) → m ≤ n → one_if b + m ≤ suc n
most_by true m n h = omega arith
most_by false m n h = omega arith

above_most : (a : ℕ → ℤ) (t : ℤ) (n : ℕ) → above a t n ≤ n
above_most a t zero = omega arith
above_most a t (suc n) = most_by (lt_z t (a n)) (above a t n) n (above_most a t n)

pub lt_from : (a b : ℤ) → lt_z a b ≡ true → a <ℤ b
lt_from a b h = grind (arith, ints)

pub lt_not : (a b : ℤ) → lt_z a b ≡ false → b ≤ℤ a
lt_not a b h = grind (arith, ints)

some_by : (b c : Bool) → b ≡ c → (m : ℕ) → (c ≡ false → ⊥) → 1 ≤ one_if b + m
some_by b true e m h = rw e (omega arith)
some_by b false e m h = absurd (h refl)

-- at least one lies above t where one of the first n does
above_some : (a : ℕ → ℤ) (t : ℤ) (n y : ℕ) → y < n → t <ℤ a y → 1 ≤ above a t n
above_some a t zero y lt h = absurd (omega arith)
above_some a t (suc n) y lt h = elim (cases_eq y n) [
  | inl same ↦ (let e : a y ≡ a n = ap a same in some_by (lt_z t (a n)) (lt_z t (a n)) refl (above a t n) (λ f. let le : a n ≤ℤ t = lt_not t (a n) f in absurd (omega (arith, ints))))
  | inr ne ↦ (let rest : 1 ≤ above a t n = above_some a t n y (omega arith) h in omega arith)
]

-- the first n numbers have a gap from t up to u, or fewer lie above u than above t
abbrev HasNone : (ℕ → ℤ) → ℤ → ℤ → ℕ → Type 0
HasNone a t u n = (y : ℕ) → y < n → t <ℤ a y → u <ℤ a y

fewer_by : (a : ℕ → ℤ) (t u : ℤ) (n : ℕ) (s r : Bool) → lt_z t (a n) ≡ s → lt_z u (a n) ≡ r → t ≤ℤ u
    → above a u n ≤ above a t n → one_if r + above a u n ≤ one_if s + above a t n
fewer_by a t u n true true p q le h = omega arith
fewer_by a t u n true false p q le h = omega arith
fewer_by a t u n false true p q le h = (let x : a n ≤ℤ t = lt_not t (a n) p in let y : u <ℤ a n = lt_from u (a n) q in absurd (omega (arith, ints)))
fewer_by a t u n false false p q le h = omega arith

above_fewer : (a : ℕ → ℤ) (t u : ℤ) (n : ℕ) → t ≤ℤ u → above a u n ≤ above a t n
above_fewer a t u zero le = omega arith
above_fewer a t u (suc n) le = fewer_by a t u n (lt_z t (a n)) (lt_z u (a n)) refl refl le (above_fewer a t u n le)

none_more : (a : ℕ → ℤ) (t u : ℤ) (n : ℕ) → HasNone a t u n → (t <ℤ a n → u <ℤ a n) → HasNone a t u (suc n)
none_more a t u n h here y lt p = elim (cases_eq y n) [
  | inl same ↦ (let e : a y ≡ a n = ap a same in let q : u <ℤ a n = here (omega (arith, ints)) in omega (arith, ints))
  | inr ne ↦ h y (omega arith) p
]

between_by : (a : ℕ → ℤ) (t u : ℤ) (n : ℕ) (s r : Bool) → lt_z t (a n) ≡ s → lt_z u (a n) ≡ r → t ≤ℤ u
    → HasNone a t u n ⊎ (above a u n + 1 ≤ above a t n) → HasNone a t u (suc n) ⊎ (one_if r + above a u n + 1 ≤ one_if s + above a t n)
between_by a t u n true true p q le (inl h) = inl (none_more a t u n h (λ _. lt_from u (a n) q))
between_by a t u n true true p q le (inr h) = inr (omega arith)
between_by a t u n true false p q le (inl h) = inr (omega (arith, above_fewer a t u n le))
between_by a t u n true false p q le (inr h) = inr (omega arith)
between_by a t u n false true p q le h = (let x : a n ≤ℤ t = lt_not t (a n) p in let y : u <ℤ a n = lt_from u (a n) q in absurd (omega (arith, ints)))
between_by a t u n false false p q le (inl h) = inl (none_more a t u n h (λ z. let x : a n ≤ℤ t = lt_not t (a n) p in absurd (omega (arith, ints))))
between_by a t u n false false p q le (inr h) = inr (omega arith)

between : (a : ℕ → ℤ) (t u : ℤ) (n : ℕ) → t ≤ℤ u → HasNone a t u n ⊎ (above a u n + 1 ≤ above a t n)
between a t u zero le = inl (λ y lt. absurd (omega arith))
between a t u (suc n) le = between_by a t u n (lt_z t (a n)) (lt_z u (a n)) refl refl le (between a t u n le)

-- m gaps of this width above the base
abbrev pub climbed : ℤ → ℕ → ℕ → ℤ
climbed base width zero = base
climbed base width (suc m) = climbed base width m +ℤ pos width

climbed_up : (base : ℤ) (width m : ℕ) → base ≤ℤ climbed base width m
climbed_up base width zero = omega (arith, ints)
climbed_up base width (suc m) = (let rest = climbed_up base width m in omega (arith, ints))

-- a gap somewhere above the base and not further up than m widths
abbrev HasGap : (ℕ → ℤ) → ℤ → ℕ → ℕ → ℕ → Type 0
HasGap a base width n m = (t : ℤ) × (base ≤ℤ t) × (t ≤ℤ climbed base width m) × HasNone a t (t +ℤ pos width) n

gap_from : (a : ℕ → ℤ) (base : ℤ) (width n m : ℕ) → HasGap a base width n m ⊎ (above a (climbed base width m) n + m ≤ n)
gap_from a base width n zero = inr (omega (arith, above_most a base n))
gap_from a base width n (suc m) = elim (gap_from a base width n m) [
  | inl g ↦ inl (g.0, g.1, (let h = g.2 in omega (arith, ints)), g.3)
  | inr few ↦ (let t = climbed base width m in elim (between a t (t +ℤ pos width) n (omega (arith, ints))) [
    | inl none ↦ inl (t, climbed_up base width m, omega (arith, ints), none)
    | inr fewer ↦ inr (omega arith)
  ])
]

-- n numbers have a gap above the base: one among them, or above them all
pub gap : (a : ℕ → ℤ) (base : ℤ) (width n : ℕ)
    → (t : ℤ) × (base ≤ℤ t) × (t ≤ℤ climbed base width n) × ((y : ℕ) → y < n → t <ℤ a y → (t +ℤ pos width) <ℤ a y)
gap a base width n = elim (gap_from a base width n n) [
  | inl g ↦ g
  | inr few ↦ (
    climbed base width n,
    climbed_up base width n,
    omega (arith, ints),
    λ y lt h. absurd (omega (arith, above_some a (climbed base width n) n y lt h)),
  )
]

pub climbed-is : (base : ℤ) (width m : ℕ) → climbed base width m ≡ base +ℤ pos (m * width)
climbed-is base width zero = omega (arith, ints, zero-mul width)
climbed-is base width (suc m) = let rest = climbed-is base width m in omega (arith, ints, suc-mul m width, rest)
