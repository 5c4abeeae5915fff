-- Least constants, where there are any.
use Rattle.std.proofs.Common.{ℕ, ◌<◌, ◌≡◌, ℤ, ◌+ℤ◌, ◌≤ℤ◌, ◌<ℤ◌, Bool, true, false, cond, ◌==◌, Option, None, Some, refl, arith, ◌⊎◌, inl, inr}
use Rattle.std.proofs.lemmas.Int.{ints}
use Rattle.std.specs.Int.Signed.{le_z}
use Rattle.subsumption.specs.Distances.{longer_of}
use Rattle.subsumption.specs.ClosedTables.{AtMost, is_at_most, smaller_of, sum_of, Pairs}

pub le_from : (a b : ℤ) → le_z a b ≡ true → a ≤ℤ b
le_from a b h = grind (arith, ints)

pub le_to : (a b : ℤ) → a ≤ℤ b → le_z a b ≡ true
le_to a b h = grind (arith, ints)

pub lt_of : (a b : ℤ) → le_z a b ≡ false → b <ℤ a
lt_of a b h = grind (arith, ints)

pub at_most_from : (o : Option ℤ) (c : ℤ) → is_at_most o c ≡ true → AtMost o c
at_most_from None c h = cc
at_most_from (Some d) c h = le_from d c h

pub at_most_to : (o : Option ℤ) (c : ℤ) → AtMost o c → is_at_most o c ≡ true
at_most_to None c h = absurd h
at_most_to (Some d) c h = le_to d c h

pub at_most_up : (o : Option ℤ) (c e : ℤ) → AtMost o c → c ≤ℤ e → AtMost o e
at_most_up None c e h le = h
at_most_up (Some d) c e h le = omega (arith, ints, h, le)

smaller_from_by : (d e c : ℤ) (b : Bool) → le_z d e ≡ b → cond b d e ≤ℤ c → (d ≤ℤ c) ⊎ (e ≤ℤ c)
smaller_from_by d e c true q h = inl h
smaller_from_by d e c false q h = inr h

pub smaller_from : (o p : Option ℤ) (c : ℤ) → AtMost (smaller_of o p) c → AtMost o c ⊎ AtMost p c
smaller_from None p c h = inr h
smaller_from (Some d) None c h = inl h
smaller_from (Some d) (Some e) c h = smaller_from_by d e c (le_z d e) refl h

smaller_to_by : (d e c : ℤ) (b : Bool) → le_z d e ≡ b → (d ≤ℤ c) ⊎ (e ≤ℤ c) → cond b d e ≤ℤ c
smaller_to_by d e c true q (inl h) = h
smaller_to_by d e c true q (inr h) = (let a = le_from d e q in omega (arith, ints, a, h))
smaller_to_by d e c false q (inl h) = (let a = lt_of d e q in omega (arith, ints, a, h))
smaller_to_by d e c false q (inr h) = h

pub smaller_to : (o p : Option ℤ) (c : ℤ) → AtMost o c ⊎ AtMost p c → AtMost (smaller_of o p) c
smaller_to None p c (inl h) = absurd h
smaller_to None p c (inr h) = h
smaller_to (Some d) None c (inl h) = h
smaller_to (Some d) None c (inr h) = absurd h
smaller_to (Some d) (Some e) c h = smaller_to_by d e c (le_z d e) refl h

longer_from_by : (d e c : ℤ) (b : Bool) → le_z d e ≡ b → cond b e d ≤ℤ c → (d ≤ℤ c) × (e ≤ℤ c)
longer_from_by d e c true q h = (let a = le_from d e q in (omega (arith, ints, a, h), h))
longer_from_by d e c false q h = (let a = lt_of d e q in (h, omega (arith, ints, a, h)))

pub longer_from : (o p : Option ℤ) (c : ℤ) → AtMost (longer_of o p) c → AtMost o c × AtMost p c
longer_from None p c h = absurd h
longer_from (Some d) None c h = absurd h
longer_from (Some d) (Some e) c h = longer_from_by d e c (le_z d e) refl h

longer_to_by : (d e c : ℤ) (b : Bool) → (d ≤ℤ c) → (e ≤ℤ c) → cond b e d ≤ℤ c
longer_to_by d e c true h k = k
longer_to_by d e c false h k = h

pub longer_to : (o p : Option ℤ) (c : ℤ) → AtMost o c → AtMost p c → AtMost (longer_of o p) c
longer_to None p c h k = h
longer_to (Some d) None c h k = k
longer_to (Some d) (Some e) c h k = longer_to_by d e c (le_z d e) h k

-- a sum of constants is at most what sums of constants are at most
pub record IsSum (o p : Option ℤ) (c : ℤ) : Type 0 where
  pub first : ℤ
  pub second : ℤ
  pub left : AtMost o first
  pub right : AtMost p second
  pub fits : (first +ℤ second) ≤ℤ c

pub sum_from : (o p : Option ℤ) (c : ℤ) → AtMost (sum_of o p) c → IsSum o p c
sum_from None p c h = absurd h
sum_from (Some d) None c h = absurd h
sum_from (Some d) (Some e) c h = record { first = d; second = e; left = omega (arith, ints); right = omega (arith, ints); fits = h }

pub sum_to : (o p : Option ℤ) (a b : ℤ) → AtMost o a → AtMost p b → AtMost (sum_of o p) (a +ℤ b)
sum_to None p a b h k = h
sum_to (Some d) None a b h k = k
sum_to (Some d) (Some e) a b h k = omega (arith, ints, h, k)

-- the numbers of the nodes meet what is known of each two
abbrev pub MeetsPairs : ℕ → (ℕ → ℤ) → Pairs → Type 0
MeetsPairs n v t = (i j : ℕ) (c : ℤ) → i < n → j < n → AtMost (t i j) c → v i ≤ℤ (v j +ℤ c)

-- the numbers with this one for a node
abbrev pub put : ℕ → ℤ → (ℕ → ℤ) → ℕ → ℤ
put x z v i = cond (i == x) z (v i)
