-- Rows of calls that wait, and what a write in them changes.
use Rattle.std.proofs.Common.{◌≡◌, ℕ, zero, suc, ◌+◌, ◌-◌, ◌<◌, ◌≤◌, List, [], ◌∷◌, length, Option, Some, None, refl, ap, ◌∙◌, arith}
use Rattle.std.specs.Prelude.{slice_get, slice_set}
use Rattle.sandbox_actor_code.specs.declared.waiting_calls.WaitingCall.{WaitingCall}
use Rattle.sandbox_actor_code.specs.WaitingInsides.{with_row, first_rows}

get-set_other : (rows : List WaitingCall) (i n : ℕ) (x : WaitingCall) → n < i → slice_get (slice_set rows i x) n ≡ slice_get rows n
get-set_other [] i n x h = refl
get-set_other (row ∷ rows) zero n x h = absurd (omega (arith, h))
get-set_other (row ∷ rows) (suc i) zero x h = refl
get-set_other (row ∷ rows) (suc i) (suc n) x h = get-set_other rows i n x (omega (arith, h))

get-set_same : (rows : List WaitingCall) (i : ℕ) (x : WaitingCall) → i < length rows → slice_get (slice_set rows i x) i ≡ Some x
get-set_same [] i x h = absurd (omega (arith, h))
get-set_same (row ∷ rows) zero x h = refl
get-set_same (row ∷ rows) (suc i) x h = get-set_same rows i x (omega (arith, h))

none_past : (rows : List WaitingCall) (k : ℕ) → slice_get rows k ≡ None → length rows ≤ k
none_past [] k none = omega arith
none_past (row ∷ rows) zero none = absurd (cc)
none_past (row ∷ rows) (suc k) none = omega (arith, none_past rows k none)

-- a write behind the first rows
pub first-set : (rows : List WaitingCall) (n i : ℕ) (x : WaitingCall) → n ≤ i → first_rows (slice_set rows i x) n ≡ first_rows rows n
first-set rows zero i x h = refl
first-set rows (suc n) i x h = rw (get-set_other rows i n x (omega (arith, h)), first-set rows n i x (omega (arith, h))) refl

-- a write just behind them makes them more
pub first-more : (rows : List WaitingCall) (n : ℕ) (x : WaitingCall) → n < length rows → first_rows (slice_set rows n x) (n + 1) ≡ x ∷ first_rows rows n
first-more rows n x h =
    let one : n + 1 ≡ suc n = omega arith in
    ap (first_rows (slice_set rows n x)) one ∙ rw (get-set_same rows n x h, first-set rows n n x (omega arith)) refl

-- the last of them comes first
pub first-last : (rows : List WaitingCall) (n : ℕ) (x : WaitingCall) → 0 < n → slice_get rows (n - 1) ≡ Some x → first_rows rows n ≡ x ∷ first_rows rows (n - 1)
first-last rows zero x some h = absurd (omega (arith, some))
first-last rows (suc n) x some h =
    let e : suc n - 1 ≡ n = omega arith in
    let there : slice_get rows n ≡ Some x = rw e at h in
    rw (there, e) refl

pub length-first : (rows : List WaitingCall) (n : ℕ) → n ≤ length rows → length (first_rows rows n) ≡ n
length-first rows zero h = refl
length-first rows (suc n) h = by (slice_get rows n) refl (length-first rows n (omega (arith, h)))
  where
    by : (row : Option WaitingCall) → slice_get rows n ≡ row → length (first_rows rows n) ≡ n → length (with_row row (first_rows rows n)) ≡ suc n
    by None e rest = absurd (omega (arith, h, none_past rows n e))
    by (Some row) e rest = ap suc rest
