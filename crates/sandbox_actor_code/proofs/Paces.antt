-- What is left of paced code of the sandbox before its next tick.
use Rattle.std.proofs.Common.{◌≡◌, ℕ, zero, suc, ◌+◌, ◌-◌, ◌*◌, ◌<◌, ◌≤◌, ◌⊎◌, max, Bool, true, false, List, [], ◌∷◌, length, Option, Some, None, refl, subst, ⊎_elim, inl, inr, arith}
use Rattle.std.specs.Prelude.{slice_get, nat_lt, ◌==◌, All, find, not, ◌&&◌, ◌||◌, IsTrue}
use Rattle.std.specs.List.{list_all}
use Rattle.std.proofs.lemmas.Bool.{and_parts}
use Rattle.std.proofs.lemmas.Bool.Decides.{nat_tests}
use Rattle.std.proofs.lemmas.Option.{slice_get_within}
use Rattle.code_words.specs.declared.op.Op.{Op}
use Rattle.code_words.specs.Functions.{Func}
use Rattle.code_words.specs.Images.{Image}
use Rattle.code_words.specs.Paced.{is_tick, is_call, tested, target_of, follows_tick, goes_well, keeps_pace, all_keep_pace, is_paced_function, is_paced}
use Rattle.code_words.specs.SandboxCode.{function_of}
use Rattle.code_words.specs.Left.{longest, rest_by, rest_in}

-- ---- functions of an image

-- what is found passes what all pass
passed : (p test : Func → Bool) (funs : List Func) (f : Func) → list_all p funs ≡ true → find test funs ≡ Some f → p f ≡ true
passed p test [] f all there = absurd (cc)
passed p test (g ∷ funs) f all there = by (test g) refl (passed p test funs f (and_parts _ _ all).1)
  where
    by : (b : Bool) → test g ≡ b → (find test funs ≡ Some f → p f ≡ true) → p f ≡ true
    by true e rest = let is : Some g ≡ Some f = rw e at there in let same : g ≡ f = cc in subst (λ h. p h ≡ true) same (and_parts _ _ all).0
    by false e rest = rest (rw e at there)

pub found_in : (P : Func → Type 0) (test : Func → Bool) (funs : List Func) (f : Func) → All P funs → find test funs ≡ Some f → P f
found_in P test [] f all there = absurd (cc)
found_in P test (g ∷ funs) f all there = by (test g) refl (found_in P test funs f (λ k d h. all (suc k) d (omega (arith, h))))
  where
    by : (b : Bool) → test g ≡ b → (find test funs ≡ Some f → P f) → P f
    by true e rest = let is : Some g ≡ Some f = rw e at there in let same : g ≡ f = cc in subst P same (all 0 g (omega arith))
    by false e rest = rest (rw e at there)

pub paced_function : (image : Image) (number : ℕ) (f : Func) → IsTrue (is_paced image) → function_of image number ≡ Some f → is_paced_function f ≡ true
paced_function image number f paced there = passed is_paced_function (λ (g : Func). g.number == number) image.sandbox.funs f (and_parts _ _ paced).1 there

longest_of : (test : Func → Bool) (funs : List Func) (f : Func) → find test funs ≡ Some f → length f.ops ≤ longest funs
longest_of test [] f there = absurd (cc)
longest_of test (g ∷ funs) f there = by (test g) refl (longest_of test funs f)
  where
    by : (b : Bool) → test g ≡ b → (find test funs ≡ Some f → length f.ops ≤ longest funs) → length f.ops ≤ max (length g.ops) (longest funs)
    by true e rest = let is : Some g ≡ Some f = rw e at there in let same : g ≡ f = cc in subst (λ h. length h.ops ≤ max (length g.ops) (longest funs)) same (omega arith)
    by false e rest = omega (arith, rest (rw e at there))

pub not_longer : (image : Image) (number : ℕ) (f : Func) → function_of image number ≡ Some f → length f.ops ≤ longest image.sandbox.funs
not_longer image number f there = longest_of (λ (g : Func). g.number == number) image.sandbox.funs f there

-- ---- instructions of a function

none_past : {X : Type 0} (xs : List X) (k : ℕ) → slice_get xs k ≡ None → length xs ≤ k
none_past [] k none = omega arith
none_past (x ∷ xs) zero none = absurd (cc)
none_past (x ∷ xs) (suc k) none = omega (arith, none_past xs k none)

keeps_at : (all : List Op) (from : ℕ) (ops : List Op) (k : ℕ) (op : Op) (at : ℕ) → from + k ≡ at → all_keep_pace all from ops ≡ true → slice_get ops k ≡ Some op → keeps_pace all at op ≡ true
keeps_at all from [] k op at same keep there = absurd (cc)
keeps_at all from (o ∷ ops) zero op at same keep there =
    let here : from ≡ at = omega arith in
    let is : o ≡ op = cc in
    subst (λ p. keeps_pace all p op ≡ true) here (subst (λ q. keeps_pace all from q ≡ true) is (and_parts _ _ keep).0)
keeps_at all from (o ∷ ops) (suc k) op at same keep there = keeps_at all (suc from) ops k op at (omega arith) (and_parts _ _ keep).1 there

no_call_if : (call : Bool) → (not call || false) ≡ true → call ≡ false
no_call_if true h = absurd (cc)
no_call_if false h = refl

-- where a jump lands
record Lands (at target : ℕ) (op : Op) : Type 0 where
  well : (nat_lt at target ≡ true) ⊎ (is_tick op ≡ true)
  free : is_call op ≡ false

module _ (most : ℕ) (ops : List Op) (keep : all_keep_pace ops 0 ops ≡ true) where
  -- behind an instruction that is no tick stands no call
  free_behind : (next : ℕ) (op : Op) → slice_get ops next ≡ Some op → is_tick op ≡ false → tested is_call (slice_get ops (next + 1)) ≡ false
  free_behind next op stands calm = by (slice_get ops (next + 1)) refl
    where
      by : (o : Option Op) → slice_get ops (next + 1) ≡ o → tested is_call o ≡ false
      by None e = refl
      by (Some other) e =
          let kept : (not (is_call other) || tested is_tick (slice_get ops next)) ≡ true = (and_parts _ _ (keeps_at ops 0 ops (next + 1) other (suc next) (omega arith) keep e)).1 in
          no_call_if (is_call other) (rw (stands, calm) at kept)

  lands : (next target : ℕ) (op other : Op) → slice_get ops next ≡ Some op → target_of op ≡ Some target → slice_get ops target ≡ Some other → Lands next target other
  lands next target op other stands jump there = by (nat_lt next target) (is_tick other) (is_call other) refl refl refl (rw (jump, there) at (and_parts (goes_well ops next (target_of op)) (not (is_call op) || follows_tick ops next) (keeps_at ops 0 ops next op next (omega arith) keep stands)).0)
    where
      by : (later tick call : Bool) → nat_lt next target ≡ later → is_tick other ≡ tick → is_call other ≡ call → ((nat_lt next target || is_tick other) && not (is_call other)) ≡ true → Lands next target other
      by true tick false a b c h = record { well = inl a; free = c }
      by false true false a b c h = record { well = inr b; free = c }
      by true tick true a b c h = absurd (cc (rw (a, c) at h))
      by false true true a b c h = absurd (cc (rw (a, b, c) at h))
      by false false call a b c h = absurd (cc (rw (a, b) at h))

  -- ---- what is left

  low_by : (tick call : Bool) (moves : ℕ) → call ≡ false → 3 ≤ moves → rest_by most tick call moves ≤ moves
  low_by true call moves e h = h
  low_by false true moves e h = absurd (cc)
  low_by false false moves e h = omega arith

  any_by : (tick call : Bool) (moves : ℕ) → 3 ≤ moves → (3 ≤ rest_by most tick call moves) × (rest_by most tick call moves ≤ moves + (3 * most + 4))
  any_by true call moves h = (omega arith, omega arith)
  any_by false true moves h = (omega arith, omega arith)
  any_by false false moves h = (omega arith, omega arith)

  pub some_left : (next : ℕ) → 3 ≤ rest_in most ops next
  some_left next = (any_by (tested is_tick (slice_get ops next)) (tested is_call (slice_get ops next)) (3 * (length ops - next) + 3) (omega arith)).0

  pub few_left : (next : ℕ) → length ops ≤ most → rest_in most ops next ≤ 6 * most + 7
  few_left next long = omega (arith, (any_by (tested is_tick (slice_get ops next)) (tested is_call (slice_get ops next)) (3 * (length ops - next) + 3) (omega arith)).1)

  -- no function begins with a call
  pub first_left : length ops ≤ most → rest_in most ops 0 ≤ 3 * most + 3
  first_left long = omega (arith, low_by (tested is_tick (slice_get ops 0)) (tested is_call (slice_get ops 0)) (3 * (length ops - 0) + 3) (by (slice_get ops 0) refl) (omega arith))
    where
      by : (o : Option Op) → slice_get ops 0 ≡ o → tested is_call o ≡ false
      by None e = refl
      by (Some op) e = no_call_if (is_call op) (and_parts _ _ (keeps_at ops 0 ops 0 op 0 refl keep e)).1

  behind_left : (next : ℕ) (op : Op) → slice_get ops next ≡ Some op → is_tick op ≡ false → rest_in most ops (next + 1) + 3 ≤ 3 * (length ops - next) + 3
  behind_left next op stands calm =
      omega (arith, slice_get_within ops next op stands, low_by (tested is_tick (slice_get ops (next + 1))) (tested is_call (slice_get ops (next + 1))) (3 * (length ops - (next + 1)) + 3) (free_behind next op stands calm) (omega arith))

  at_least : (call : Bool) (moves : ℕ) → moves ≤ rest_by most false call moves
  at_least true moves = omega arith
  at_least false moves = omega arith

  pub calm_falls : (next : ℕ) (op : Op) → slice_get ops next ≡ Some op → is_tick op ≡ false → rest_in most ops (next + 1) + 3 ≤ rest_in most ops next
  calm_falls next op stands calm =
      let here : rest_in most ops next ≡ rest_by most false (is_call op) (3 * (length ops - next) + 3) = rw (stands, calm) refl in
      omega (arith, here, behind_left next op stands calm, at_least (is_call op) (3 * (length ops - next) + 3))

  pub call_falls : (next : ℕ) (op : Op) → slice_get ops next ≡ Some op → is_tick op ≡ false → is_call op ≡ true → rest_in most ops (next + 1) + 3 * most + 7 ≤ rest_in most ops next
  call_falls next op stands calm call =
      let here : rest_in most ops next ≡ rest_by most false true (3 * (length ops - next) + 3) = rw (stands, calm, call) refl in
      omega (arith, here, behind_left next op stands calm)

  pub jump_falls : (next target : ℕ) (op : Op) → slice_get ops next ≡ Some op → is_tick op ≡ false → target_of op ≡ Some target → target < length ops → rest_in most ops target < rest_in most ops next
  jump_falls next target op stands calm jump there = by (slice_get ops target) refl
    where
      here : 3 * (length ops - next) + 3 ≤ rest_in most ops next
      here = rw (stands, calm) (at_least (is_call op) (3 * (length ops - next) + 3))

      by : (o : Option Op) → slice_get ops target ≡ o → rest_in most ops target < rest_in most ops next
      by None e = absurd (omega (arith, none_past ops target e))
      by (Some other) e =
          let l = lands next target op other stands jump e in
          let within : next < length ops = slice_get_within ops next op stands in
          let free : tested is_call (slice_get ops target) ≡ false = rw e l.free in
          ⊎_elim
          (λ (later : nat_lt next target ≡ true). let lt : next < target = grind (arith, nat_tests) in omega (arith, here, low_by (tested is_tick (slice_get ops target)) (tested is_call (slice_get ops target)) (3 * (length ops - target) + 3) free (omega arith)))
          (λ (tick : is_tick other ≡ true). let least : rest_in most ops target ≡ 3 = rw (e, tick) refl in omega (arith, here, least))
          l.well
