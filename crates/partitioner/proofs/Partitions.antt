-- Each function and each variable stands on exactly one side.
use Rattle.std.proofs.Common.{◌≡◌, ℕ, suc, ◌+◌, ◌<◌, ◌≤◌, Bool, true, false, List, [], ◌∷◌, ◌++◌, length, map, Some, refl, ap, sym, ◌∙◌, append_assoc, arith}
use Rattle.std.specs.Prelude.{◌==◌, slice_get}
use Rattle.std.proofs.lemmas.Bool.Decides.{nat_tests}
use Rattle.ckc_core.specs.Programs.{Definition, Import, Trusted, Tainted, trusted_of, tainted_of}
use Rattle.ckc_core.specs.Core.{Core, Function, Statements}
use Rattle.partitioner.specs.Parts.{IsPartition, parts_of, numbers_from, counted_from, named, times}

abbrev Definitions : Type 0
Definitions = List (Definition Statements)

-- ---- numbers

-- numbers below the first don't stand there
low_functions : (side : Bool) (k n : ℕ) (ds : Definitions) → k < n → times k (numbers_from n side ds) ≡ 0
low_functions side k n [] low = refl
low_functions true k n (Trusted f ∷ ds) low = let other : (k == n) ≡ false = grind (arith, nat_tests) in rw other (low_functions true k (suc n) ds (omega (arith, low)))
low_functions true k n (Tainted i ∷ ds) low = low_functions true k (suc n) ds (omega (arith, low))
low_functions false k n (Trusted f ∷ ds) low = low_functions false k (suc n) ds (omega (arith, low))
low_functions false k n (Tainted i ∷ ds) low = let other : (k == n) ≡ false = grind (arith, nat_tests) in rw other (low_functions false k (suc n) ds (omega (arith, low)))

functions_apart : (k n : ℕ) (ds : Definitions) → n ≤ k → k < n + length ds → times k (numbers_from n true ds) + times k (numbers_from n false ds) ≡ 1
functions_apart k n [] least most = absurd (omega (arith, least, most))
functions_apart k n (Trusted f ∷ ds) least most = by (k == n) refl (functions_apart k (suc n) ds)
  where
    by : (t : Bool) → (k == n) ≡ t → (suc n ≤ k → k < suc n + length ds → times k (numbers_from (suc n) true ds) + times k (numbers_from (suc n) false ds) ≡ 1)
        → times k (numbers_from n true (Trusted f ∷ ds)) + times k (numbers_from n false (Trusted f ∷ ds)) ≡ 1
    by true e rest =
        let low : k < suc n = grind (arith, nat_tests) in
        rw (e, low_functions true k (suc n) ds low, low_functions false k (suc n) ds low) refl
    by false e rest =
        let more : suc n ≤ k = grind (arith, nat_tests) in
        rw e (rest more (omega (arith, most)))
functions_apart k n (Tainted i ∷ ds) least most = by (k == n) refl (functions_apart k (suc n) ds)
  where
    by : (t : Bool) → (k == n) ≡ t → (suc n ≤ k → k < suc n + length ds → times k (numbers_from (suc n) true ds) + times k (numbers_from (suc n) false ds) ≡ 1)
        → times k (numbers_from n true (Tainted i ∷ ds)) + times k (numbers_from n false (Tainted i ∷ ds)) ≡ 1
    by true e rest =
        let low : k < suc n = grind (arith, nat_tests) in
        rw (e, low_functions true k (suc n) ds low, low_functions false k (suc n) ds low) refl
    by false e rest =
        let more : suc n ≤ k = grind (arith, nat_tests) in
        rw e (rest more (omega (arith, most)))

low_objects : {X : Type 0} (k n : ℕ) (xs : List X) → k < n → times k (counted_from n xs) ≡ 0
low_objects k n [] low = refl
low_objects k n (x ∷ xs) low = let other : (k == n) ≡ false = grind (arith, nat_tests) in rw other (low_objects k (suc n) xs (omega (arith, low)))

objects_once : {X : Type 0} (k n : ℕ) (xs : List X) → n ≤ k → k < n + length xs → times k (counted_from n xs) ≡ 1
objects_once k n [] least most = absurd (omega (arith, least, most))
objects_once k n (x ∷ xs) least most = by (k == n) refl (objects_once k (suc n) xs)
  where
    by : (t : Bool) → (k == n) ≡ t → (suc n ≤ k → k < suc n + length xs → times k (counted_from (suc n) xs) ≡ 1) → times k (counted_from n (x ∷ xs)) ≡ 1
    by true e rest = let low : k < suc n = grind (arith, nat_tests) in rw (e, low_objects k (suc n) xs low) refl
    by false e rest = let more : suc n ≤ k = grind (arith, nat_tests) in rw e (rest more (omega (arith, most)))

-- ---- what they name

behind : {X : Type 0} (front : List X) (x : X) (xs : List X) → slice_get (front ++ x ∷ xs) (length front) ≡ Some x
behind [] x xs = refl
behind (y ∷ front) x xs = behind front x xs

one_more : {X : Type 0} (front : List X) (x : X) → length (front ++ x ∷ []) ≡ suc (length front)
one_more [] x = refl
one_more (y ∷ front) x = ap suc (one_more front x)

-- behind others, the numbers from theirs on name these
trusted_named : (all front ds : Definitions) (n : ℕ) → all ≡ front ++ ds → n ≡ length front → named all (numbers_from n true ds) ≡ map Trusted (trusted_of ds)
trusted_named all front [] n e e' = refl
trusted_named all front (Trusted f ∷ ds) n e e' =
    let here : slice_get all n ≡ Some (Trusted f) = rw (e, e') (behind front (Trusted f) ds) in
    rw here (ap (λ xs. Trusted f ∷ xs)
    (trusted_named all (front ++ Trusted f ∷ []) ds (suc n) (e ∙ sym (append_assoc front (Trusted f ∷ []) ds)) (ap suc e' ∙ sym (one_more front (Trusted f)))))
trusted_named all front (Tainted i ∷ ds) n e e' =
    trusted_named all (front ++ Tainted i ∷ []) ds (suc n) (e ∙ sym (append_assoc front (Tainted i ∷ []) ds)) (ap suc e' ∙ sym (one_more front (Tainted i)))

tainted_named : (all front ds : Definitions) (n : ℕ) → all ≡ front ++ ds → n ≡ length front → named all (numbers_from n false ds) ≡ map Tainted (tainted_of ds)
tainted_named all front [] n e e' = refl
tainted_named all front (Tainted i ∷ ds) n e e' =
    let here : slice_get all n ≡ Some (Tainted i) = rw (e, e') (behind front (Tainted i) ds) in
    rw here (ap (λ xs. Tainted i ∷ xs)
    (tainted_named all (front ++ Tainted i ∷ []) ds (suc n) (e ∙ sym (append_assoc front (Tainted i ∷ []) ds)) (ap suc e' ∙ sym (one_more front (Tainted i)))))
tainted_named all front (Trusted f ∷ ds) n e e' =
    tainted_named all (front ++ Trusted f ∷ []) ds (suc n) (e ∙ sym (append_assoc front (Trusted f ∷ []) ds)) (ap suc e' ∙ sym (one_more front (Trusted f)))

objects_named : {X : Type 0} (all front xs : List X) (n : ℕ) → all ≡ front ++ xs → n ≡ length front → named all (counted_from n xs) ≡ xs
objects_named all front [] n e e' = refl
objects_named all front (x ∷ xs) n e e' =
    let here : slice_get all n ≡ Some x = rw (e, e') (behind front x xs) in
    rw here (ap (λ ys. x ∷ ys) (objects_named all (front ++ x ∷ []) xs (suc n) (e ∙ sym (append_assoc front (x ∷ []) xs)) (ap suc e' ∙ sym (one_more front x))))

-- ---- sides of functions of one side

trusted_all : (fs : List Function) → trusted_of (map Trusted fs) ≡ fs
trusted_all [] = refl
trusted_all (f ∷ fs) = ap (λ xs. f ∷ xs) (trusted_all fs)

trusted_none : (is : List Import) → trusted_of {Body = Statements} (map Tainted is) ≡ []
trusted_none [] = refl
trusted_none (i ∷ is) = trusted_none is

tainted_all : (is : List Import) → tainted_of {Body = Statements} (map Tainted is) ≡ is
tainted_all [] = refl
tainted_all (i ∷ is) = ap (λ xs. i ∷ xs) (tainted_all is)

tainted_none : (fs : List Function) → tainted_of (map Trusted fs) ≡ []
tainted_none [] = refl
tainted_none (f ∷ fs) = tainted_none fs

pub partition : (c : Core) → IsPartition c (parts_of c)
partition c =
    let trusted = trusted_named c.definitions [] c.definitions 0 refl refl in
    let tainted = tainted_named c.definitions [] c.definitions 0 refl refl in
    record {
      functions = λ k low. functions_apart k 0 c.definitions (omega arith) (omega (arith, low));
      objects = λ k low. rw (objects_once k 0 c.objects (omega arith) (omega (arith, low))) refl;
      trusted = rw trusted (trusted_all (trusted_of c.definitions));
      no_tainted = rw trusted (tainted_none (trusted_of c.definitions));
      sandbox = rw tainted (tainted_all (tainted_of c.definitions));
      no_trusted = rw tainted (trusted_none (tainted_of c.definitions));
      all_objects = objects_named c.objects [] c.objects 0 refl refl;
      no_objects = refl;
    }
