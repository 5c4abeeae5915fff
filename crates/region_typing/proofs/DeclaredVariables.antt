-- How many variables items declare.
use Rattle.std.proofs.Common.{◌≡◌, ℕ, ◌+◌, ◌<◌, ◌≤◌, Bool, true, false, nat_lt, List, [], ◌∷◌, length, map, drop, get_or, refl, ap, sym, ◌∙◌, arith}
use Rattle.std.proofs.lemmas.Bool.Decides.{nat_tests}
use Rattle.ckc_tree.specs.declared.item.Item as code
use Rattle.ckc_tree.specs.Items as i
use Rattle.ckc_tree.specs.Items.{Item}
use Rattle.region_typing_rules.specs.Verdicts.{picked}
use Rattle.region_typing_rules.specs.Items.{limited, variables_declared}
use Rattle.region_typing_scope.proofs.Steps.{parts_at, no_parts}

-- a number that isn't above the limit
pub within : (n : ℕ) → n ≤ 4096 → limited 4096 n ≡ n
within n few = let less : nat_lt 4096 n ≡ false = grind (arith, nat_tests) in rw less refl

-- and one that isn't below it
over : (n : ℕ) → 4096 ≤ n → limited 4096 n ≡ 4096
over n many = by (nat_lt 4096 n) refl
  where
    by : (test : Bool) → nat_lt 4096 n ≡ test → picked test 4096 n ≡ 4096
    by true e = refl
    by false e = grind (arith, nat_tests)

pub limited_few : (n : ℕ) → limited 4096 n ≤ 4096
limited_few n = by (nat_lt 4096 n) refl
  where
    by : (test : Bool) → nat_lt 4096 n ≡ test → picked test 4096 n ≤ 4096
    by true e = omega arith
    by false e = grind (arith, nat_tests)

-- what is counted in two steps
limited_twice : (a b c : ℕ) → limited 4096 (limited 4096 (a + b) + c) ≡ limited 4096 (a + (b + c))
limited_twice a b c = by (nat_lt 4096 (a + b)) refl
  where
    by : (test : Bool) → nat_lt 4096 (a + b) ≡ test → limited 4096 (picked test 4096 (a + b) + c) ≡ limited 4096 (a + (b + c))
    by true e =
        let many : 4096 < a + b = grind (arith, nat_tests) in
        over (4096 + c) (omega arith) ∙ sym (over (a + (b + c)) (omega (arith, many)))
    by false e = let same : a + b + c ≡ a + (b + c) = omega arith in ap (limited 4096) same

-- the variables of an item and of those behind it
first_declared : (x : Item) (xs : List Item) → variables_declared (x ∷ xs) ≡ variables_declared (x ∷ []) + variables_declared xs
first_declared (i.GlobalItem g) xs = omega arith
first_declared (i.RegionItem region span) xs = omega arith
first_declared (i.StructureItem d) xs = omega arith
first_declared (i.FunctionItem f) xs = omega arith

-- an item more
pub count_more : (xs : List code.Item) (k : ℕ) (x : code.Item) (all count new : ℕ) → k < length xs → x ≡ get_or xs k x → new ≡ limited 4096 (count + variables_declared (i.item x ∷ []))
    → limited 4096 (count + variables_declared (map i.item (drop k xs))) ≡ all → limited 4096 (new + variables_declared (map i.item (drop (k + 1) xs))) ≡ all
count_more xs k x all count new less is counted so_far =
    let rest = map i.item (drop (k + 1) xs) in
    ap (λ (n : ℕ). limited 4096 (n + variables_declared rest)) counted
    ∙ limited_twice count (variables_declared (i.item x ∷ [])) (variables_declared rest)
    ∙ ap (λ (n : ℕ). limited 4096 (count + n)) (sym (first_declared (i.item x) rest) ∙ ap variables_declared (sym (parts_at i.item xs k x less is)))
    ∙ so_far

-- all items
pub count_all : (xs : List code.Item) (k : ℕ) (all count : ℕ) → length xs ≤ k → count ≤ 4096 → limited 4096 (count + variables_declared (map i.item (drop k xs))) ≡ all → count ≡ all
count_all xs k all count end few so_far =
    let none : count + variables_declared [] ≡ count = omega arith in
    sym (within count few) ∙ ap (limited 4096) (sym (ap (λ ys. count + variables_declared ys) (no_parts i.item xs k end) ∙ none)) ∙ so_far
