-- Lists, nodes and comparisons.
use Rattle.std.proofs.Common.{ℕ, zero, suc, ◌+◌, ◌<◌, ◌≡◌, ℤ, pos, ◌≤ℤ◌, ◌<ℤ◌, true, false, Option, None, Some, List, [], ◌∷◌, ◌++◌, length, get_or, refl, sym, ◌∙◌, ap, arith, inl, inr}
use Rattle.std.proofs.lemmas.Int.{ints}
use Rattle.std.proofs.lemmas.List.Elements.{All-from_recursion, recursion_from_All}
use Rattle.std.proofs.lemmas.Bool.{cases_eq}
use Rattle.std.proofs.lemmas.List.{get_or_push, get_or_append_left, length_push}
use Rattle.std.specs.Int.Signed.{le_z}
use Rattle.std.specs.List.{All, AllByRecursion as ByRecursion}
use Rattle.subsumption.specs.Graphs.{node_of, at_index}

pub front_by_recursion : {X : Type 0} (P : X → Type 0) (xs ys : List X) → ByRecursion P (xs ++ ys) → ByRecursion P xs
front_by_recursion P [] ys h = tt
front_by_recursion P (x ∷ xs) ys h = (h.0, front_by_recursion P xs ys h.1)

pub back_by_recursion : {X : Type 0} (P : X → Type 0) (xs ys : List X) → ByRecursion P (xs ++ ys) → ByRecursion P ys
back_by_recursion P [] ys h = h
back_by_recursion P (x ∷ xs) ys h = back_by_recursion P xs ys h.1

pub All_front : {X : Type 0} (P : X → Type 0) (xs ys : List X) → All P (xs ++ ys) → All P xs
All_front P xs ys h = All-from_recursion P xs (front_by_recursion P xs ys (recursion_from_All P (xs ++ ys) h))

pub All_last : {X : Type 0} (P : X → Type 0) (xs : List X) (x : X) → All P (xs ++ x ∷ []) → P x
All_last P xs x h = (back_by_recursion P xs (x ∷ []) (recursion_from_All P (xs ++ x ∷ []) h)).0

pub le_from : (a b : ℤ) → le_z a b ≡ true → a ≤ℤ b
le_from a b h = grind (arith, ints)

pub node_same : (x y : Option ℕ) → node_of x ≡ node_of y → x ≡ y
node_same None None h = refl
node_same None (Some y) h = absurd (omega arith)
node_same (Some x) None h = absurd (omega arith)
node_same (Some x) (Some y) h = let same : x ≡ y = omega arith in ap Some same

pub lt_of : (a b : ℤ) → le_z a b ≡ false → b <ℤ a
lt_of a b h = grind (arith, ints)

-- a list of a function's values with one more
pub push_each : (xs : List ℤ) (i : ℕ) (F : ℕ → ℤ) (v : ℤ) → length xs ≡ i → ((j : ℕ) → j < i → get_or xs j (pos 0) ≡ F j) → v ≡ F i
    → (length (xs ++ v ∷ []) ≡ i + 1) × ((j : ℕ) → j < i + 1 → get_or (xs ++ v ∷ []) j (pos 0) ≡ F j)
push_each xs i F v size each here = (
  length_push xs v ∙ ap (λ n. n + 1) size,
  λ j lt. elim (cases_eq j i) [
    | inl same ↦ (let at-end : get_or (xs ++ v ∷ []) (length xs) (pos 0) ≡ v = get_or_push xs v (pos 0) (length xs) refl in
        ap (λ n. get_or (xs ++ v ∷ []) n (pos 0)) (same ∙ sym size) ∙ at-end ∙ here ∙ ap F (sym same))
    | inr ne ↦ get_or_append_left xs (v ∷ []) (pos 0) j (omega (arith, size)) ∙ each j (omega arith)
  ],
)

pub node_of-at_index : (i : ℕ) → node_of (at_index i) ≡ i
node_of-at_index zero = refl
node_of-at_index (suc i) = refl
