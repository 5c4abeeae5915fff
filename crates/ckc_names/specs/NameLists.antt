-- Lists of names in which each stands once.
use Rattle.std.specs.Prelude.{◌≡◌, ℕ, ◌<◌, List, [], map, slice_index_or, length, Vec}
use Rattle.std.proofs.Common.{Global}

-- the name with a number: its place in the list
abbrev pub name_at : List (List ℕ) → ℕ → List ℕ
name_at names number = slice_index_or names number []

-- no name stands twice
pub record Distinct (names : List (List ℕ)) : Type 0 where
  pub same : (j k : ℕ) → j < length names → k < length names → name_at names j ≡ name_at names k → j ≡ k

-- the names of a set
abbrev pub names_in : List (Vec ℕ Global) → List (List ℕ)
names_in keys = map (λ v. v.items) keys
