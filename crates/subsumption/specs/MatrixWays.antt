-- Facts along a path of a matrix, and numbers that break what it doesn't know (*inside*).
use Rattle.std.specs.Prelude.{ℕ, zero, suc, ◌+◌, ◌^◌, ◌<◌, ◌≤◌, ◌≡◌, ◌≢◌, ◌==◌, ℤ, pos, negsuc, ◌+ℤ◌, ◌-ℤ◌, ◌≤ℤ◌, cond, Option, None, Some, List}
use Rattle.std.specs.Prelude.{[], ◌∷◌, ◌++◌, length, slice_index_or}
use Rattle.std.specs.List.{All, Contains}
use Rattle.subsumption.specs.declared.fact.Fact.{Fact}
use Rattle.subsumption.specs.Graphs.{fact_at, IsWithin, at_index}
use Rattle.subsumption.specs.declared.row.Step.{Step}
use Rattle.subsumption.specs.Facts.{Entails, HasOneEach, IsKept, Meets, value_of}
use Rattle.subsumption.specs.Squares.{Cells}
use Rattle.subsumption.specs.ClosedTables.{sum_of, smaller_of}
use Rattle.subsumption.specs.Matrices.{cell, constants_of}
use Rattle.subsumption.specs.MatrixPaths.{facts_of}

-- ---- paths

-- there is a constant for the two
abbrev pub Reaches : Cells → ℕ → ℕ → Type 0
Reaches m i j = (d : ℤ) × (constants_of m i j ≡ Some d)

-- the first fact of a path was put behind others
pub record GoesOn (m : Cells) (here there next : ℕ) (before after : List Fact) : Type 0 where
  pub step : Step
  pub is : cell m here there ≡ Some step
  pub next_is : next ≡ step.first
  pub head : ℤ
  pub fact : constants_of m here next ≡ Some head
  pub path : after ≡ before ++ fact_at (at_index here) (at_index next) head ∷ []

-- facts of the matrix that alone show the constant of two nodes; none has the second on its left
pub record IsWay (m : Cells) (i j : ℕ) (path : List Fact) : Type 0 where
  pub few : length path < m.n
  pub among : All (Contains (facts_of m)) path
  pub one_each : HasOneEach path
  pub apart : All (λ f. f.left ≢ at_index j) path
  pub shows : (d : ℤ) (v : ℕ → ℤ) → constants_of m i j ≡ Some d → Meets v path → value_of v (at_index i) ≤ℤ (value_of v (at_index j) +ℤ d)

-- facts of the matrix and another one, which nothing meets together
pub record Contradicts (m : Cells) (fact : Fact) (path : List Fact) : Type 0 where
  pub few : length path ≤ m.n
  pub among : All (Contains (facts_of m ++ fact ∷ [])) path
  pub kept : All (IsKept m.n) path
  pub one_each : HasOneEach path
  pub broken : Entails path (fact_at None None (negsuc 0))

-- ---- numbers

-- nodes start far above y
abbrev pub start_of : ℕ → ℕ → ℤ
start_of y w = cond (w == y) (pos 0) (pos (2 ^ 102))

-- what w allows for z
abbrev pub cost_of : Cells → ℕ → ℕ → ℕ → Option ℤ
cost_of m y z w = sum_of (constants_of m z w) (Some (start_of y w))

-- the least of the first constants, where there are any
unfoldable pub least_below : (ℕ → Option ℤ) → ℕ → Option ℤ
least_below f zero = None
least_below f (suc n) = smaller_of (least_below f n) (f n)

abbrev pub or_zero : Option ℤ → ℤ
or_zero None = pos 0
or_zero (Some d) = d

-- the number of a node
abbrev pub number_of : Cells → ℕ → ℕ → ℤ
number_of m y z = or_zero (least_below (cost_of m y z) m.n)

-- a number, where there is one, that isn't large
abbrev pub IsSmall : Option ℤ → Type 0
IsSmall None = Unit {0}
IsSmall (Some d) = IsWithin (2 ^ 103) d

-- the numbers of the variables, counted from that of zero
pub record AreNumbers (m : Cells) (y : ℕ) (values : List ℤ) : Type 0 where
  pub size : length values + 1 ≡ m.n
  pub each : (i : ℕ) → i < length values → slice_index_or values i (pos 0) ≡ number_of m y (i + 1) -ℤ number_of m y 0
