-- Whether facts can be met.
use Rattle.std.specs.Prelude.{ℕ, ◌<◌, ◌≤◌, ℤ, Option, List, length}
use Rattle.std.specs.List.{All, Contains}
use Rattle.subsumption.specs.declared.fact.Fact.{Fact}
use Rattle.subsumption.specs.Graphs.{IsEdge}
use Rattle.subsumption.specs.Facts.{HoldsBy}

-- a graph of n nodes
pub record AreEdges (n : ℕ) (facts : List Fact) : Type 0 where
  pub nodes : n ≤ 4097
  pub some : 0 < n
  pub edges : All (IsEdge n) facts

-- facts among these that no numbers meet
pub record IsContradiction (facts : List Fact) (n : ℕ) (path : List Fact) : Type 0 where
  pub among : All (Contains facts) path
  pub unmet : (a : Option ℕ → ℤ) → All (HoldsBy a) path → Unit {0} → ⊥
  pub count : length path ≤ n
