-- The graph of facts: nodes are zero and the variables, and a fact is an edge from its right to its left.
use Rattle.std.specs.Prelude.{ℕ, zero, suc, ◌^◌, ◌<◌, ℤ, pos, neg_ℤ, ◌≤ℤ◌, Option, None, Some, List, slice_index_or}
use Rattle.subsumption.specs.declared.fact.Fact.{Fact}

-- the fact that the one is at most the other plus a constant
abbrev pub fact_at : Option ℕ → Option ℕ → ℤ → Fact
fact_at left right plus = record { left = left; right = right; plus = plus }

-- the number of a node
abbrev pub node_of : Option ℕ → ℕ
node_of None = 0
node_of (Some x) = suc x

-- the node with a number
abbrev pub at_index : ℕ → Option ℕ
at_index zero = None
at_index (suc i) = Some i

-- what a list has at a node
abbrev pub at : List ℤ → Option ℕ → ℤ
at numbers x = slice_index_or numbers (node_of x) (pos 0)

-- from the limit's negative to the limit
pub record IsWithin (limit : ℕ) (z : ℤ) : Type 0 where
  pub low : neg_ℤ (pos limit) ≤ℤ z
  pub high : z ≤ℤ pos limit

-- both nodes of the fact are among the first n, and the constant isn't large
pub record IsEdge (n : ℕ) (f : Fact) : Type 0 where
  pub left : node_of f.left < n
  pub right : node_of f.right < n
  pub plus : IsWithin (2 ^ 102) f.plus
