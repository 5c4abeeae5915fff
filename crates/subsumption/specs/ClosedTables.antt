-- Closed tables: one form for all lists of facts that entail the same. For each two nodes x and y, in their order, a table
-- has the least c for which it is entailed that x is at most y + c, where there is one. Node 0 is zero, and node i + 1 is
-- the variable i. (Dill's difference bound matrices, over whole numbers without limits.)
use Rattle.std.specs.Prelude.{ℕ, zero, suc, ◌+◌, ◌==◌, ℤ, pos, ◌+ℤ◌, ◌-ℤ◌, ◌≤ℤ◌, Bool, true, false, cond, Option, None, Some, List, [], ◌∷◌, slice_index_or}
use Rattle.std.specs.Int.Signed.{le_z, lt_z}
use Rattle.std.specs.List.{list_all}
use Rattle.bounds_exprs.specs.declared.term.Term.{Term}
use Rattle.subsumption.specs.declared.fact.Fact.{Fact}
use Rattle.subsumption.specs.Graphs.{node_of}
use Rattle.subsumption.specs.Distances.{longer_of, is_near}
use Rattle.subsumption.specs.Facts.{fact_of}

-- ---- least constants, where there are any

-- the constant is at least the least one
abbrev pub AtMost : Option ℤ → ℤ → Type 0
AtMost None c = ⊥
AtMost (Some least) c = least ≤ℤ c

abbrev pub is_at_most : Option ℤ → ℤ → Bool
is_at_most None c = false
is_at_most (Some least) c = le_z least c

-- the smaller of two, or the one that is there
abbrev pub smaller_of : Option ℤ → Option ℤ → Option ℤ
smaller_of None e = e
smaller_of (Some d) None = Some d
smaller_of (Some d) (Some e) = Some (cond (le_z d e) d e)

-- the sum, where there are both
abbrev pub sum_of : Option ℤ → Option ℤ → Option ℤ
sum_of None e = None
sum_of (Some d) None = None
sum_of (Some d) (Some e) = Some (d +ℤ e)

-- ---- the constants of all pairs of nodes, before and after a change

abbrev pub Pairs : Type 0
Pairs = ℕ → ℕ → Option ℤ

-- of each node it is known that it is at most itself
abbrev pub no_pairs : Pairs
no_pairs i j = cond (i == j) (Some (pos 0)) None

-- once it is known that x is at most y + c: the way from i to j may lead through x and y
abbrev pub added : ℕ → ℕ → ℤ → Pairs → Pairs
added x y c t i j = smaller_of (t i j) (sum_of (sum_of (t i x) (Some c)) (t y j))

-- once nothing is known of x
abbrev pub killed : ℕ → Pairs → Pairs
killed x t i j = cond (i == j) (t i j) (cond (i == x) None (cond (j == x) None (t i j)))

-- once c was added to x
abbrev pub raised : ℕ → ℤ → Pairs → Pairs
raised x c t i j = sum_of (t i j) (Some (cond (i == x) c (pos 0) -ℤ cond (j == x) c (pos 0)))

-- what is known on two ways
abbrev pub shared : Pairs → Pairs → Pairs
shared t u i j = longer_of (t i j) (u i j)

-- ---- tables

-- the rows: a list of what each two nodes have
abbrev pub Rows : Type 0
Rows = List (List (Option ℤ))

-- the values of a function at the numbers below n
abbrev pub values_below : {A : Type 0} → ℕ → (ℕ → A) → List A
values_below zero f = []
values_below (suc n) f = f 0 ∷ values_below n (λ i. f (suc i))

-- the rows of so many nodes
abbrev pub rows_of : ℕ → Pairs → Rows
rows_of n t = values_below n (λ i. values_below n (λ j. t i j))

abbrev pub entry : Rows → Pairs
entry rows i j = slice_index_or (slice_index_or rows i []) j None

-- facts that no valuation meets, or the least constants
pub data ClosedTable : Type 0 where
  Contradiction : ClosedTable
  Least : (rows : Rows) → ClosedTable

-- no facts about so many variables
abbrev pub no_facts : ℕ → ClosedTable
no_facts vars = Least (rows_of (vars + 1) no_pairs)

-- no constant lies outside -2^100 to 2^100
abbrev pub are_near : Rows → Bool
are_near rows = list_all (list_all is_near) rows

-- no facts are left where a constant lies outside -2^100 to 2^100
abbrev pub guarded : ℕ → Rows → ClosedTable
guarded vars rows = cond (are_near rows) (Least rows) (no_facts vars)

abbrev pub table_of : ℕ → Pairs → ClosedTable
table_of vars t = guarded vars (rows_of (vars + 1) t)

-- x is at most y + c for no number where y is at most x + d with a d below -c
abbrev pub is_broken : Option ℤ → ℤ → Bool
is_broken None c = false
is_broken (Some d) c = lt_z (d +ℤ c) (pos 0)

abbrev pub added_to : ℕ → ℕ → ℕ → ℤ → Pairs → ClosedTable
added_to vars x y c t = cond (is_broken (t y x) c) Contradiction (table_of vars (added x y c t))

-- ---- what a table entails, and its changes

-- the table entails the fact
abbrev pub entails_fact : Fact → ClosedTable → Bool
entails_fact f Contradiction = true
entails_fact f (Least rows) = is_at_most (entry rows (node_of f.left) (node_of f.right)) f.plus

-- the table entails that the one term is at most the other
abbrev pub entails_terms : Term → Term → ClosedTable → Bool
entails_terms a b t = entails_fact (fact_of a b) t

-- one fact more
abbrev pub with_fact : ℕ → Fact → ClosedTable → ClosedTable
with_fact vars f Contradiction = Contradiction
with_fact vars f (Least rows) = added_to vars (node_of f.left) (node_of f.right) f.plus (entry rows)

-- after x was assigned a number of which nothing is known
abbrev pub without : ℕ → ℕ → ClosedTable → ClosedTable
without vars x Contradiction = Contradiction
without vars x (Least rows) = table_of vars (killed (suc x) (entry rows))

-- after x was assigned x + c
abbrev pub shifted : ℕ → ℕ → ℤ → ClosedTable → ClosedTable
shifted vars x c Contradiction = Contradiction
shifted vars x c (Least rows) = table_of vars (raised (suc x) c (entry rows))

-- where two ways meet
abbrev pub joined : ℕ → ClosedTable → ClosedTable → ClosedTable
joined vars Contradiction u = u
joined vars (Least rows) Contradiction = Least rows
joined vars (Least rows) (Least others) = table_of vars (shared (entry rows) (entry others))
