-- The facts of a matrix of steps, and the paths along them (*inside*).
use Rattle.std.specs.Prelude.{ℕ, zero, suc, ◌+◌, ◌<◌, ◌≤◌, ◌≡◌, ◌≢◌, ◌==◌, ℤ, negsuc, ◌+ℤ◌, Bool, true, false, cond, Option, None, Some, List, []}
use Rattle.std.specs.Prelude.{◌∷◌, ◌++◌, length}
use Rattle.std.specs.List.{All}
use Rattle.subsumption.specs.declared.fact.Fact.{Fact}
use Rattle.subsumption.specs.Graphs.{fact_at, at_index}
use Rattle.subsumption.specs.declared.row.Step.{Step}
use Rattle.subsumption.specs.Facts.{Entails, HasOneEach, IsKept}
use Rattle.subsumption.specs.Squares.{Cells}
use Rattle.subsumption.specs.declared.matrix.Change.{Change}
use Rattle.subsumption.specs.declared.matrix.Change.TheVariants.{Add, Kill, Shift}
use Rattle.subsumption.specs.ClosedTables.{ClosedTable, Contradiction, Least, Pairs, Rows, rows_of, are_near, no_pairs, added, killed, raised, is_broken}
use Rattle.subsumption.specs.TableLaws.{IsClosed}
use Rattle.subsumption.specs.Matrices.{cell, cleared, constants_of, AreNear}

-- ---- facts

-- the fact that two nodes' step is, if its path leads to the second at once
abbrev pub fact_by : ℕ → ℕ → Option Step → List Fact
fact_by i j None = []
fact_by i j (Some s) = cond (s.first == j) (fact_at (at_index i) (at_index j) s.plus ∷ []) []

abbrev pub facts_between : Cells → ℕ → ℕ → List Fact
facts_between m i j = cond (i == j) [] (fact_by i j (cell m i j))

-- the lists of a function at the numbers below n, one behind the other
unfoldable pub listed : {A : Type 0} → ℕ → (ℕ → List A) → List A
listed zero f = []
listed (suc n) f = listed n f ++ f n

-- the facts of all pairs
abbrev pub facts_of : Cells → List Fact
facts_of m = listed m.n (λ i. listed m.n (λ j. facts_between m i j))

-- ---- paths

-- A path that goes on: its first fact is one of the matrix, and what is left of it is the path from there. The rank falls.
pub record Continues (m : Cells) (rank : ℕ → ℕ → ℕ) (i j : ℕ) (s : Step) : Type 0 where
  pub room : s.first < m.n
  pub apart : s.first ≢ i
  pub head : ℤ
  pub rest : ℤ
  pub fact : cell m i s.first ≡ Some (record { plus = head; first = s.first })
  pub behind : constants_of m s.first j ≡ Some rest
  pub sum : s.plus ≡ head +ℤ rest
  pub sooner : rank s.first j < rank i j

-- each step between two nodes has a path
pub record HasPaths (m : Cells) : Type 0 where
  pub rank : ℕ → ℕ → ℕ
  pub continues : (i j : ℕ) (s : Step) → i < m.n → j < m.n → i ≢ j → cell m i j ≡ Some s → Continues m rank i j s

-- ---- least constants with paths

pub record IsCanonical (m : Cells) : Type 0 where
  pub closed : IsClosed m.n (constants_of m)
  pub near : AreNear m
  pub paths : HasPaths m

-- nothing is known
abbrev pub IsCleared : Cells → Type 0
IsCleared m = (i j : ℕ) → i < m.n → j < m.n → cell m i j ≡ cleared i j

-- what becomes of the constants
abbrev pub pairs_after : Change → Pairs → Pairs
pairs_after (Add x y c) t = added x y c t
pairs_after (Kill x) t = killed x t
pairs_after (Shift x c) t = raised x c t

-- a fact that is added can be met together with what is known
abbrev pub IsMet : Change → Cells → Type 0
IsMet (Add x y c) m = is_broken (constants_of m y x) c ≡ false
IsMet (Kill x) m = Unit {0}
IsMet (Shift x c) m = Unit {0}

-- the rows, or those where nothing is known if a constant is too large
abbrev pub guarded_rows : ℕ → Pairs → Rows
guarded_rows n t = cond (are_near (rows_of n t)) (rows_of n t) (rows_of n no_pairs)

-- ---- what a table of facts keeps

-- the facts, or the path of a contradiction
abbrev pub facts_by : Bool → List Fact → Cells → List Fact
facts_by false path m = facts_of m
facts_by true path m = path

abbrev pub table_by : Bool → Cells → ClosedTable
table_by false m = Least (rows_of m.n (constants_of m))
table_by true m = Contradiction

-- facts that nothing meets
pub record AreBroken (vars : ℕ) (path : List Fact) : Type 0 where
  pub few : length path ≤ vars + 1
  pub kept : All (IsKept (vars + 1)) path
  pub one_each : HasOneEach path
  pub broken : Entails path (fact_at None None (negsuc 0))

-- least constants with paths, or a contradiction
abbrev pub IsSound : Bool → ℕ → List Fact → Cells → Type 0
IsSound false vars path m = IsCanonical m
IsSound true vars path m = AreBroken vars path

pub record IsKeptClosed (vars : ℕ) (broken : Bool) (path : List Fact) (m : Cells) : Type 0 where
  pub few : vars ≤ 4096
  pub size : m.n ≡ vars + 1
  pub sound : IsSound broken vars path m
