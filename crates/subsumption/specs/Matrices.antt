-- Matrices of steps (*inside*): for each two nodes a constant and the node that its path leads to first, where there is one.
use Rattle.std.specs.Prelude.{ℕ, ◌+◌, ◌^◌, ◌<◌, ◌≤◌, ◌≡◌, ◌≢◌, ◌⊎◌, ◌==◌, ◌&&◌, not, nat_lt, ℤ, pos, ◌+ℤ◌, ◌-ℤ◌}
use Rattle.std.specs.Prelude.{Bool, true, false, cond, Option, None, Some, slice_index_or, slice_set, replicate}
use Rattle.std.specs.Int.Signed.{le_z}
use Rattle.subsumption.specs.Graphs.{IsWithin}
use Rattle.subsumption.specs.Distances.{is_near}
use Rattle.subsumption.specs.declared.row.Step.{Step}
use Rattle.subsumption.specs.declared.matrix.Change.{Change}
use Rattle.subsumption.specs.declared.matrix.Change.TheVariants.{Add, Kill, Shift}
use Rattle.subsumption.specs.declared.matrix.Columns.{Columns}
use Rattle.subsumption.specs.declared.matrix.Turn.{Turn}
use Rattle.subsumption.specs.declared.matrix.Turn.TheVariants.{Reach, Forget, Gain}
use Rattle.subsumption.specs.Squares.{Cells, Line, is_open, line, no_line}
use Rattle.subsumption.specs.ClosedTables.{Pairs, is_at_most, sum_of}

-- ---- what stands in a matrix

-- a constant with the node that its path leads to first, where there is one
abbrev pub step_of : Option ℕ → ℤ → Option Step
step_of None c = None
step_of (Some y) c = Some (record { plus = c; first = y })

-- nothing is known
abbrev pub cleared : ℕ → ℕ → Option Step
cleared i j = cond (i == j) (Some (record { plus = pos 0; first = j })) None

-- what the line of i has for j
abbrev pub line_cell : Line → ℕ → ℕ → Option Step
line_cell l i j = cond (is_open l) (step_of (slice_index_or l.firsts j None) (slice_index_or l.constants j (pos 0))) (cleared i j)

abbrev pub cell : Cells → ℕ → ℕ → Option Step
cell m i j = line_cell (line m i) i j

abbrev pub plus_of : Option Step → Option ℤ
plus_of None = None
plus_of (Some s) = Some s.plus

abbrev pub first_of : Option Step → ℕ
first_of None = 0
first_of (Some s) = s.first

-- the constants alone
abbrev pub constants_of : Cells → Pairs
constants_of m i j = plus_of (cell m i j)

-- a step to j was put
abbrev pub line_with : Line → ℕ → Option Step → Line
line_with l j None = record { constants = l.constants; firsts = slice_set l.firsts j None }
line_with l j (Some s) = record { constants = slice_set l.constants j s.plus; firsts = slice_set l.firsts j (Some s.first) }

-- nothing is known of i, and there is room for steps
abbrev pub alone : ℕ → ℕ → Line
alone n i = record { constants = replicate n (pos 0); firsts = slice_set (replicate n None) i (Some i) }

-- one step was put
pub record Puts (m : Cells) (i j : ℕ) (s : Option Step) (new : Cells) : Type 0 where
  pub size : new.n ≡ m.n
  pub ready : is_open (line new i) ≡ true
  pub here : cell new i j ≡ s
  pub beside : (b : ℕ) → b < m.n → b ≢ j → cell new i b ≡ cell m i b
  pub others : (a : ℕ) → a ≢ i → line new a ≡ line m a

-- there is room for steps from i, and none changed
pub record Opens (m : Cells) (i : ℕ) (new : Cells) : Type 0 where
  pub size : new.n ≡ m.n
  pub ready : is_open (line new i) ≡ true
  pub same : (a b : ℕ) → a < m.n → b < m.n → cell new a b ≡ cell m a b

-- nothing is known from i any more
pub record Closes (m : Cells) (i : ℕ) (new : Cells) : Type 0 where
  pub size : new.n ≡ m.n
  pub here : line new i ≡ no_line
  pub others : (a : ℕ) → a ≢ i → line new a ≡ line m a

-- from i up to the k-th node the steps are the new ones
pub record IsRowChanged (new : ℕ → Option Step) (start now : Cells) (i k : ℕ) : Type 0 where
  pub size : now.n ≡ start.n
  pub done : (j : ℕ) → j < start.n → j < k → cell now i j ≡ new j
  pub left : (j : ℕ) → j < start.n → k ≤ j → cell now i j ≡ cell start i j
  pub others : (a : ℕ) → a ≢ i → line now a ≡ line start a

-- whether the first k constants are near
abbrev pub ShowsRow : Bool → (ℕ → Option Step) → ℕ → Type 0
ShowsRow true f k = (j : ℕ) → j < k → is_near (plus_of (f j)) ≡ true
ShowsRow false f k = (j : ℕ) × (j < k) × (is_near (plus_of (f j)) ≡ false)

-- ---- what a change makes of a step

-- a path of its own
abbrev pub own : ℕ → Option Step → Option Step
own j None = None
own j (Some s) = Some (record { plus = s.plus; first = j })

-- the better of a step and one with this constant
abbrev pub better_of : Option Step → Option ℤ → ℕ → Option Step
better_of s None first = s
better_of None (Some d) first = Some (record { plus = d; first = first })
better_of (Some s) (Some d) first = cond (le_z s.plus d) (Some s) (Some (record { plus = d; first = first }))

-- a step with so much more
abbrev pub more_of : Option Step → ℤ → Option Step
more_of None c = None
more_of (Some s) c = Some (record { plus = s.plus +ℤ c; first = s.first })

-- nothing is known of x
abbrev pub killed_step : ℕ → Option Step → ℕ → ℕ → Option Step
killed_step x s i j = cond (i == j) s (cond (i == x) None (cond (j == x) None s))

-- nothing is known of x; where no path from i leads to x, none leads through x either
abbrev pub forgotten : ℕ → Option Step → Option Step → ℕ → ℕ → Option Step
forgotten x None s i j = s
forgotten x (Some t) s i j = own j (killed_step x s i j)

abbrev pub changed : Change → Cells → ℕ → ℕ → Option Step
changed (Add x y c) m i j =
    better_of (cell m i j) (sum_of (sum_of (constants_of m i x) (Some c)) (constants_of m y j)) (cond (i == x) y (first_of (cell m i x)))
changed (Kill x) m i j = forgotten x (cell m i x) (cell m i j) i j
changed (Shift x c) m i j = more_of (cell m i j) (cond (i == x) c (pos 0) -ℤ cond (j == x) c (pos 0))

-- the longer of two, with a path of its own
abbrev pub longer_step : ℕ → Option Step → Option Step → Option Step
longer_step j None t = None
longer_step j (Some s) None = None
longer_step j (Some s) (Some t) = Some (record { plus = cond (le_z s.plus t.plus) t.plus s.plus; first = j })

abbrev pub joined_step : Cells → Cells → ℕ → ℕ → Option Step
joined_step m other i j = longer_step j (cell m i j) (cell other i j)

-- ---- a change by rows

-- what a turn makes of a step
abbrev pub turned : Turn → Cells → ℕ → ℕ → Option Step
turned (Reach y d f) m i j = better_of (cell m i j) (sum_of (Some d) (constants_of m y j)) f
turned (Forget x) m i j = own j (killed_step x (cell m i j) i j)
turned (Gain x c) m i j = more_of (cell m i j) (cond (i == x) c (pos 0) -ℤ cond (j == x) c (pos 0))

-- a path that leads to x, and from there to y, unless one to y is known that is no worse
abbrev pub reach_of : Option Step → ℤ → Option ℤ → ℕ → Bool → Option Turn
reach_of None c e y here = None
reach_of (Some s) c e y here = cond (is_at_most e (s.plus +ℤ c)) None (Some (Reach y (s.plus +ℤ c) (cond here y s.first)))

-- a path to x is forgotten, where there is one
abbrev pub forget_of : Bool → Option Step → ℕ → Option Turn
forget_of ready None x = None
forget_of ready (Some s) x = cond ready (Some (Forget x)) None

-- what a change makes of the steps from i, where it changes any
abbrev pub turn_of : Change → Cells → ℕ → Option Turn
turn_of (Add x y c) m i = reach_of (cell m i x) c (constants_of m i y) y (i == x)
turn_of (Kill x) m i = forget_of (is_open (line m i)) (cell m i x) x
turn_of (Shift x c) m i = cond (is_open (line m i)) (Some (Gain x c)) None

-- x comes nearer to j once x is at most y + c
abbrev pub lowers_by : Option Step → ℤ → Option ℤ → Bool
lowers_by None c e = false
lowers_by (Some s) c e = not (is_at_most e (c +ℤ s.plus))

abbrev pub lowers : ℕ → ℕ → ℤ → Cells → ℕ → Bool
lowers x y c m j = lowers_by (cell m y j) c (constants_of m x j)

-- the columns and j, which stands behind them
abbrev pub with_column : Columns → ℕ → Columns
with_column columns j = record { from = cond (nat_lt columns.from j) columns.from j; to = j + 1 }

-- columns of so many nodes
abbrev pub AreColumns : ℕ → Columns → Type 0
AreColumns n columns = (columns.from ≤ n) × (columns.to ≤ n)

-- the column isn't one of these
abbrev pub IsOutside : Columns → ℕ → Type 0
IsOutside columns j = (j < columns.from) ⊎ (columns.to ≤ j)

-- of the first k columns the test holds in these alone
abbrev pub LeavesOut : (ℕ → Bool) → ℕ → Columns → Type 0
LeavesOut test k columns = (j : ℕ) → j < k → IsOutside columns j → test j ≡ false

-- outside of these columns a change leaves all as it is
abbrev pub AreColumnsOf : Change → Cells → Columns → Type 0
AreColumnsOf (Add x y c) m columns = LeavesOut (lowers x y c m) m.n columns
AreColumnsOf (Kill x) m columns = (j : ℕ) → j < m.n → IsOutside columns j → ⊥
AreColumnsOf (Shift x c) m columns = (j : ℕ) → j < m.n → IsOutside columns j → ⊥

-- outside of these columns the new steps from i are those of before
abbrev pub Spares : (ℕ → Option Step) → Cells → ℕ → Columns → Type 0
Spares new m i columns = (j : ℕ) → j < m.n → IsOutside columns j → new j ≡ cell m i j

-- where a gain is that of another node, the columns are those of that one
abbrev pub columns_of : Turn → ℕ → Columns → Columns
columns_of (Reach y d f) i columns = columns
columns_of (Forget x) i columns = columns
columns_of (Gain x c) i columns = cond (not (x == i) && nat_lt x columns.to) (record { from = x; to = x + 1 }) columns

-- the steps of the first k nodes are the new ones
pub record IsChanged (new : ℕ → ℕ → Option Step) (start now : Cells) (k : ℕ) : Type 0 where
  pub size : now.n ≡ start.n
  pub done : (i j : ℕ) → i < start.n → j < start.n → i < k → cell now i j ≡ new i j
  pub left : (i : ℕ) → k ≤ i → line now i ≡ line start i

-- all steps are the new ones
pub record AreChanged (new : ℕ → ℕ → Option Step) (start now : Cells) : Type 0 where
  pub size : now.n ≡ start.n
  pub done : (i j : ℕ) → i < start.n → j < start.n → cell now i j ≡ new i j

-- the nodes of a change are nodes of the matrix
abbrev pub IsPlaced : Change → ℕ → Type 0
IsPlaced (Add x y c) n = (x < n) × (y < n) × IsWithin (2 ^ 66) c
IsPlaced (Kill x) n = x < n
IsPlaced (Shift x c) n = (x < n) × IsWithin (2 ^ 64) c

abbrev pub IsTurnPlaced : Turn → ℕ → Type 0
IsTurnPlaced (Reach y d f) n = (y < n) × IsWithin (2 ^ 101) d
IsTurnPlaced (Forget x) n = Unit {0}
IsTurnPlaced (Gain x c) n = IsWithin (2 ^ 64) c

-- what a new fact reads of other rows stays as it is
abbrev pub IsSteady : Change → Cells → Type 0
IsSteady (Add x y c) m = (j : ℕ) → j < m.n → changed (Add x y c) m y j ≡ cell m y j
IsSteady (Kill x) m = Unit {0}
IsSteady (Shift x c) m = Unit {0}

-- there is room for the steps from i that a change makes
abbrev pub HasRoom : Change → Cells → ℕ → Type 0
HasRoom (Add x y c) m i = i ≡ x → is_open (line m i) ≡ true
HasRoom (Kill x) m i = Unit {0}
HasRoom (Shift x c) m i = Unit {0}

-- no constant lies outside -2^100 to 2^100
abbrev pub AreNear : Cells → Type 0
AreNear m = (i j : ℕ) → i < m.n → j < m.n → is_near (constants_of m i j) ≡ true

abbrev pub IsRowNear : Cells → ℕ → Type 0
IsRowNear m i = (j : ℕ) → j < m.n → is_near (constants_of m i j) ≡ true

-- what a change adds up isn't outside -2^100 to 2^100
abbrev pub ReadsNear : Change → Cells → ℕ → Type 0
ReadsNear (Add x y c) m i = is_near (constants_of m i x) ≡ true
ReadsNear (Kill x) m i = Unit {0}
ReadsNear (Shift x c) m i = Unit {0}

abbrev pub TurnsNear : Turn → Cells → ℕ → ℕ → Type 0
TurnsNear (Reach y d f) m i j = is_near (constants_of m y j) ≡ true
TurnsNear (Forget x) m i j = Unit {0}
TurnsNear (Gain x c) m i j = is_near (constants_of m i j) ≡ true

abbrev pub RowsNear : Change → Cells → ℕ → Type 0
RowsNear (Add x y c) m i = IsRowNear m i × IsRowNear m y
RowsNear (Kill x) m i = IsRowNear m i
RowsNear (Shift x c) m i = IsRowNear m i

-- a row that a new fact doesn't turn stays as it is
abbrev pub Keeps : Change → Cells → ℕ → Type 0
Keeps (Add x y c) m i = turn_of (Add x y c) m i ≡ None → (j : ℕ) → j < m.n → changed (Add x y c) m i j ≡ cell m i j
Keeps (Kill x) m i = Unit {0}
Keeps (Shift x c) m i = Unit {0}
