-- What a matrix of steps is seen as (*inside*).
use Rattle.std.specs.Prelude.{ℕ, ◌==◌, ◌<◌, ◌≤◌, ◌≡◌, ℤ, Bool, true, not, Option, List, [], length, slice_index_or}

-- a node's constants with each, and the nodes that the paths to them lead to first; none where no node is known but its own
pub record Line : Type 0 where
  pub constants : List ℤ
  pub firsts : List (Option ℕ)

abbrev pub no_line : Line
no_line = record { constants = []; firsts = [] }

-- there is room for steps
abbrev pub is_open : Line → Bool
is_open l = not (length l.firsts == 0)

-- the number of nodes, and a line for each
pub record Cells : Type 0 where
  pub n : ℕ
  pub rows : List Line

abbrev pub line : Cells → ℕ → Line
line m i = slice_index_or m.rows i no_line

-- a line of so many nodes
pub record IsLine (n : ℕ) (l : Line) : Type 0 where
  pub constants : length l.constants ≡ length l.firsts
  pub full : is_open l ≡ true → length l.firsts ≡ n

pub record IsSquare (m : Cells) : Type 0 where
  pub few : m.n ≤ 4097
  pub size : length m.rows ≡ m.n
  pub lines : (i : ℕ) → i < m.n → IsLine m.n (line m i)
