-- Offsets of bytes in a source.
use Rattle.std.specs.Prelude.{ℕ, ◌≤◌, List, length}
use Rattle.std.specs.List.Sorted.{IsNonDecreasing}

-- the list ascends, and has at most an offset for each byte of the longest source and one more
pub record AreOffsets (offsets : List ℕ) : Type 0 where
  pub ascending : IsNonDecreasing offsets
  pub few : length offsets ≤ 1048577
