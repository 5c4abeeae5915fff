-- Where blocks stand in a memory. One rule for every memory: a counter starts at 16, a block stands at the offset that
-- the counter has, and the counter then grows by the block's bytes, rounded up to 16, and by 16 more.
use Rattle.std.specs.Prelude.{ℕ, ◌+◌, ◌*◌, ◌/◌, Bool, true, false, ◌||◌, nat_eq, nat_lt, List, [], ◌∷◌}

-- the counter of a memory without blocks
abbrev pub first_offset : ℕ
first_offset = 16

-- the least multiple of 16 that is no less
abbrev pub rounded_up : ℕ → ℕ
rounded_up bytes = (bytes + 15) / 16 * 16

-- the counter behind a block of some bytes that stands at the counter
abbrev pub grown : ℕ → ℕ → ℕ
grown counter bytes = counter + rounded_up bytes + 16

-- a memory of a size refuses a block: the block is empty, or the grown counter would pass the size
abbrev pub is_refused : ℕ → ℕ → ℕ → Bool
is_refused size counter bytes = nat_eq bytes 0 || nat_lt size (grown counter bytes)

-- the counter after a block was asked for, which a refusal leaves as it was
abbrev pub counter_after : ℕ → ℕ → ℕ → ℕ
counter_after size counter bytes = kept (is_refused size counter bytes)
  where
    kept : Bool → ℕ
    kept true = counter
    kept false = grown counter bytes

-- a block: its offset in the memory, and how many bytes it has
pub record Block : Type 0 where
  pub offset : ℕ
  pub bytes : ℕ

-- the blocks that a memory of a size gives, where blocks of these bytes are asked for one after another
abbrev pub blocks_from : ℕ → ℕ → List ℕ → List Block
blocks_from size counter [] = []
blocks_from size counter (bytes ∷ rest) = given (is_refused size counter bytes) (blocks_from size (counter_after size counter bytes) rest)
  where
    given : Bool → List Block → List Block
    given true later = later
    given false later = (record { offset = counter; bytes = bytes }) ∷ later

-- the same, where the memory has no block before
abbrev pub blocks_of : ℕ → List ℕ → List Block
blocks_of size asked = blocks_from size first_offset asked
