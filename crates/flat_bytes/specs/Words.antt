-- Words of any number of bytes in a list of bytes, with the lowest byte first.
use Rattle.std.specs.Prelude.{ℕ, zero, suc, ◌+◌, ◌*◌, ◌/◌, ◌%◌, List, slice_index, slice_set}

-- the number that w bytes from a place stand for: each weighs 256 times as much as the one before it
abbrev pub word_at : ℕ → List ℕ → ℕ → ℕ
word_at zero bytes at = 0
word_at (suc w) bytes at = slice_index bytes at + 256 * word_at w bytes (at + 1)

-- the bytes, where the w from a place are those of a number, and all others stay
abbrev pub with_word : ℕ → List ℕ → ℕ → ℕ → List ℕ
with_word zero bytes at number = bytes
with_word (suc w) bytes at number = with_word w (slice_set bytes at (number % 256)) (at + 1) (number / 256)
