-- A memory at a base address, as its callers see it, and what a block that is asked for changes.
use Rattle.std.specs.Prelude.{◌≡◌, ℕ, ◌+◌, ◌-◌, ◌%◌, ◌<◌, ◌≤◌, ◌⊎◌, Bool, true, false, nat_le, List, [], ◌∷◌, length, replicate, Option, None, slice_get}
use Rattle.flat_bytes.specs.Blocks.{first_offset, grown, is_refused, counter_after}

-- the bytes, the address of the first of them, and the counter: the offset at which the next block will stand
pub record Memory : Type 0 where
  pub bytes : List ℕ
  pub base : ℕ
  pub counter : ℕ

-- the sizes and the bases that a memory may have
pub record AreAllowed (size base : ℕ) : Type 0 where
  pub least_size : 65536 ≤ size
  pub most_size : size ≤ 4194304
  pub least_base : 16 ≤ base
  pub most_base : base ≤ 4026531840
  pub base_aligned : base % 16 ≡ 0

-- a memory of zeros, without blocks
abbrev pub started : ℕ → ℕ → Memory
started size base = record { bytes = replicate size 0; base = base; counter = first_offset }

-- the memory after a block of some bytes was asked for
abbrev pub made : Memory → ℕ → Memory
made m bytes = record m { counter = counter_after (length m.bytes) m.counter bytes }

-- the address that is answered: that of the block, or 0 where it is refused
abbrev pub address_made : Memory → ℕ → ℕ
address_made m bytes = address (is_refused (length m.bytes) m.counter bytes)
  where
    address : Bool → ℕ
    address true = 0
    address false = m.base + m.counter

-- the addresses that are answered where blocks of these bytes are asked for one after another
abbrev pub addresses_made : Memory → List ℕ → List ℕ
addresses_made m [] = []
addresses_made m (bytes ∷ rest) = address_made m bytes ∷ addresses_made (made m bytes) rest

-- a block of some bytes is refused
abbrev pub Refuses : Memory → ℕ → Type 0
Refuses m bytes = (bytes ≡ 0) ⊎ (length m.bytes < grown m.counter bytes)

-- the bytes from an address on are bytes of the memory
abbrev pub Holds : Memory → ℕ → ℕ → Type 0
Holds m address len = (m.base ≤ address) × (address + len ≤ m.base + length m.bytes)

-- the byte at an address, if it is one of the memory
abbrev pub byte_of : Memory → ℕ → Option ℕ
byte_of m address = from_base (nat_le m.base address)
  where
    from_base : Bool → Option ℕ
    from_base true = slice_get m.bytes (address - m.base)
    from_base false = None
