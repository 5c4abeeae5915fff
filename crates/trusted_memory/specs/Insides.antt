-- What is always true of a memory's fields.
use Rattle.std.specs.Prelude.{◌+◌, ◌^◌, ◌<◌, ◌≤◌, vec_len}
use Rattle.trusted_memory.specs.Memories.{Memory}
use Rattle.trusted_memory.specs.declared.memory.Trusted.TheInside.{Inside}

-- what callers see
abbrev pub memory : Inside → Memory
memory m = record { bytes = m.bytes.items; base = m.base; counter = m.counter }

-- each address fits in 32 bits, and none is null
pub record IsConsistent (m : Inside) : Type 0 where
  pub not_null : 0 < m.base
  pub addresses : m.base + vec_len m.bytes < 2 ^ 32
  pub counted : m.counter ≤ vec_len m.bytes
