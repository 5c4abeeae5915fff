-- Counts of failures: a body can't raise one by itself, so a fault that it answers has a cause.
use Rattle.std.specs.Prelude.{◌≡◌, ℕ, ◌-◌, ◌^◌, ◌<◌, ◌≤◌, ◌⊎◌, Result, Ok, Err}
use Rattle.ckc_io.specs.declared.shelf.ShelfFault.{ShelfFault}
use Rattle.ckc_io.specs.declared.shelf.ShelfFault.TheVariants.{Missing, Failed}
use Rattle.ckc_io.specs.declared.sink.SinkFault.{SinkFault}

-- the count is greater, or stands at its type's end
abbrev pub Rose : ℕ → ℕ → Type 0
Rose old new = (old < new) ⊎ (new ≡ 2 ^ 64 - 1)

-- a count that rose and hasn't fallen
pub record Rises (old new : ℕ) : Type 0 where
  pub no_less : old ≤ new
  pub rose : Rose old new

-- what an answer of a shelf says of its two counts: each fault raises its own count alone
abbrev pub ShelfCounts : {A : Type 0} → Result A ShelfFault → ℕ → ℕ → ℕ → ℕ → Type 0
ShelfCounts (Ok x) misses misses' faults faults' = (misses' ≡ misses) × (faults' ≡ faults)
ShelfCounts (Err Missing) misses misses' faults faults' = Rises misses misses' × (faults' ≡ faults)
ShelfCounts (Err Failed) misses misses' faults faults' = (misses' ≡ misses) × Rises faults faults'

-- what an answer of a sink says of its count
abbrev pub SinkCounts : {A : Type 0} → Result A SinkFault → ℕ → ℕ → Type 0
SinkCounts (Ok x) faults faults' = faults' ≡ faults
SinkCounts (Err e) faults faults' = Rises faults faults'
