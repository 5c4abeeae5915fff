-- What is known of the devices over an operating system: the system itself, and what was counted.
use Rattle.std.specs.Prelude.{ℕ}

-- how often a file wasn't there, and how often a read failed
pub record FileShelfState (S : Type 0) : Type 0 where
  pub system : S
  pub misses : ℕ
  pub faults : ℕ

-- how often a write failed
pub record OutSinkState (S : Type 0) : Type 0 where
  pub system : S
  pub faults : ℕ
