-- A block of the trusted memory as it is seen behind a run.
use Rattle.std.specs.Prelude.{ℕ, List}

-- its address, and its bytes
pub record Shown : Type 0 where
  pub address : ℕ
  pub bytes : List ℕ
