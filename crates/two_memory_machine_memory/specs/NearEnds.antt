-- Ends that 64 bits are enough for.
use Rattle.std.specs.Prelude.{◌<◌, ◌^◌, pos, negsuc, ◌≤ℤ◌}
use Rattle.std.proofs.Common.{ℤ}
use Rattle.marshalling.specs.declared.ends.Ends.{Ends}

-- few elements are added to an end
pub record IsNear (plus : ℤ) : Type 0 where
  pub low : negsuc (2 ^ 31) ≤ℤ plus
  pub high : plus ≤ℤ pos (2 ^ 31)

-- the elements have a small size, and few are added to either end
pub record AreNear (ends : Ends) : Type 0 where
  pub size : ends.size < 2 ^ 16
  pub low : IsNear ends.low_plus
  pub high : IsNear ends.high_plus
