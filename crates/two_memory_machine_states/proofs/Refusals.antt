-- Blocks that a memory refuses.
use Rattle.std.proofs.Common.{◌≡◌, ℕ, ◌<◌, ◌≤◌, true, arith}
use Rattle.std.proofs.lemmas.Bool.Decides.{nat_tests}
use Rattle.flat_bytes.specs.Blocks.{is_refused, grown}

-- one that is larger than the memory
pub refused_large : (size counter bytes : ℕ) → size < bytes → is_refused size counter bytes ≡ true
refused_large size counter bytes h =
    let low : bytes ≤ grown counter bytes = omega arith in
    grind (arith, nat_tests)
