-- How large so many elements of a size are.
use Rattle.std.proofs.Common.{ℕ, suc, ◌+◌, ◌*◌, ◌^◌, ◌<◌, ◌≤◌, ℤ, pos, negsuc, ◌*ℤ◌, ◌≤ℤ◌, arith}
use Rattle.std.proofs.Math.Nat.{mul-le-mul}
use Rattle.std.specs.Int.RustNames.{unsigned_abs}
use Rattle.std.proofs.lemmas.Int.{ints}

pub scaled_bounds : (a : ℤ) (n : ℕ) → negsuc (2 ^ 64) ≤ℤ a → a ≤ℤ pos (2 ^ 64) → n < 2 ^ 32 → (negsuc (2 ^ 97) ≤ℤ (a *ℤ pos n)) × ((a *ℤ pos n) ≤ℤ pos (2 ^ 97))
scaled_bounds (pos m) n low high small =
    let small_size : n ≤ 2 ^ 32 = omega arith in
    let le : m ≤ 2 ^ 64 = omega (arith, ints) in
    let product : m * n ≤ 2 ^ 64 * 2 ^ 32 = mul-le-mul le small_size in
    (omega (arith, ints), omega (arith, ints))
scaled_bounds (negsuc m) n low high small =
    let small_size : n ≤ 2 ^ 32 = omega arith in
    let le : suc m ≤ 2 ^ 64 + 1 = omega (arith, ints) in
    let product : suc m * n ≤ (2 ^ 64 + 1) * 2 ^ 32 = mul-le-mul le small_size in
    (omega (arith, ints), omega (arith, ints))

pub size_of_count : (a : ℤ) → negsuc (2 ^ 64) ≤ℤ a → a ≤ℤ pos (2 ^ 64) → unsigned_abs a ≤ 2 ^ 64 + 1
size_of_count (pos m) low high = omega (arith, ints)
size_of_count (negsuc m) low high = omega (arith, ints)
