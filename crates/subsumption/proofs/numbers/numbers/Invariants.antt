use Rattle.std.proofs.Common.{ℕ, ◌+◌, ◌<◌, ◌≡◌, ◌-ℤ◌, pos, length, get_or}
use Rattle.subsumption.specs.MatrixWays.{number_of}
use Rattle.subsumption.proofs.numbers.numbers.Given as goal

abbrev pub invariant-loop-i : goal.invariant-loop-i
invariant-loop-i l = (length l.values.items ≡ l.i) × ((j : ℕ) → j < l.i → get_or l.values.items j (pos 0) ≡ number_of l.matrix l.y (j + 1) -ℤ number_of l.matrix l.y 0)
