use Rattle.std.proofs.Common.{ℕ, ◌+◌, ◌<◌, ◌≡◌, ◌-ℤ◌, pos, length, get_or}
use Rattle.subsumption.proofs.search.numbers.Given as goal

abbrev pub invariant-loop-i : goal.invariant-loop-i
invariant-loop-i l = (length l.numbers.items ≡ l.i) × ((j : ℕ) → j < l.i → get_or l.numbers.items j (pos 0) ≡ get_or l.distances (j + 1) (pos 0) -ℤ get_or l.distances 0 (pos 0))
