use Rattle.std.proofs.Common.{◌≡◌, ◌++◌, replicate}
use Rattle.lowering.proofs.cells.put_zeros.Given as goal

-- one zero for each turn
abbrev pub invariant-loop : goal.invariant-loop
invariant-loop l = l.bytes.items ≡ l.initial.bytes.items ++ replicate l.counter 0
