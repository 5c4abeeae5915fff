use Rattle.std.proofs.Common.{◌≡◌, ◌++◌, map, drop}
use Rattle.ckc_core.specs.Core.{definition}
use Rattle.partitioner.specs.Parts.{numbers_from}
use Rattle.partitioner.proofs.split.numbers.Given as goal

-- the numbers so far, and those of the functions that are left
abbrev pub invariant-loop-number : goal.invariant-loop-number
invariant-loop-number l = numbers_from 0 l.trusted (map definition l.definitions) ≡ l.numbers.items ++ numbers_from l.number l.trusted (map definition (drop l.number l.definitions))
