use Rattle.std.proofs.Common.{◌≡◌, ◌++◌, map, drop}
use Rattle.ckc_core.specs.Core.{object}
use Rattle.partitioner.specs.Parts.{counted_from}
use Rattle.partitioner.proofs.split.all_numbers.Given as goal

-- the numbers so far, and those of the variables that are left
abbrev pub invariant-loop-number : goal.invariant-loop-number
invariant-loop-number l = counted_from 0 (map object l.objects) ≡ l.numbers.items ++ counted_from l.number (map object (drop l.number l.objects))
