use Rattle.std.proofs.Common.{◌≡◌, ◌++◌, map, drop}
use Rattle.ckc_core.specs.Core.{import_of}
use Rattle.check_insertion.specs.Sides.{tainted_at}
use Rattle.check_insertion.proofs.copies.imports.Given as goal

-- the functions so far, and those that are left
abbrev pub invariant-loop-number : goal.invariant-loop-number
invariant-loop-number l = tainted_at l.definitions l.numbers ≡ map import_of l.copies.items ++ tainted_at l.definitions (drop l.number-index l.numbers)
