use Rattle.std.proofs.Common.{◌≡◌, ◌++◌, map, drop}
use Rattle.check_insertion.specs.Erased as erased
use Rattle.check_insertion.specs.Insert as insert
use Rattle.check_insertion.specs.Sides.{trusted_at}
use Rattle.check_insertion.proofs.insert.functions.Given as goal

-- the functions so far, and those that are left
abbrev pub invariant-loop-number : goal.invariant-loop-number
invariant-loop-number l = map insert.function (trusted_at l.definitions l.numbers) ≡ map erased.function l.built.items ++ map insert.function (trusted_at l.definitions (drop l.number-index l.numbers))
