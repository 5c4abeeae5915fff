use Rattle.std.proofs.Common.{◌≡◌, ◌++◌, map, drop}
use Rattle.ckc_core.specs.Core.{object}
use Rattle.partitioner.specs.Parts.{named}
use Rattle.check_insertion.proofs.copies.objects.Given as goal

-- the variables so far, and those that are left
abbrev pub invariant-loop-number : goal.invariant-loop-number
invariant-loop-number l = map object (named l.objects l.numbers) ≡ map object l.copies.items ++ map object (named l.objects (drop l.number-index l.numbers))
