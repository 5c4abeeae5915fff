use Rattle.std.proofs.Common.{◌≡◌, ◌++◌, drop}
use Rattle.region_typing_rules.specs.Verdicts.{Passes, passing}
use Rattle.region_typing.specs.Initials.{numbers_listed}
use Rattle.region_typing.proofs.initials.listed_numbers.Given as goal

-- the numbers so far with those that are left make all of them
abbrev pub invariant-loop-i : goal.invariant-loop-i
invariant-loop-i l = record {
  so_far : numbers_listed l.constants ≡ passing (numbers_listed (drop l.i l.constants)) (λ zs. Passes (l.numbers.items ++ zs));
}
