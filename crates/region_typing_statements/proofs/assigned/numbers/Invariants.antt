use Rattle.std.proofs.Common.{◌≡◌, ◌++◌, drop}
use Rattle.region_typing_rules.specs.Knowing.{numbers_marked}
use Rattle.region_typing_statements.proofs.assigned.numbers.Given as goal

-- the numbers so far with those of the marks that are left are all
abbrev pub invariant-loop-marked : goal.invariant-loop-marked
invariant-loop-marked l = record {
  counted : l.local ≡ l.marked-index;
  so_far : numbers_marked 0 l.marks ≡ l.numbers.items ++ numbers_marked l.local (drop l.marked-index l.marks);
}
