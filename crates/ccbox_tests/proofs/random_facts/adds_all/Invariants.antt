use Rattle.std.proofs.Common.{◌≡◌}
use Rattle.ccbox_tests.proofs.random_facts.adds_all.Given as goal

abbrev pub invariant-loop : goal.invariant-loop
invariant-loop l = l.facts.vars ≡ l.vars
