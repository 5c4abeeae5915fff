use Rattle.std.proofs.Common.{◌≡◌}
use Rattle.ccbox_tests.proofs.facts.takes_chain.Given as goal

abbrev pub invariant-loop-var : goal.invariant-loop-var
invariant-loop-var l = l.facts.vars ≡ 257
