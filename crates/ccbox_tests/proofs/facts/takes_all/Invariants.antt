use Rattle.std.proofs.Common.{◌≡◌}
use Rattle.ccbox_tests.proofs.facts.takes_all.Given as goal

abbrev pub invariant-loop-step : goal.invariant-loop-step
invariant-loop-step l = l.facts.vars ≡ l.vars
