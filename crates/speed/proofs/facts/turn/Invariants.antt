use Rattle.std.proofs.Common.{◌≡◌}
use Rattle.speed.proofs.facts.turn.Given as goal

abbrev pub invariant-loop : goal.invariant-loop
invariant-loop l = l.facts.vars ≡ l.vars
