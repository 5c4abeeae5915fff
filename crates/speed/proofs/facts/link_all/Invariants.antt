use Rattle.std.proofs.Common.{◌≡◌}
use Rattle.speed.proofs.facts.link_all.Given as goal

abbrev pub invariant-loop-var : goal.invariant-loop-var
invariant-loop-var l = l.facts.vars ≡ l.vars
