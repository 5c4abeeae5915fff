use Rattle.std.proofs.Common.{◌≡◌, fold, take}
use Rattle.subsumption.specs.ClosedTables.{without}
use Rattle.bounds_flow.proofs.tables.kill_all.Given as goal

abbrev pub invariant-loop-var : goal.invariant-loop-var
invariant-loop-var l = record {
  vars : l.facts.vars ≡ l.initial.facts.vars;
  table : l.facts.table ≡ fold (λ t x. without l.initial.facts.vars x t) l.initial.facts.table (take l.var-index l.vars);
}
