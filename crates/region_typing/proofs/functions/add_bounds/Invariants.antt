use Rattle.std.proofs.Common.{◌≡◌, length, map, drop}
use Rattle.region_typing_rules.specs.Knowing.{knowing}
use Rattle.region_typing_rules.specs.Items.{with_bounds}
use Rattle.region_typing_scope.specs.Views.{scope}
use Rattle.region_typing.specs.Parameters.{parameter}
use Rattle.region_typing.proofs.functions.add_bounds.Given as goal

-- the bounds of the parameters that are left make of what is known so far what those of all make
abbrev pub invariant-loop-p : goal.invariant-loop-p
invariant-loop-p l = record {
  so_far : with_bounds 0 (map parameter l.parameters) (scope l.initial.scope).flow ≡ with_bounds l.p-index (map parameter (drop l.p-index l.parameters)) (scope l.scope).flow;
  same : scope l.scope ≡ knowing (scope l.scope).flow (scope l.initial.scope);
  there : length l.scope.locals.items ≡ length l.parameters;
  size : l.scope.flow.vars ≡ l.initial.scope.flow.vars;
  counted : l.local ≡ l.p-index;
}
