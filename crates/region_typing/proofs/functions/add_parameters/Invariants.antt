use Rattle.std.proofs.Common.{◌≡◌, length, map, drop}
use Rattle.region_typing_rules.specs.Items.{with_parameters}
use Rattle.region_typing_scope.specs.Views.{scope}
use Rattle.region_typing.specs.Parameters.{parameter}
use Rattle.region_typing.proofs.functions.add_parameters.Given as goal

-- the parameters that are left make of the locals so far what all of them make
abbrev pub invariant-loop-p : goal.invariant-loop-p
invariant-loop-p l = record {
  so_far : with_parameters (map parameter l.parameters) (scope l.initial.scope) ≡ with_parameters (map parameter (drop l.p-index l.parameters)) (scope l.scope);
  few : length l.scope.locals.items ≡ l.p-index;
  size : l.scope.flow.vars ≡ l.initial.scope.flow.vars;
}
