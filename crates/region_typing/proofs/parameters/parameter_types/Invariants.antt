use Rattle.std.proofs.Common.{◌≡◌, ◌≤◌, [], true, length, map, drop}
use Rattle.ckc_tree.specs.Items as trees
use Rattle.region_typing_rules.specs.Items.{among_parameters, parameter_types}
use Rattle.region_typing_scope.specs.Views.{scope}
use Rattle.region_typing_scope.specs.DeclaredViews.{place as place_view}
use Rattle.region_typing.specs.Parameters.{parameter, AreOver, any_bounds}
use Rattle.region_typing.proofs.parameters.parameter_types.Given as goal

-- the parameters so far with those that are left make all of them
abbrev pub invariant-loop-parameter : goal.invariant-loop-parameter
invariant-loop-parameter l = record {
  so_far : (any_bounds (map trees.parameter l.all) ≡ true → place_view l.place ≡ among_parameters (scope l.place.scope.now) (map trees.parameter l.all))
      → parameter_types (scope l.place.scope.now) (map trees.parameter l.all) (map trees.parameter l.all) [] ≡ parameter_types (scope l.place.scope.now) (map trees.parameter l.all) (map trees.parameter (drop l.parameter-index l.all)) (map parameter l.parameters.items);
  few : length l.parameters.items ≤ 16;
  counted : length l.parameters.items ≡ l.parameter-index;
  below : AreOver (length l.all) l.parameters.items;
}
