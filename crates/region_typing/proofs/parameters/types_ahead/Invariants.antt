use Rattle.std.proofs.Common.{◌≡◌, ◌++◌, map, drop}
use Rattle.ckc_tree.specs.Items as trees
use Rattle.pointer_modes.specs.Types.{ctype}
use Rattle.region_typing_rules.specs.Items.{types_ahead}
use Rattle.region_typing_scope.specs.Views.{scope}
use Rattle.region_typing.proofs.parameters.types_ahead.Given as goal

-- the types so far, and those of the parameters that are left
abbrev pub invariant-loop-p : goal.invariant-loop-p
invariant-loop-p l = record {
  so_far : types_ahead (scope l.scope) (map trees.parameter l.written) ≡ map ctype l.types.items ++ types_ahead (scope l.scope) (map trees.parameter (drop l.p-index l.written));
}
