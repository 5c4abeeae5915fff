use Rattle.std.proofs.Common.{◌≡◌, ◌++◌, map, drop}
use Rattle.ckc_tree.specs.Items as trees
use Rattle.region_typing_rules.specs.Items.{seen_parameters}
use Rattle.region_typing_scope.specs.Views.{visible}
use Rattle.region_typing.proofs.parameters.seen_parameters.Given as goal

-- the names so far, and those of the parameters that are left
abbrev pub invariant-loop-p : goal.invariant-loop-p
invariant-loop-p l = record {
  so_far : seen_parameters 0 (map trees.parameter l.written) ≡ map visible l.visible.items ++ seen_parameters l.local (map trees.parameter (drop l.p-index l.written));
}
