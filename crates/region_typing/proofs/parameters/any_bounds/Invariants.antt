use Rattle.std.proofs.Common.{◌≡◌, map, drop}
use Rattle.ckc_tree.specs.Items as trees
use Rattle.region_typing.specs.Parameters.{any_bounds}
use Rattle.region_typing.proofs.parameters.any_bounds.Given as goal

-- bounds are written for one of those that are left, if for one at all
abbrev pub invariant-loop-p : goal.invariant-loop-p
invariant-loop-p l = any_bounds (map trees.parameter l.written) ≡ any_bounds (map trees.parameter (drop l.p-index l.written))
