use Rattle.std.proofs.Common.{◌≡◌, ◌++◌, map, drop}
use Rattle.ckc_core.specs.Core.{object}
use Rattle.lowering.specs.Images.{object_bytes}
use Rattle.lowering.proofs.images.static_blocks.Given as goal

-- the blocks so far and those of the variables that are left are those of all
abbrev pub invariant-loop-variable : goal.invariant-loop-variable
invariant-loop-variable l = l.blocks.items ++ map object_bytes (map object (drop l.variable-index l.variables)) ≡ map object_bytes (map object l.variables)
