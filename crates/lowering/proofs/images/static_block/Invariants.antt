use Rattle.std.proofs.Common.{◌≡◌, ◌++◌, map, drop}
use Rattle.std.specs.Prelude.{flat_map}
use Rattle.ckc_core.specs.Core.{initial}
use Rattle.lowering.specs.Images.{cell_bytes}
use Rattle.lowering.proofs.images.static_block.Given as goal

-- the bytes so far and those of the cells that are left are those of all
abbrev pub invariant-loop-cell : goal.invariant-loop-cell
invariant-loop-cell l = l.bytes.items ++ flat_map cell_bytes (map initial (drop l.cell-index l.variable.cells.items)) ≡ flat_map cell_bytes (map initial l.variable.cells.items)
