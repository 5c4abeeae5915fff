use Rattle.std.proofs.Common.{◌≡◌, ◌+◌, drop, map}
use Rattle.ckc_core.specs.Core.{initial}
use Rattle.ckc_core.specs.Pointers.{element_size}
use Rattle.lowering.proofs.cells.element_bytes.Given as goal

-- the bytes so far and those of the cells that are left are those of all
abbrev pub invariant-loop-cell : goal.invariant-loop-cell
invariant-loop-cell l = l.bytes + element_size (map initial (drop l.cell-index l.element)) ≡ element_size (map initial l.element)
