use Rattle.std.proofs.Common.{◌≡◌, ◌++◌, map, drop}
use Rattle.pointer_modes.specs.Types.{ctype}
use Rattle.ckc_core.specs.Core.{initial}
use Rattle.region_typing_rules.specs.Cells.{cells_with, numbered_cells, strides_of}
use Rattle.region_typing_scope.proofs.initial_cells.push_member_cells.Given as goal

-- the cells so far with those that are left make all of them
abbrev pub invariant-loop-i : goal.invariant-loop-i
invariant-loop-i l = record {
  so_far : (map initial l.initial.cells.items ++ cells_with l.structs (ctype l.t) l.number) ≡ (map initial l.cells.items ++ numbered_cells l.number (map (λ m. ctype m.ctype) (drop l.i l.members)) (drop l.i (strides_of l.structs (ctype l.t))));
}
