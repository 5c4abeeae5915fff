use Rattle.std.proofs.Common.{◌≡◌, ◌++◌, map, drop}
use Rattle.pointer_modes.specs.Types.{ctype}
use Rattle.ckc_core.specs.Core.{initial}
use Rattle.region_typing.specs.Initials.{elements_of}
use Rattle.region_typing.proofs.initials.push_elements.Given as goal

-- the cells so far with those that are left make all of them
abbrev pub invariant-loop-i : goal.invariant-loop-i
invariant-loop-i l = record {
  so_far : (map initial l.initial.cells.items ++ elements_of l.structs (ctype l.t) l.numbers) ≡ (map initial l.cells.items ++ elements_of l.structs (ctype l.t) (drop l.i l.numbers));
}
