use Rattle.std.proofs.Common.{◌≡◌, ◌++◌, map, drop}
use Rattle.ckc_core.specs.Core.{initial}
use Rattle.region_typing_rules.specs.Strings.{text_cells}
use Rattle.region_typing.proofs.texts.text_cells.Given as goal

-- the cells so far with those that are left make all of them
abbrev pub invariant-loop-byte : goal.invariant-loop-byte
invariant-loop-byte l = record {
  so_far : text_cells l.bytes ≡ map initial l.cells.items ++ text_cells (drop l.byte-index l.bytes);
}
