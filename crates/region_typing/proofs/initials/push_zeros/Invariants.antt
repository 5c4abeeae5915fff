use Rattle.std.proofs.Common.{◌≡◌, ◌++◌, map}
use Rattle.pointer_modes.specs.Types.{ctype}
use Rattle.ckc_core.specs.Core.{initial}
use Rattle.region_typing_rules.specs.Items.{zeros_of}
use Rattle.region_typing.proofs.initials.push_zeros.Given as goal

-- the cells so far with those that are left make all of them
abbrev pub invariant-loop-left : goal.invariant-loop-left
invariant-loop-left l = record {
  so_far : (map initial l.initial.cells.items ++ zeros_of l.count l.structs (ctype l.t)) ≡ (map initial l.cells.items ++ zeros_of l.left l.structs (ctype l.t));
}

abbrev pub decreases-loop-left : goal.decreases-loop-left
decreases-loop-left l = l.left
