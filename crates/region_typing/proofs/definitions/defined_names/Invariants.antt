use Rattle.std.proofs.Common.{map, take}
use Rattle.ckc_tree.specs.Items.{item}
use Rattle.region_typing.specs.Definitions.{Knows}
use Rattle.region_typing.proofs.definitions.defined_names.Given as goal

-- the table knows the bodies among the items so far
abbrev pub invariant-loop-item : goal.invariant-loop-item
invariant-loop-item l = Knows l.defined (map item (take l.item-index l.items))
