use Rattle.std.proofs.Common.{◌≡◌, map, drop}
use Rattle.ckc_tree.specs.Items.{item}
use Rattle.ckc_tree.specs.Walks.{each_walked, item_walked}
use Rattle.ckc_tree.proofs.placement.walk_items.Given as goal

-- through the items that are left the cursor comes to where it comes through all
abbrev pub invariant-loop-item : goal.invariant-loop-item
invariant-loop-item l = each_walked item_walked (map item (drop l.item-index l.items)) l.cursor ≡ each_walked item_walked (map item l.items) l.initial.cursor
