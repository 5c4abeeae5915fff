use Rattle.std.proofs.Common.{◌≡◌, map, drop}
use Rattle.ckc_text.specs.Places.{place_at}
use Rattle.ckc_tree.specs.Items as trees
use Rattle.region_typing_rules.specs.Items.{items}
use Rattle.region_typing_scope.specs.Views.{scope}
use Rattle.region_typing.specs.Items.{walk, Outside}
use Rattle.region_typing.proofs.items.each_item.Given as goal

-- the items so far with those that are left make all of them
abbrev pub invariant-loop-listed : goal.invariant-loop-listed
invariant-loop-listed l = record {
  so_far : items (place_at l.context) (map trees.item l.written) (walk l.initial.walk) (map trees.item l.written) ≡ items (place_at l.context) (map trees.item l.written) (walk l.walk) (map trees.item (drop l.listed-index l.written));
  outside : Outside (scope l.walk.scope);
}
