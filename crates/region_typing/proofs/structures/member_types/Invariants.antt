use Rattle.std.proofs.Common.{◌≡◌, ◌≤◌, [], length, map, drop}
use Rattle.ckc_tree.specs.Items as trees
use Rattle.pointer_modes.specs.Types.{member}
use Rattle.region_typing_rules.specs.Items.{member_types}
use Rattle.region_typing_scope.specs.Views.{scope}
use Rattle.region_typing.proofs.structures.member_types.Given as goal

-- the members so far with those that are left make all of them
abbrev pub invariant-loop-member : goal.invariant-loop-member
invariant-loop-member l = record {
  so_far : member_types (scope l.scope) (map trees.member l.written) [] ≡ member_types (scope l.scope) (map trees.member (drop l.member-index l.written)) (map member l.members.items);
  few : length l.members.items ≤ 64;
}
