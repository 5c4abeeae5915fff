use Rattle.std.proofs.Common.{◌≡◌, map, take}
use Rattle.ckc_tree.specs.Items.{member}
use Rattle.region_typing_rules.specs.Items.{member_names}
use Rattle.region_typing.proofs.structures.member_names.Given as goal

-- the names of the members so far
abbrev pub invariant-loop-member : goal.invariant-loop-member
invariant-loop-member l = record {
  so_far : l.names.items ≡ member_names (map member (take l.member-index l.members));
}
