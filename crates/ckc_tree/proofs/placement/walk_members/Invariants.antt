use Rattle.std.proofs.Common.{◌≡◌, map, drop}
use Rattle.ckc_tree.specs.Items.{member}
use Rattle.ckc_tree.specs.Walks.{each_walked, member_walked}
use Rattle.ckc_tree.proofs.placement.walk_members.Given as goal

-- through the members that are left the cursor comes to where it comes through all
abbrev pub invariant-loop-member : goal.invariant-loop-member
invariant-loop-member l = each_walked member_walked (map member (drop l.member-index l.members)) l.cursor ≡ each_walked member_walked (map member l.members) l.initial.cursor
