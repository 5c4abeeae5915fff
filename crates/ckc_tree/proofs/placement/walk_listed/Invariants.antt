use Rattle.std.proofs.Common.{◌≡◌, map, drop}
use Rattle.ckc_tree.specs.Items.{parameter}
use Rattle.ckc_tree.specs.Walks.{each_walked, member_walked}
use Rattle.ckc_tree.proofs.placement.walk_listed.Given as goal

-- through the parameters that are left the cursor comes to where it comes through all
abbrev pub invariant-loop-parameter : goal.invariant-loop-parameter
invariant-loop-parameter l = each_walked member_walked (map parameter (drop l.parameter-index l.parameters)) l.cursor ≡ each_walked member_walked (map parameter l.parameters) l.initial.cursor
