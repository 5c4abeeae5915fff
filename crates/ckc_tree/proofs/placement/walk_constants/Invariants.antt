use Rattle.std.proofs.Common.{◌≡◌, drop}
use Rattle.ckc_tree.specs.Walks.{each_walked, constant_walked}
use Rattle.ckc_tree.proofs.placement.walk_constants.Given as goal

-- through the constants that are left the cursor comes to where it comes through all
abbrev pub invariant-loop-constant : goal.invariant-loop-constant
invariant-loop-constant l = each_walked constant_walked (drop l.constant-index l.constants) l.cursor ≡ each_walked constant_walked l.constants l.initial.cursor
