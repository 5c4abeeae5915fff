use Rattle.std.proofs.Common.{◌≡◌, map, drop}
use Rattle.ckc_tree.specs.Statements.{declarator}
use Rattle.ckc_tree.specs.Walks.{each_walked, declarator_walked}
use Rattle.ckc_tree.proofs.placement.walk_declarators.Given as goal

-- through the declarators that are left the cursor comes to where it comes through all
abbrev pub invariant-loop-declarator : goal.invariant-loop-declarator
invariant-loop-declarator l = each_walked declarator_walked (map declarator (drop l.declarator-index l.declarators)) l.cursor ≡ each_walked declarator_walked (map declarator l.declarators) l.initial.cursor
