use Rattle.std.proofs.Common.{◌≡◌, map, drop}
use Rattle.ckc_tree.specs.Statements.{assignment}
use Rattle.ckc_tree.specs.Walks.{each_walked, assignment_walked}
use Rattle.ckc_tree.proofs.placement.walk_assignments.Given as goal

-- through the assignments that are left the cursor comes to where it comes through all
abbrev pub invariant-loop-assignment : goal.invariant-loop-assignment
invariant-loop-assignment l = each_walked assignment_walked (map assignment (drop l.assignment-index l.assignments)) l.cursor ≡ each_walked assignment_walked (map assignment l.assignments) l.initial.cursor
