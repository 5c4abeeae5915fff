use Rattle.std.proofs.Common.{◌≡◌, drop}
use Rattle.ckc_tree.specs.Items.{statement_list}
use Rattle.ckc_tree.specs.Walks.{statements_walked}
use Rattle.ckc_tree.proofs.placement.+statements.Given as goal

-- through the statements that are left the cursor comes to where it comes through all
abbrev pub invariant-walk_statements-loop-stmt : goal.invariant-walk_statements-loop-stmt
invariant-walk_statements-loop-stmt l = statements_walked (statement_list (drop l.stmt-index l.statements)) l.cursor ≡ statements_walked (statement_list l.statements) l.initial.cursor
