use Rattle.std.proofs.Common.{◌≡◌, drop}
use Rattle.ckc_tree.specs.Walks.{arguments_walked, expression_list}
use Rattle.ckc_tree.proofs.placement.+expressions.Given as goal

-- through the arguments that are left the cursor comes to where it comes through all
abbrev pub invariant-walk_arguments-loop-argument : goal.invariant-walk_arguments-loop-argument
invariant-walk_arguments-loop-argument l = arguments_walked (expression_list (drop l.argument-index l.arguments)) l.cursor ≡ arguments_walked (expression_list l.arguments) l.initial.cursor
