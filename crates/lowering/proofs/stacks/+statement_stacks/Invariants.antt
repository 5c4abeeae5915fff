use Rattle.std.proofs.Common.{◌≡◌, max, drop}
use Rattle.check_insertion.specs.Erased.{statements_of}
use Rattle.check_insertion.specs.Stacks as stacks
use Rattle.lowering.proofs.stacks.+statement_stacks.Given as goal

-- the most so far and of what is left is the most of all
abbrev pub invariant-statements_stack-loop-stmt : goal.invariant-statements_stack-loop-stmt
invariant-statements_stack-loop-stmt l = max l.most (stacks.statements_stack (statements_of (drop l.stmt-index l.stmts))) ≡ stacks.statements_stack (statements_of l.stmts)
