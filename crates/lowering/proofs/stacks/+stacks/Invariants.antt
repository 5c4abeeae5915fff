use Rattle.std.proofs.Common.{◌≡◌, ◌+◌, ◌≤◌, max, drop}
use Rattle.check_insertion.specs.Erased.{arguments_of}
use Rattle.check_insertion.specs.Stacks as stacks
use Rattle.lowering.proofs.stacks.+stacks.Given as goal

-- the most so far and of the arguments that are left, which stand above the others, is the most of all arguments
abbrev pub invariant-arguments_stack-loop-before : goal.invariant-arguments_stack-loop-before
invariant-arguments_stack-loop-before l = record {
  whole : max l.most (l.before + stacks.arguments_stack (arguments_of (drop l.before l.arguments))) ≡ stacks.arguments_stack (arguments_of l.arguments);
  each : l.before ≤ l.most;
}
