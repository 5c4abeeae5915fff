use Rattle.std.proofs.Common.{◌≡◌, ◌+◌, drop}
use Rattle.check_insertion.specs.Erased.{arguments_of}
use Rattle.lowering.specs.Code as code
use Rattle.lowering.proofs.code_sizes.+sizes.Given as goal

-- the size so far and that of the arguments that are left are that of all
abbrev pub invariant-arguments_size-loop-argument : goal.invariant-arguments_size-loop-argument
invariant-arguments_size-loop-argument l = l.size + code.arguments_size (arguments_of (drop l.argument-index l.arguments)) ≡ code.arguments_size (arguments_of l.arguments)
