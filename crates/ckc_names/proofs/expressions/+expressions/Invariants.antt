use Rattle.std.proofs.Common.{take}
use Rattle.ckc_names.specs.Slices.{arguments_mentions}
use Rattle.ckc_names.specs.Progress.{Passes}
use Rattle.ckc_names.proofs.expressions.+expressions.Given as goal

-- the arguments so far were gone over
abbrev pub invariant-expressions-loop-argument : goal.invariant-expressions-loop-argument
invariant-expressions-loop-argument l = record {
  so_far : Passes (arguments_mentions (take l.argument-index l.arguments)) l.initial.resolver l.resolver;
}
