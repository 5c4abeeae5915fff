use Rattle.std.proofs.Common.{◌≡◌, ◌+◌, length, map, drop}
use Rattle.pointer_modes.specs.Types.{ctype}
use Rattle.region_typing_rules.specs.Calls.{arguments_as}
use Rattle.region_typing_expressions.specs.Calls.{argument}
use Rattle.region_typing_expressions.proofs.Conversions.{values_behind}
use Rattle.region_typing_expressions.proofs.calls.arguments_as.Given as goal

-- the values so far with those of the arguments that are left make all of them
abbrev pub invariant-loop-argument : goal.invariant-loop-argument
invariant-loop-argument l = record {
  long : length l.built.items + length l.arguments.items ≡ length l.types;
  same : arguments_as (map argument l.initial.arguments.items) (map ctype l.types) ≡ values_behind l.built.items (arguments_as (map argument l.arguments.items) (map ctype (drop (length l.built.items) l.types)));
}

abbrev pub decreases-loop-argument : goal.decreases-loop-argument
decreases-loop-argument l = length l.arguments.items
