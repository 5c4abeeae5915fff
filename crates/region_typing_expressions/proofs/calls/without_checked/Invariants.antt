use Rattle.std.proofs.Common.{◌≡◌, map, drop}
use Rattle.region_typing_expressions.specs.Calls.{argument}
use Rattle.region_typing_expressions.proofs.Crossing.{all_cross}
use Rattle.region_typing_expressions.proofs.calls.without_checked.Given as goal

-- what is found of all is found of those that are left
abbrev pub invariant-loop-argument : goal.invariant-loop-argument
invariant-loop-argument l = record {
  so_far : all_cross (map argument l.arguments) tt ≡ all_cross (map argument (drop l.argument-index l.arguments)) tt;
}
