use Rattle.std.proofs.Common.{◌≡◌, map, take}
use Rattle.ckc_tree.specs.Expressions.{expression}
use Rattle.ckc_tree.specs.Numbers.{number_expression}
use Rattle.ckc_names_rules.specs.Given.{number_in}
use Rattle.ckc_names.proofs.numbered_expressions.+numbered.Given as goal

-- those so far have their numbers, and those that are left are as they were
abbrev pub invariant-expressions-loop-argument : goal.invariant-expressions-loop-argument
invariant-expressions-loop-argument l = record {
  left : goal.unvisited-expressions-loop-argument l;
  so_far : map expression (take l.argument-index l.argument-items) ≡ map (number_expression (number_in l.names)) (map expression (take l.argument-index l.initial.argument-items));
}
