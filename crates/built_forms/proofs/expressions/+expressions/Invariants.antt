use Rattle.std.proofs.Common.{◌≡◌, true, take}
use Rattle.std.specs.List.{list_all}
use Rattle.ckc_tree.specs.Expressions.{expression}
use Rattle.built_forms.specs.Built as built
use Rattle.built_forms.proofs.expressions.+expressions.Given as goal

-- the arguments so far are built
abbrev pub invariant-built_arguments-loop-argument : goal.invariant-built_arguments-loop-argument
invariant-built_arguments-loop-argument l = record {
  so_far : list_all (λ x. built.built_expression (expression x)) (take l.argument-index l.arguments) ≡ true;
}
