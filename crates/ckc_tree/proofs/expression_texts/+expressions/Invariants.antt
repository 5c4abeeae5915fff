use Rattle.std.proofs.Common.{◌≡◌, ◌++◌, map, drop}
use Rattle.ckc_tree.specs.Texts.{text, expressions_texts}
use Rattle.ckc_tree.specs.Slices.{expressions_of}
use Rattle.ckc_tree.proofs.expression_texts.+expressions.Given as goal

-- the strings so far and those of the arguments that are left are those of all
abbrev pub invariant-push_arguments_texts-loop-argument : goal.invariant-push_arguments_texts-loop-argument
invariant-push_arguments_texts-loop-argument l =
    map text l.texts.items ++ expressions_texts (expressions_of (drop l.argument-index l.arguments)) ≡ map text l.initial.texts.items ++ expressions_texts (expressions_of l.arguments)
