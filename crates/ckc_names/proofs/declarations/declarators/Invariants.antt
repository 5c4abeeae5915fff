use Rattle.std.proofs.Common.{take}
use Rattle.std.specs.List.{flat_map}
use Rattle.ckc_tree.specs.Statements.{declarator}
use Rattle.ckc_names_rules.specs.Mentions.{declarator_mentions}
use Rattle.ckc_names.specs.Progress.{Passes}
use Rattle.ckc_names.proofs.declarations.declarators.Given as goal

-- the declarators so far were gone over
abbrev pub invariant-loop-listed : goal.invariant-loop-listed
invariant-loop-listed l = record {
  so_far : Passes (flat_map (λ x. declarator_mentions (declarator x)) (take l.listed-index l.written)) l.initial.resolver l.resolver;
}
