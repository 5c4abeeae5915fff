use Rattle.std.proofs.Common.{take}
use Rattle.std.specs.List.{flat_map}
use Rattle.ckc_tree.specs.Statements.{assignment}
use Rattle.ckc_names_rules.specs.Mentions.{assignment_mentions}
use Rattle.ckc_names.specs.Progress.{Passes}
use Rattle.ckc_names.proofs.declarations.assignments.Given as goal

-- the assignments so far were gone over
abbrev pub invariant-loop-listed : goal.invariant-loop-listed
invariant-loop-listed l = record {
  so_far : Passes (flat_map (λ x. assignment_mentions (assignment x)) (take l.listed-index l.written)) l.initial.resolver l.resolver;
}
