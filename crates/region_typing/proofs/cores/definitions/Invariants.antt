use Rattle.std.proofs.Common.{◌≡◌, ◌++◌, List, length, map}
use Rattle.ckc_core.specs.Core.{definition}
use Rattle.region_typing_rules.specs.Cores.{definitions_of}
use Rattle.region_typing_rules.specs.Items.{Defined}
use Rattle.region_typing_scope.specs.Views.{signature}
use Rattle.region_typing.specs.Items.{defined}
use Rattle.region_typing.proofs.cores.definitions.Given as goal

-- those that were put in their places stand behind those that are left
abbrev pub invariant-loop-body : goal.invariant-loop-body
invariant-loop-body l = record {
  so_far : (placed : List Defined) × (map defined l.initial.bodies.items ≡ map defined l.bodies.items ++ placed) × (map definition l.built.items ≡ definitions_of placed (map signature l.scope.functions.items));
  all : length l.built.items ≡ length l.scope.functions.items;
}

abbrev pub decreases-loop-body : goal.decreases-loop-body
decreases-loop-body l = length l.bodies.items
