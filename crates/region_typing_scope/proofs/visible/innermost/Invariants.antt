use Rattle.std.proofs.Common.{◌≡◌, List, ◌≤◌, length, map, reverse, take}
use Rattle.pointer_modes.specs.Types.{CType}
use Rattle.region_typing_rules.specs.Scopes.{local_named}
use Rattle.region_typing_rules.specs.Knowing.{local_number}
use Rattle.region_typing_scope.specs.Visibles.{visible}
use Rattle.region_typing_scope.proofs.visible.innermost.Given as goal

-- the innermost of all is the innermost of those before the place
abbrev pub invariant-loop-at : goal.invariant-loop-at
invariant-loop-at l = record {
  within : l.at ≤ length l.visible;
  number : local_number (reverse (map visible l.visible)) l.name ≡ local_number (reverse (map visible (take l.at l.visible))) l.name;
  same : (types : List CType) → local_named types (reverse (map visible l.visible)) l.name ≡ local_named types (reverse (map visible (take l.at l.visible))) l.name;
}

abbrev pub decreases-loop-at : goal.decreases-loop-at
decreases-loop-at l = l.at
