use Rattle.std.proofs.Common.{◌≡◌, ◌≤◌, length, reverse, take}
use Rattle.region_typing_rules.specs.Operands.{is_array}
use Rattle.region_typing_scope.proofs.visible.is_array.Given as goal

-- a local is among all where it is among those before the place
abbrev pub invariant-loop-at : goal.invariant-loop-at
invariant-loop-at l = record {
  within : l.at ≤ length l.arrays;
  same : is_array (reverse l.arrays) l.local ≡ is_array (reverse (take l.at l.arrays)) l.local;
}

abbrev pub decreases-loop-at : goal.decreases-loop-at
decreases-loop-at l = l.at
