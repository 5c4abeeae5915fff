use Rattle.std.proofs.Common.{◌+◌, ◌-◌, length}
use Rattle.region_typing_scope.specs.Tables.{SamePlaces}
use Rattle.region_typing_scope.proofs.number_table.make_room.Given as goal

-- what has a place keeps it
abbrev pub invariant-loop-places : goal.invariant-loop-places
invariant-loop-places l = record {
  kept : SamePlaces l.initial.places.items l.places.items;
}

abbrev pub decreases-loop-places : goal.decreases-loop-places
decreases-loop-places l = l.number + 1 - length l.places.items
