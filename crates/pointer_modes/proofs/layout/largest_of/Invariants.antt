use Rattle.std.proofs.Common.{◌≡◌, drop, map, max}
use Rattle.pointer_modes.specs.Types.{member}
use Rattle.pointer_modes.specs.Layout.{IsWidth, largest_of, member_sizes}
use Rattle.pointer_modes.proofs.layout.largest_of.Given as goal

-- the largest of all is the largest so far or one of those that are left
abbrev pub invariant-loop-member : goal.invariant-loop-member
invariant-loop-member l = record {
  largest : max l.largest (largest_of (member_sizes (map member (drop l.member-index l.members)))) ≡ largest_of (member_sizes (map member l.members));
  width : IsWidth l.largest;
}
