use Rattle.std.proofs.Common.{◌≡◌, ◌*◌, ◌≤◌, drop, map}
use Rattle.pointer_modes.specs.Types.{member}
use Rattle.pointer_modes.specs.Layout.{end_from, member_sizes}
use Rattle.pointer_modes.proofs.layout.end_of.Given as goal

-- the members that are left end where all do, and those so far take four bytes each at most
abbrev pub invariant-loop-member : goal.invariant-loop-member
invariant-loop-member l = record {
  end : end_from l.place (member_sizes (map member (drop l.member-index l.members))) ≡ end_from 0 (member_sizes (map member l.members));
  small : l.place ≤ 4 * l.member-index;
}
