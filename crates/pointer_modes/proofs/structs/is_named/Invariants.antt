use Rattle.std.proofs.Common.{◌≡◌, drop, map}
use Rattle.pointer_modes.specs.Types.{member}
use Rattle.pointer_modes.specs.Declaring.{is_named}
use Rattle.pointer_modes.proofs.structs.is_named.Given as goal

-- the name is that of a member exactly if it is that of one that is left
abbrev pub invariant-loop-member : goal.invariant-loop-member
invariant-loop-member l = is_named l.name (map member (drop l.member-index l.members)) ≡ is_named l.name (map member l.members)
