use Rattle.std.proofs.Common.{◌≡◌, take, drop, map}
use Rattle.pointer_modes.specs.Types.{member}
use Rattle.pointer_modes.specs.Declaring.{first_where, first_struct, is_struct}
use Rattle.pointer_modes.proofs.structs.first_struct.Given as goal

-- the first such member is among those that are left
abbrev pub invariant-loop-member : goal.invariant-loop-member
invariant-loop-member l =
    first_where (λ before m. is_struct m.ctype) (map member (take l.member-index l.members)) (map member (drop l.member-index l.members)) ≡ first_struct (map member l.members)
