use Rattle.std.proofs.Common.{◌≡◌, take, drop, map}
use Rattle.pointer_modes.specs.Types.{member}
use Rattle.pointer_modes.specs.Declaring.{first_where, first_twice, is_named}
use Rattle.pointer_modes.proofs.structs.first_twice.Given as goal

-- the first such member is among those that are left
abbrev pub invariant-loop-k : goal.invariant-loop-k
invariant-loop-k l =
    first_where (λ before m. is_named m.name before) (map member (take l.k l.members)) (map member (drop l.k l.members)) ≡ first_twice (map member l.members)
