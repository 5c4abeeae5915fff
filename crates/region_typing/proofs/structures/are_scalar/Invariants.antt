use Rattle.std.proofs.Common.{◌≡◌, map, drop}
use Rattle.pointer_modes.specs.Types.{member}
use Rattle.region_typing.proofs.ItemSteps.{all_scalar_members}
use Rattle.region_typing.proofs.structures.are_scalar.Given as goal

-- what is found of all is found of those that are left
abbrev pub invariant-loop-member : goal.invariant-loop-member
invariant-loop-member l = record {
  so_far : all_scalar_members (map member l.members) tt ≡ all_scalar_members (map member (drop l.member-index l.members)) tt;
}
