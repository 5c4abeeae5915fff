use Rattle.std.proofs.Common.{◌≡◌, ◌++◌, map, drop}
use Rattle.pointer_modes.specs.Types.{ctype}
use Rattle.region_typing.proofs.signatures.copied_types.Given as goal

-- the types so far, and those that are left
abbrev pub invariant-loop-t : goal.invariant-loop-t
invariant-loop-t l = record {
  so_far : map ctype l.types ≡ map ctype l.copies.items ++ map ctype (drop l.t-index l.types);
}
