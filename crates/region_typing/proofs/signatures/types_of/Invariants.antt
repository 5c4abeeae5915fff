use Rattle.std.proofs.Common.{◌≡◌, ◌++◌, map, drop}
use Rattle.pointer_modes.specs.Types.{ctype}
use Rattle.region_typing_rules.specs.Items.{Parameter}
use Rattle.region_typing.specs.Parameters.{parameter}
use Rattle.region_typing.proofs.signatures.types_of.Given as goal

-- the types so far, and those of the parameters that are left
abbrev pub invariant-loop-p : goal.invariant-loop-p
invariant-loop-p l = record {
  so_far : map (λ (p : Parameter). p.type) (map parameter l.parameters) ≡ map ctype l.types.items ++ map (λ (p : Parameter). p.type) (map parameter (drop l.p-index l.parameters));
}
