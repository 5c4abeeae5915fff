use Rattle.std.proofs.Common.{◌≡◌, ◌++◌, map, drop}
use Rattle.region_typing_rules.specs.Items.{Parameter}
use Rattle.region_typing.specs.Parameters.{parameter}
use Rattle.region_typing.proofs.signatures.bounds_of.Given as goal

-- what is written so far, and for the parameters that are left
abbrev pub invariant-loop-p : goal.invariant-loop-p
invariant-loop-p l = record {
  so_far : map (λ (p : Parameter). p.bounds) (map parameter l.parameters) ≡ l.bounds.items ++ map (λ (p : Parameter). p.bounds) (map parameter (drop l.p-index l.parameters));
}
