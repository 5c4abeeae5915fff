use Rattle.std.proofs.Common.{◌≡◌, map, drop}
use Rattle.pointer_modes.specs.Types.{ctype}
use Rattle.region_typing_expressions.specs.Calls.{argument}
use Rattle.region_typing_expressions.specs.ArgumentBounds.{first_unmet}
use Rattle.region_typing_expressions.proofs.argument_bounds.first_unmet_by.Given as goal

-- the first one of all is the first one of those that are left
abbrev pub invariant-loop-i : goal.invariant-loop-i
invariant-loop-i l = record {
  left : first_unmet l.flow l.passed.terms.items l.passed.pointers.items (map argument l.arguments) (map ctype l.f.parameters.items) l.f.bounds.items
      ≡ first_unmet l.flow l.passed.terms.items l.passed.pointers.items (map argument (drop l.i l.arguments)) (map ctype (drop l.i l.f.parameters.items)) (drop l.i l.f.bounds.items);
}
