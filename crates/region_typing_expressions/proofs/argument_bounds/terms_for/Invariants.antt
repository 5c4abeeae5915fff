use Rattle.std.proofs.Common.{◌≡◌, ◌++◌, map, drop}
use Rattle.pointer_modes.specs.Types.{ctype}
use Rattle.region_typing_rules.specs.Calls.{terms_for}
use Rattle.region_typing_expressions.specs.Calls.{argument}
use Rattle.region_typing_expressions.proofs.argument_bounds.terms_for.Given as goal

-- the terms so far, and those of the arguments that are left
abbrev pub invariant-loop-i : goal.invariant-loop-i
invariant-loop-i l = record {
  so_far : terms_for (map ctype l.locals) (map argument l.arguments) (map ctype l.types)
      ≡ l.terms.items ++ terms_for (map ctype l.locals) (map argument (drop l.i l.arguments)) (map ctype (drop l.i l.types));
}
