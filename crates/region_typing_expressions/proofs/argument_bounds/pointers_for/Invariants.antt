use Rattle.std.proofs.Common.{◌≡◌, ◌++◌, map, drop}
use Rattle.pointer_modes.specs.Types.{ctype}
use Rattle.region_typing_rules.specs.Calls.{pointers_for}
use Rattle.region_typing_expressions.specs.Calls.{argument}
use Rattle.region_typing_expressions.proofs.argument_bounds.pointers_for.Given as goal

-- the pointers so far, and those of the arguments that are left
abbrev pub invariant-loop-a : goal.invariant-loop-a
invariant-loop-a l = record {
  so_far : pointers_for (map ctype l.locals) (map argument l.arguments)
      ≡ l.pointers.items ++ pointers_for (map ctype l.locals) (map argument (drop l.a-index l.arguments));
}
