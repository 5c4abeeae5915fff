use Rattle.std.proofs.Common.{◌≡◌, [], ◌++◌, map, drop}
use Rattle.ckc_core.specs.Core.{definition}
use Rattle.region_typing_rules.specs.Cores.{definitions_of}
use Rattle.region_typing_scope.specs.Views.{signature}
use Rattle.region_typing.proofs.cores.without_bodies.Given as goal

-- the functions so far, and those that are left
abbrev pub invariant-loop-f : goal.invariant-loop-f
invariant-loop-f l = record {
  so_far : definitions_of [] (map signature l.functions) ≡ map definition l.built.items ++ definitions_of [] (map signature (drop l.f-index l.functions));
}
