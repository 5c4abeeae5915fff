use Rattle.std.proofs.Common.{◌≡◌, map, drop}
use Rattle.pointer_modes.specs.Types.{ctype}
use Rattle.region_typing.specs.Items.{walk, judged_variable, judged_objects}
use Rattle.region_typing.proofs.globals.objects.Given as goal

-- the cells so far with those that are left make all of them
abbrev pub invariant-loop-v : goal.invariant-loop-v
invariant-loop-v l = record {
  so_far : judged_objects l.span (map (judged_variable (ctype l.t)) l.vs) (walk l.initial.walk) ≡ judged_objects l.span (map (judged_variable (ctype l.t)) (drop l.v-index l.vs)) (walk l.walk);
}
