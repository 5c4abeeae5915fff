use Rattle.std.proofs.Common.{◌≡◌, [], map, drop}
use Rattle.ckc_text.specs.Places.{place_at}
use Rattle.ckc_tree.specs.Types.{type_tree}
use Rattle.ckc_tree.specs.Statements.{declarator}
use Rattle.pointer_modes.specs.Types.{ctype}
use Rattle.region_typing.specs.Items.{walk, judged_variable, judged_variables}
use Rattle.region_typing.proofs.globals.variables.Given as goal

-- the variables so far with those that are left make all of them
abbrev pub invariant-loop-d : goal.invariant-loop-d
invariant-loop-d l = record {
  so_far : judged_variables (place_at l.context) (type_tree l.base) (ctype l.t) l.span (map declarator l.ds) (walk l.initial.walk, []) ≡ judged_variables (place_at l.context) (type_tree l.base) (ctype l.t) l.span (map declarator (drop l.d-index l.ds)) (walk l.walk, map (judged_variable (ctype l.t)) l.walked.items);
}
