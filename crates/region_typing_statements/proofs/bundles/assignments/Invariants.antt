use Rattle.std.proofs.Common.{◌≡◌, drop, map}
use Rattle.ckc_text.specs.Places.{place_at}
use Rattle.ckc_tree.specs.Statements.{assignment}
use Rattle.region_typing_scope.specs.Views.{scope}
use Rattle.region_typing_scope.specs.Locals.{Grows}
use Rattle.region_typing_statements.specs.Parts.{unsettled}
use Rattle.region_typing_statements.proofs.Sequences.{behind}
use Rattle.region_typing_statements.proofs.bundles.assignments.Given as goal

-- the assignments so far with what those are that are left make all of them
abbrev pub invariant-loop-listed : goal.invariant-loop-listed
invariant-loop-listed l = record {
  so_far : unsettled (place_at l.context) (scope l.initial.scope) (map assignment l.written) ≡ behind l.built.items (unsettled (place_at l.context) (scope l.scope) (map assignment (drop l.listed-index l.written)));
  more : Grows l.initial.scope l.scope;
}
