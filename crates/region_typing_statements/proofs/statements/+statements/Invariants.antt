use Rattle.std.proofs.Common.{◌≡◌, drop}
use Rattle.ckc_text.specs.Places.{place_at}
use Rattle.ckc_tree.specs.Items.{statement_list}
use Rattle.region_typing_rules.specs.Statements.{statements}
use Rattle.region_typing_scope.specs.Views.{scope}
use Rattle.region_typing_scope.specs.Locals.{Grows}
use Rattle.region_typing_statements.proofs.Sequences.{behind}
use Rattle.region_typing_statements.proofs.statements.+statements.Given as goal

-- the statements so far with what those are that are left make all of them
abbrev pub invariant-statements-loop-listed : goal.invariant-statements-loop-listed
invariant-statements-loop-listed l = record {
  so_far : statements (place_at l.context) (scope l.initial.scope) (statement_list l.written) ≡ behind l.built.items (statements (place_at l.context) (scope l.scope) (statement_list (drop l.listed-index l.written)));
  more : Grows l.initial.scope l.scope;
}
