use Rattle.std.proofs.Common.{◌≡◌, Some, drop}
use Rattle.ckc_tree.specs.Items.{statement_list}
use Rattle.region_typing_rules.specs.Items.{names}
use Rattle.region_typing_rules.specs.KeptParameters.{first_of, all_changed}
use Rattle.region_typing_statements.specs.Marks.{seen, Adds}
use Rattle.region_typing_statements.proofs.changes.+changes.Given as goal

-- the first one so far, or that of the statements that are left, is the first one of all
abbrev pub invariant-all_changed-loop-listed : goal.invariant-all_changed-loop-listed
invariant-all_changed-loop-listed l = record {
  so_far : all_changed (names (Some l.bounds)) l.beyond (seen l.initial.visible.items) (statement_list l.written) ≡ first_of l.first (all_changed (names (Some l.bounds)) l.beyond (seen l.visible.items) (statement_list (drop l.listed-index l.written)));
  added : Adds l.initial.visible.items l.visible.items;
}
