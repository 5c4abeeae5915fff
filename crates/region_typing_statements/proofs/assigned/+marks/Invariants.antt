use Rattle.std.proofs.Common.{◌≡◌, drop}
use Rattle.ckc_tree.specs.Items.{statement_list}
use Rattle.region_typing_rules.specs.Knowing.{all_marked}
use Rattle.region_typing_statements.specs.Marks.{seen, Adds}
use Rattle.region_typing_statements.proofs.assigned.+marks.Given as goal

-- the marks so far with those of the statements that are left are all
abbrev pub invariant-mark_statements-loop-listed : goal.invariant-mark_statements-loop-listed
invariant-mark_statements-loop-listed l = record {
  so_far : all_marked l.beyond (seen l.initial.visible.items) (statement_list l.written) l.initial.marks.items ≡ all_marked l.beyond (seen l.visible.items) (statement_list (drop l.listed-index l.written)) l.marks.items;
  added : Adds l.initial.visible.items l.visible.items;
}
