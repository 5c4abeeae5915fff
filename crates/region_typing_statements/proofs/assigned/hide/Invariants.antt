use Rattle.std.proofs.Common.{◌≡◌, map, drop}
use Rattle.ckc_tree.specs.Statements.{declarator}
use Rattle.region_typing_rules.specs.Knowing.{hiding}
use Rattle.region_typing_statements.specs.Marks.{seen, Adds}
use Rattle.region_typing_statements.proofs.assigned.hide.Given as goal

-- what those that are left hide with those so far is what all of them hide
abbrev pub invariant-loop-listed : goal.invariant-loop-listed
invariant-loop-listed l = record {
  so_far : hiding l.beyond (map declarator l.declared) (seen l.initial.visible.items) ≡ hiding l.beyond (map declarator (drop l.listed-index l.declared)) (seen l.visible.items);
  added : Adds l.initial.visible.items l.visible.items;
}
