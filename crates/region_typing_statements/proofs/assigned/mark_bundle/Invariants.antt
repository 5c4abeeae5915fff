use Rattle.std.proofs.Common.{◌≡◌, map, drop}
use Rattle.ckc_tree.specs.Statements.{assignment}
use Rattle.region_typing_rules.specs.Knowing.{bundle_marked}
use Rattle.region_typing_statements.specs.Marks.{seen}
use Rattle.region_typing_statements.proofs.assigned.mark_bundle.Given as goal

-- the marks so far with those of the assignments that are left are all
abbrev pub invariant-loop-listed : goal.invariant-loop-listed
invariant-loop-listed l = bundle_marked (seen l.visible) (map assignment l.written) l.initial.marks.items ≡ bundle_marked (seen l.visible) (map assignment (drop l.listed-index l.written)) l.marks.items
