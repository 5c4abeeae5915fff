use Rattle.std.proofs.Common.{◌≡◌, Some, map, drop}
use Rattle.ckc_tree.specs.Statements.{assignment}
use Rattle.region_typing_rules.specs.Items.{names}
use Rattle.region_typing_rules.specs.KeptParameters.{bundle_changed}
use Rattle.region_typing_statements.specs.Marks.{seen}
use Rattle.region_typing_statements.proofs.changes.bundle_changed.Given as goal

-- the first one of those that are left is the first one of all
abbrev pub invariant-loop-listed : goal.invariant-loop-listed
invariant-loop-listed l = bundle_changed (names (Some l.bounds)) (seen l.visible) (map assignment l.written) ≡ bundle_changed (names (Some l.bounds)) (seen l.visible) (map assignment (drop l.listed-index l.written))
