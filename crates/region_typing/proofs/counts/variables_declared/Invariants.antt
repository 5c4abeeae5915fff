use Rattle.std.proofs.Common.{◌≡◌, ◌+◌, ◌≤◌, map, drop}
use Rattle.ckc_tree.specs.Items.{item}
use Rattle.region_typing_rules.specs.Items.{limited, variables_declared}
use Rattle.region_typing.proofs.counts.variables_declared.Given as goal

-- those so far with those of the items that are left are all
abbrev pub invariant-loop-listed : goal.invariant-loop-listed
invariant-loop-listed l = record {
  few : l.count ≤ 4096;
  so_far : limited 4096 (l.count + variables_declared (map item (drop l.listed-index l.written))) ≡ limited 4096 (variables_declared (map item l.written));
}
