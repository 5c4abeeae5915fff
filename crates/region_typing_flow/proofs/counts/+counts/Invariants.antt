use Rattle.std.proofs.Common.{◌≡◌, ◌+◌, ◌≤◌, drop}
use Rattle.ckc_tree.specs.Items.{statement_list}
use Rattle.region_typing_rules.specs.Items.{limited}
use Rattle.region_typing_rules.specs.Knowing.{all_declared}
use Rattle.region_typing_flow.proofs.counts.+counts.Given as goal

-- those so far with those of the statements that are left are all
abbrev pub invariant-all_declared-loop-listed : goal.invariant-all_declared-loop-listed
invariant-all_declared-loop-listed l = record {
  few : l.count ≤ 256;
  so_far : limited 256 (l.count + all_declared (statement_list (drop l.listed-index l.written))) ≡ limited 256 (all_declared (statement_list l.written));
}
