use Rattle.std.proofs.Common.{◌≡◌, drop}
use Rattle.std.specs.List.{list_any}
use Rattle.ckc_tree.specs.Items.{item}
use Rattle.ckc_names_rules.specs.Naming.{is_main}
use Rattle.ckc_names.proofs.main_function.has_main.Given as goal

-- one of the items that are left is, where one of all is
abbrev pub invariant-loop-listed : goal.invariant-loop-listed
invariant-loop-listed l = record {
  left : list_any (λ x. is_main (item x)) (drop l.listed-index l.written) ≡ list_any (λ x. is_main (item x)) l.written;
}
