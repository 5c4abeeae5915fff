use Rattle.std.proofs.Common.{◌≡◌, map, take}
use Rattle.ckc_tree.specs.Statements.{statement}
use Rattle.ckc_tree.specs.Numbers.{number_statement}
use Rattle.ckc_names_rules.specs.Given.{number_in}
use Rattle.ckc_names.proofs.numbered_statements.+numbered.Given as goal

-- those so far have their numbers, and those that are left are as they were
abbrev pub invariant-statements-loop-listed : goal.invariant-statements-loop-listed
invariant-statements-loop-listed l = record {
  left : goal.unvisited-statements-loop-listed l;
  so_far : map statement (take l.listed-index l.listed-items) ≡ map (number_statement (number_in l.names)) (map statement (take l.listed-index l.initial.listed-items));
}
