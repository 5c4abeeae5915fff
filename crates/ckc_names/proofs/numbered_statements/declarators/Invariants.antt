use Rattle.std.proofs.Common.{◌≡◌, ℕ, ◌≤◌, length, map, take, get_or}
use Rattle.ckc_tree.specs.Statements.{declarator}
use Rattle.ckc_tree.specs.Numbers.{number_declarator}
use Rattle.ckc_names_rules.specs.Given.{number_in}
use Rattle.ckc_names.proofs.numbered_statements.declarators.Given as goal

-- those so far have their numbers, and those that are left are as they were
abbrev pub invariant-loop-listed : goal.invariant-loop-listed
invariant-loop-listed l = record {
  all : length l.listed-items ≡ length l.initial.listed-items;
  left : (k : ℕ) (d : _) → l.listed-index ≤ k → get_or l.listed-items k d ≡ get_or l.initial.listed-items k d;
  so_far : map declarator (take l.listed-index l.listed-items) ≡ map (number_declarator (number_in l.names)) (map declarator (take l.listed-index l.initial.listed-items));
}
