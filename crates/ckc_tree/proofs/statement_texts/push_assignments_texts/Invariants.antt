use Rattle.std.proofs.Common.{◌≡◌, ◌++◌, map, drop}
use Rattle.ckc_tree.specs.Statements.{assignment}
use Rattle.ckc_tree.specs.Texts.{text, assignments_texts}
use Rattle.ckc_tree.proofs.statement_texts.push_assignments_texts.Given as goal

-- the strings so far and those of the assignments that are left are those of all
abbrev pub invariant-loop-written : goal.invariant-loop-written
invariant-loop-written l =
    map text l.texts.items ++ assignments_texts (map assignment (drop l.written-index l.assignments)) ≡ map text l.initial.texts.items ++ assignments_texts (map assignment l.assignments)
