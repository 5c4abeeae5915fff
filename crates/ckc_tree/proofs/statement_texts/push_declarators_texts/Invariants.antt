use Rattle.std.proofs.Common.{◌≡◌, ◌++◌, map, drop}
use Rattle.ckc_tree.specs.Statements.{declarator}
use Rattle.ckc_tree.specs.Texts.{text, declarators_texts}
use Rattle.ckc_tree.proofs.statement_texts.push_declarators_texts.Given as goal

-- the strings so far and those of the variables that are left are those of all
abbrev pub invariant-loop-written : goal.invariant-loop-written
invariant-loop-written l =
    map text l.texts.items ++ declarators_texts (map declarator (drop l.written-index l.declarators)) ≡ map text l.initial.texts.items ++ declarators_texts (map declarator l.declarators)
