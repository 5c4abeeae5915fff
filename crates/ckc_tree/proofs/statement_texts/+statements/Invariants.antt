use Rattle.std.proofs.Common.{◌≡◌, ◌++◌, map, drop}
use Rattle.ckc_tree.specs.Items.{statement_list}
use Rattle.ckc_tree.specs.Texts.{text, statements_texts}
use Rattle.ckc_tree.proofs.statement_texts.+statements.Given as goal

-- the strings so far and those of the statements that are left are those of all
abbrev pub invariant-push_statements_texts-loop-written : goal.invariant-push_statements_texts-loop-written
invariant-push_statements_texts-loop-written l =
    map text l.texts.items ++ statements_texts (statement_list (drop l.written-index l.statements)) ≡ map text l.initial.texts.items ++ statements_texts (statement_list l.statements)
