use Rattle.std.proofs.Common.{◌+◌, ◌*◌, drop}
use Rattle.std.specs.Prelude.{max}
use Rattle.ckc_tree.specs.declared.stmt.Stmt.{size-Stmt}
use Rattle.ckc_tree.specs.Items.{statement_list}
use Rattle.ckc_printer.specs.StatementPieces.{statements_pieces}
use Rattle.ckc_printer.specs.Output.{Leaves}
use Rattle.ckc_printer.specs.Spaced.{spaced_text}
use Rattle.ckc_printer.proofs.statements.+statements.Given as goal

-- each call has a part that is less deep, or one as deep and a function that is lower here

abbrev pub decreases-put_stmt : goal.decreases-put_stmt
decreases-put_stmt l = 3 * goal.size-put_stmt l

abbrev pub decreases-put_guarded : goal.decreases-put_guarded
decreases-put_guarded l = 3 * size-Stmt l.body.now + 1

abbrev pub decreases-put_for : goal.decreases-put_for
decreases-put_for l = 3 * size-Stmt l.body.now + 1

abbrev pub decreases-put_if_else : goal.decreases-put_if_else
decreases-put_if_else l = 3 * max (size-Stmt l.consequent.now) (size-Stmt l.alternative.now) + 2

abbrev pub decreases-put_stmts : goal.decreases-put_stmts
decreases-put_stmts l = 3 * goal.size-put_stmts l + 1

abbrev pub decreases-put_block : goal.decreases-put_block
decreases-put_block l = 3 * goal.size-put_block l + 2

-- the text so far and that of the statements that are left are that of all
abbrev pub invariant-put_stmts-loop-stmt : goal.invariant-put_stmts-loop-stmt
invariant-put_stmts-loop-stmt l = Leaves l.initial.out l.out (spaced_text (statements_pieces (statement_list (drop l.stmt-index l.stmts)))) (spaced_text (statements_pieces (statement_list l.stmts)))
