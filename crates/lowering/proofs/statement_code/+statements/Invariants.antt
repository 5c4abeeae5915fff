use Rattle.std.proofs.Common.{◌≡◌, ◌+◌, ◌*◌, ◌++◌, length, drop}
use Rattle.std.specs.Prelude.{max}
use Rattle.check_insertion.specs.declared.erased.Stmt.{size-Stmt}
use Rattle.check_insertion.specs.Erased.{statements_of}
use Rattle.lowering.specs.Code.{statements_code}
use Rattle.lowering.specs.Views.{targets_of}
use Rattle.lowering.proofs.statement_code.+statements.Given as goal

-- each call has a part that is less deep, or one as deep and a function that is lower here

abbrev pub decreases-emit_statement : goal.decreases-emit_statement
decreases-emit_statement l = 2 * goal.size-emit_statement l

abbrev pub decreases-emit_if : goal.decreases-emit_if
decreases-emit_if l = 2 * max (size-Stmt l.consequent.now) (size-Stmt l.alternative.now) + 1

abbrev pub decreases-emit_loop : goal.decreases-emit_loop
decreases-emit_loop l = 2 * max (size-Stmt l.body.now) (size-Stmt l.step.now) + 1

abbrev pub decreases-emit_statements : goal.decreases-emit_statements
decreases-emit_statements l = 2 * goal.size-emit_statements l + 1

-- the code so far and that of the statements that are left are that of all
abbrev pub invariant-emit_statements-loop-stmt : goal.invariant-emit_statements-loop-stmt
invariant-emit_statements-loop-stmt l =
    l.ops.items ++ statements_code (targets_of l.targets) (length l.ops.items) (statements_of (drop l.stmt-index l.stmts)) ≡ l.initial.ops.items ++ statements_code (targets_of l.targets) (length l.initial.ops.items) (statements_of l.stmts)
