use Rattle.std.proofs.Common.{◌≡◌, ◌+◌, ◌*◌, drop}
use Rattle.std.specs.Prelude.{max}
use Rattle.ckc_core.specs.declared.program.Stmt.{size-Stmt}
use Rattle.ckc_core.specs.Core as core
use Rattle.check_insertion.specs.Erased as erased
use Rattle.check_insertion.specs.Insert as insert
use Rattle.check_insertion.proofs.Made.{before}
use Rattle.check_insertion.proofs.statements.+statements.Given as goal

-- each call has a part that is less deep, or one as deep and a function that is lower here

abbrev pub decreases-statement : goal.decreases-statement
decreases-statement l = 4 * goal.size-statement l

abbrev pub decreases-boxed : goal.decreases-boxed
decreases-boxed l = 4 * goal.size-boxed l + 1

abbrev pub decreases-choice : goal.decreases-choice
decreases-choice l = 4 * max (size-Stmt l.consequent.now) (size-Stmt l.alternative.now) + 2

abbrev pub decreases-repetition : goal.decreases-repetition
decreases-repetition l = 4 * max (size-Stmt l.body.now) (size-Stmt l.step.now) + 2

abbrev pub decreases-statements : goal.decreases-statements
decreases-statements l = 4 * goal.size-statements l + 1

abbrev pub decreases-block : goal.decreases-block
decreases-block l = 4 * goal.size-block l + 2

-- the statements so far, and those that are left
abbrev pub invariant-statements-loop-stmt : goal.invariant-statements-loop-stmt
invariant-statements-loop-stmt l =
    insert.statements (core.statements_of l.stmts) ≡ before erased.statement erased.Then l.built.items (insert.statements (core.statements_of (drop l.stmt-index l.stmts)))
