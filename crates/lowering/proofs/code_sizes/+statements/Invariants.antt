use Rattle.std.proofs.Common.{◌≡◌, ◌+◌, drop}
use Rattle.check_insertion.specs.Erased.{statements_of}
use Rattle.lowering.specs.Code as code
use Rattle.lowering.proofs.code_sizes.+statements.Given as goal

-- the size so far and that of the statements that are left are that of all
abbrev pub invariant-statements_size-loop-stmt : goal.invariant-statements_size-loop-stmt
invariant-statements_size-loop-stmt l = l.size + code.statements_size (statements_of (drop l.stmt-index l.stmts)) ≡ code.statements_size (statements_of l.stmts)
