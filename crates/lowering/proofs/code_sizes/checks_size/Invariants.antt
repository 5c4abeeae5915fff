use Rattle.std.proofs.Common.{◌≡◌, ◌+◌, drop}
use Rattle.lowering.specs.Code as code
use Rattle.lowering.proofs.code_sizes.checks_size.Given as goal

-- the size so far and that of the checks that are left are that of all
abbrev pub invariant-loop-check : goal.invariant-loop-check
invariant-loop-check l = l.size + code.checks_size l.reach (drop l.check-index l.checks) ≡ code.checks_size l.reach l.checks
