use Rattle.std.proofs.Common.{◌≡◌, ◌++◌, drop}
use Rattle.lowering.specs.Code.{checks_code}
use Rattle.lowering.proofs.check_code.emit_checks.Given as goal

-- the code so far and that of the checks that are left are that of all
abbrev pub invariant-loop-check : goal.invariant-loop-check
invariant-loop-check l = l.ops.items ++ checks_code l.slot l.reach (drop l.check-index l.checks) ≡ l.initial.ops.items ++ checks_code l.slot l.reach l.checks
