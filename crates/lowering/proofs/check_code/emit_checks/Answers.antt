use Rattle.std.proofs.lemmas.Grind.{elements, common_steps}
use Rattle.std.proofs.Common.{arith}
use Rattle.lowering.proofs.check_code.emit_checks.Goals as goal

pub returns-in_err-emit_check : goal.returns-in_err-emit_check
returns-in_err-emit_check c = grind (arith, elements)

pub loop-check-preserved : goal.loop-check-preserved
loop-check-preserved c = grind (arith, common_steps)

pub returns : goal.returns
returns c = grind (arith, common_steps)
