use Rattle.std.proofs.lemmas.Grind.{common_steps}
use Rattle.std.proofs.Common.{arith}
use Rattle.lowering.proofs.statement_code.emit_old_value.Goals as goal

pub returns : goal.returns
returns c = grind (arith, common_steps)
