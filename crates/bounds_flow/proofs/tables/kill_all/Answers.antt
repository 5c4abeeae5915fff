use Rattle.std.proofs.lemmas.Grind.{common_steps, elements}
use Rattle.std.proofs.Common.{arith}
use Rattle.bounds_flow.proofs.tables.kill_all.Goals as goal

pub loop-var-preserved : goal.loop-var-preserved
loop-var-preserved c = grind (arith, common_steps)

pub returns-clause-table : goal.returns-clause-table
returns-clause-table c = grind (arith, elements)
