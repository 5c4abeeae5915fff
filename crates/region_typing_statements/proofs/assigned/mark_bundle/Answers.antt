use Rattle.std.proofs.lemmas.Grind.{common_steps}
use Rattle.std.proofs.Common.{arith}
use Rattle.region_typing_statements.proofs.assigned.mark_bundle.Goals as goal

pub loop-listed-preserved : goal.loop-listed-preserved
loop-listed-preserved c = grind (arith, common_steps)

pub returns : goal.returns
returns c = grind (arith, common_steps)
