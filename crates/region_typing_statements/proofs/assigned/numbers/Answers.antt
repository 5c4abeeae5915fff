use Rattle.std.proofs.lemmas.Grind.{elements, common_steps}
use Rattle.std.proofs.Common.{arith}
use Rattle.region_typing_statements.proofs.assigned.numbers.Goals as goal

pub returns-in_err-add_marked : goal.returns-in_err-add_marked
returns-in_err-add_marked c = grind (arith, elements)

pub loop-marked-preserved : goal.loop-marked-preserved
loop-marked-preserved c = grind (arith, common_steps)

pub returns : goal.returns
returns c = grind (arith, common_steps)
