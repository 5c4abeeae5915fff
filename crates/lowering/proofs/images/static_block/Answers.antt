use Rattle.std.proofs.lemmas.Grind.{common_steps}
use Rattle.std.proofs.Common.{arith}
use Rattle.lowering.proofs.images.static_block.Goals as goal

pub returns-in_err-put_cell : goal.returns-in_err-put_cell
returns-in_err-put_cell c = grind (arith, common_steps)

pub loop-cell-preserved : goal.loop-cell-preserved
loop-cell-preserved c = grind (arith, common_steps)

pub returns : goal.returns
returns c = grind (arith, common_steps)
