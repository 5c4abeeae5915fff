use Rattle.std.proofs.Common.{arith, rules}
use Rattle.std.proofs.lemmas.Grind.{common_steps, elements}
use Rattle.subsumption.proofs.matrix.copied_rows.Goals as goal

pub returns-in_err-push : goal.returns-in_err-push
returns-in_err-push c = search rules

pub loop-row-preserved : goal.loop-row-preserved
loop-row-preserved c = grind (arith, common_steps)

pub returns : goal.returns
returns c = grind (arith, elements)
