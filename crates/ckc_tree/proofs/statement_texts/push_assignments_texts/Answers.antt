use Rattle.std.proofs.lemmas.Grind.{elements, common_steps}
use Rattle.std.proofs.Common.{arith}
use Rattle.ckc_tree.proofs.statement_texts.push_assignments_texts.Goals as goal

pub returns-in_err-push_assignment_texts : goal.returns-in_err-push_assignment_texts
returns-in_err-push_assignment_texts c = grind (arith, elements)

pub loop-written-preserved : goal.loop-written-preserved
loop-written-preserved c = grind (arith, common_steps)

pub returns : goal.returns
returns c = grind (arith, common_steps)
