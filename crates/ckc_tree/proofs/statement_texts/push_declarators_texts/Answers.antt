use Rattle.std.proofs.lemmas.Grind.{common_steps}
use Rattle.std.proofs.lemmas.Bool.Decides.{nat_tests}
use Rattle.std.proofs.Common.{arith}
use Rattle.ckc_tree.proofs.statement_texts.push_declarators_texts.Goals as goal

pub returns-in_err-push_initializer_texts : goal.returns-in_err-push_initializer_texts
returns-in_err-push_initializer_texts c = grind (arith, nat_tests)

pub loop-written-preserved : goal.loop-written-preserved
loop-written-preserved c = grind (arith, common_steps)

pub returns : goal.returns
returns c = grind (arith, common_steps)
