use Rattle.std.proofs.lemmas.Grind.{common_steps}
use Rattle.std.proofs.Common.{rules, arith}
use Rattle.region_typing_scope.proofs.strings.Strings.block_at.Goals as goal

pub loop-t-init : goal.loop-t-init
loop-t-init c = search rules

pub overflow_cast-result : goal.overflow_cast-result
overflow_cast-result c = search rules

pub returns-in-Some-left : goal.returns-in-Some-left
returns-in-Some-left c = grind (arith, common_steps)

pub returns-in-None-left : goal.returns-in-None-left
returns-in-None-left c = grind (arith, common_steps)

pub loop-t-preserved : goal.loop-t-preserved
loop-t-preserved c = grind (arith, common_steps)

pub returns : goal.returns
returns c = grind (arith, common_steps)
