use Rattle.std.proofs.Common.{refl, arith, map}
use Rattle.std.proofs.lemmas.Grind.{common_steps}
use Rattle.ccbox_call_words.proofs.command_line.with_words.Goals as goal

pub loop-name-init : goal.loop-name-init
loop-name-init c = refl

pub loop-name-preserved : goal.loop-name-preserved
loop-name-preserved c = grind (arith, common_steps)

pub returns : goal.returns
returns c = grind (arith, common_steps)
