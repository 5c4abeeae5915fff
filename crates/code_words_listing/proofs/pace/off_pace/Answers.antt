use Rattle.std.proofs.lemmas.Grind.{common_steps}
use Rattle.std.proofs.Common.{arith}
use Rattle.code_words_listing.proofs.pace.off_pace.Goals as goal

pub returns-then-not-keeps_pace-clause-first : goal.returns-then-not-keeps_pace-clause-first
returns-then-not-keeps_pace-clause-first c = grind (arith, common_steps)

pub loop-place-preserved : goal.loop-place-preserved
loop-place-preserved c = grind (arith, common_steps)

pub returns-clause-first : goal.returns-clause-first
returns-clause-first c = grind (arith, common_steps)
