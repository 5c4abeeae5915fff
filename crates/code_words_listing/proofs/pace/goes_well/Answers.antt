use Rattle.std.proofs.lemmas.Grind.{elements}
use Rattle.std.proofs.Common.{arith}
use Rattle.code_words_listing.proofs.pace.goes_well.Goals as goal

pub returns-then-is_tick : goal.returns-then-is_tick
returns-then-is_tick c = grind (arith, elements)

pub returns-else-is_tick : goal.returns-else-is_tick
returns-else-is_tick c = grind (arith, elements)

pub returns-in-None : goal.returns-in-None
returns-in-None c = grind (arith, elements)
