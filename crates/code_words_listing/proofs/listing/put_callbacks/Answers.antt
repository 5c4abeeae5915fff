use Rattle.std.proofs.Common.{arith}
use Rattle.std.proofs.lemmas.Grind.{common_steps}
use Rattle.code_words_listing.proofs.Written.{lines_text_append}
use Rattle.code_words_listing.proofs.listing.put_callbacks.Goals as goal

pub loop-callback-preserved : goal.loop-callback-preserved
loop-callback-preserved c = grind (arith, common_steps, lines_text_append)
