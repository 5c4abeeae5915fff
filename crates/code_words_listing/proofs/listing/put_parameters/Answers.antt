use Rattle.std.proofs.Common.{arith}
use Rattle.std.proofs.lemmas.Grind.{common_steps}
use Rattle.code_words_listing.proofs.Written.{lines_text_append}
use Rattle.code_words_listing.proofs.listing.put_parameters.Goals as goal

pub loop-param-preserved : goal.loop-param-preserved
loop-param-preserved c = grind (arith, common_steps, lines_text_append)
