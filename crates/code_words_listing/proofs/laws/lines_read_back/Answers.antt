use Rattle.code_words_listing.proofs.Texts.{line-back}
use Rattle.code_words_listing.proofs.laws.lines_read_back.Goals as goal

pub returns : goal.returns
returns c = line-back
