use Rattle.code_words_listing.proofs.LinesRead.{line-read}
use Rattle.code_words_listing.proofs.laws.lines_read.Goals as goal

pub returns : goal.returns
returns c = λ text line h. let l = line-read text line h in (l.is, l.allowed)
