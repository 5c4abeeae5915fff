use Rattle.code_words_listing.specs.Told.{told}
use Rattle.code_words_listing.proofs.LinesRead.{line-read}
use Rattle.code_words_listing.proofs.read_listing.read_next.Goals as goal

pub step-requires-clause-allowed : goal.step-requires-clause-allowed
step-requires-clause-allowed c = (line-read c.args.text.now (told c.in_ok-line.line) c.in_ok-line.ensures.0).allowed
