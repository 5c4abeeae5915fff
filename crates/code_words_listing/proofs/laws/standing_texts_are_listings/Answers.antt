use Rattle.code_words_listing.proofs.PacedLines.{stands}
use Rattle.code_words_listing.proofs.laws.standing_texts_are_listings.Goals as goal

pub returns : goal.returns
returns c = λ text v. let s = stands text v in (s.image, s.kept, s.paced, s.is)
