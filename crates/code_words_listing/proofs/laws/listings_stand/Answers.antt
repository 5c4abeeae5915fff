use Rattle.code_words_listing.proofs.PacedLines.{listing-stands}
use Rattle.code_words_listing.proofs.laws.listings_stand.Goals as goal

pub returns : goal.returns
returns c = listing-stands
