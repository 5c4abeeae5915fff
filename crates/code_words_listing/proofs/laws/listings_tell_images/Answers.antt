use Rattle.code_words_listing.proofs.ImagesBack.{listing-injective}
use Rattle.code_words_listing.proofs.laws.listings_tell_images.Goals as goal

pub returns : goal.returns
returns c = listing-injective
