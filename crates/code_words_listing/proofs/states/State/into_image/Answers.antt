use Rattle.std.proofs.Common.{subst}
use Rattle.code_words_listing.specs.Drafts.{image, side}
use Rattle.code_words_listing.specs.Reached.{IsReached}
use Rattle.code_words_listing.specs.States.{seen}
use Rattle.code_words_listing.proofs.Whole.{whole-format, whole-names}
use Rattle.code_words_listing.proofs.states.State.into_image.Goals as goal

pub into_image-requires-clause-format : goal.into_image-requires-clause-format
into_image-requires-clause-format c = whole-format (image c.in-Closed.draft (side c.in-Closed.sandbox)) (subst (λ s. IsReached (seen s)) c.in-Closed.is c.requires)

pub into_image-requires-clause-names : goal.into_image-requires-clause-names
into_image-requires-clause-names c = whole-names (image c.in-Closed.draft (side c.in-Closed.sandbox)) (subst (λ s. IsReached (seen s)) c.in-Closed.is c.requires)
