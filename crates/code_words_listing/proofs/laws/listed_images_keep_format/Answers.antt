use Rattle.code_words_listing.proofs.KeptFormat.{keeps-format, has-names}
use Rattle.code_words_listing.proofs.laws.listed_images_keep_format.Goals as goal

pub returns : goal.returns
returns c = λ image f paced. (keeps-format image f paced, has-names image f)
