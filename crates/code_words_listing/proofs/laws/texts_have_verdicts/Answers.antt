use Rattle.code_words_listing.proofs.SomeVerdict.{some-verdict}
use Rattle.code_words_listing.proofs.laws.texts_have_verdicts.Goals as goal

pub returns : goal.returns
returns c = some-verdict
