use Rattle.code_words_listing.proofs.OneVerdict.{one-verdict}
use Rattle.code_words_listing.proofs.laws.verdicts_agree.Goals as goal

pub returns : goal.returns
returns c = one-verdict
