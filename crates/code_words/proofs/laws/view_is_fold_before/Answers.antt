use Rattle.code_words.proofs.Due.{shown_before}
use Rattle.code_words.proofs.laws.view_is_fold_before.Goals as goal

pub returns : goal.returns
returns c = λ image settings inputs acts ending t front run. shown_before image settings inputs acts ending t run front
