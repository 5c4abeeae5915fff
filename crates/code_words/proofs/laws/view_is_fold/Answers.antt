use Rattle.code_words.proofs.Worlds.{view}
use Rattle.code_words.proofs.laws.view_is_fold.Goals as goal

pub returns : goal.returns
returns c = view
