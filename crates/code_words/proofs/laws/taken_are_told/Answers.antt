use Rattle.code_words.proofs.Worlds.{told}
use Rattle.code_words.proofs.laws.taken_are_told.Goals as goal

pub returns : goal.returns
returns c = told
