use Rattle.code_words.proofs.Worlds.{stay}
use Rattle.code_words.proofs.laws.events_stay.Goals as goal

pub returns : goal.returns
returns c = stay
