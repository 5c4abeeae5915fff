use Rattle.sandbox_actor.specs.ActLists.{lines_of}
use Rattle.sandbox_actor.proofs.Acts.{are_acts}
use Rattle.sandbox_actor.proofs.laws.says_acts.Goals as goal

pub returns : goal.returns
returns c = λ file. are_acts 1 0 (lines_of file)
