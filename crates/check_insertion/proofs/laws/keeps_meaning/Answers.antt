use Rattle.check_insertion.proofs.Insertions.{keeps_meaning}
use Rattle.check_insertion.proofs.laws.keeps_meaning.Goals as goal

pub returns : goal.returns
returns c = keeps_meaning
