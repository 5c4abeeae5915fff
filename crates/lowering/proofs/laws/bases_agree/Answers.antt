use Rattle.lowering.proofs.Bases.{bases_agree}
use Rattle.lowering.proofs.laws.bases_agree.Goals as goal

pub returns : goal.returns
returns c = bases_agree
