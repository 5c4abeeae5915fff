use Rattle.bounds_exprs.proofs.Steps.{terms_agree}
use Rattle.bounds_exprs.proofs.laws.terms_agree.Goals as goal

pub returns : goal.returns
returns c = terms_agree
