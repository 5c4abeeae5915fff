use Rattle.ckc_core.proofs.Budgets.{never_short}
use Rattle.ckc_core.proofs.laws.never_short.Goals as goal

pub returns : goal.returns
returns c = never_short
