use Rattle.lowering.proofs.Weights.{code_short}
use Rattle.lowering.proofs.laws.short_code.Goals as goal

pub returns : goal.returns
returns c = code_short
