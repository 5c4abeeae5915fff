use Rattle.bounds_flow_meaning.proofs.Calls.{calls_keep}
use Rattle.bounds_flow_meaning.proofs.laws.calls_keep_validity.Goals as goal

pub returns : goal.returns
returns c = calls_keep
