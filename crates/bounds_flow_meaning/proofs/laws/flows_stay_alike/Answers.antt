use Rattle.bounds_flow_meaning.proofs.Beside.{flows_stay_alike}
use Rattle.bounds_flow_meaning.proofs.laws.flows_stay_alike.Goals as goal

pub returns : goal.returns
returns c = flows_stay_alike
