use Rattle.bounds_flow_meaning.proofs.AllSteps.{flows_hold}
use Rattle.bounds_flow_meaning.proofs.Steps.{entries_fit}
use Rattle.bounds_flow_meaning.proofs.Ways.{cuts_not_reached}
use Rattle.bounds_flow_meaning.proofs.laws.flows_hold.Goals as goal

pub returns-clause-entry : goal.returns-clause-entry
returns-clause-entry c = entries_fit

pub returns-clause-steps : goal.returns-clause-steps
returns-clause-steps c = flows_hold

pub returns-clause-cut : goal.returns-clause-cut
returns-clause-cut c = cuts_not_reached
