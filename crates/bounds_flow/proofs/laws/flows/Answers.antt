use Rattle.bounds_flow.proofs.FlowSteps.{are_kept, entail_exactly}
use Rattle.bounds_flow.proofs.laws.flows.Goals as goal

pub returns-clause-kept : goal.returns-clause-kept
returns-clause-kept c = are_kept

pub returns-clause-exact : goal.returns-clause-exact
returns-clause-exact c = entail_exactly
