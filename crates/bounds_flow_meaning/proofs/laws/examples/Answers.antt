use Rattle.bounds_flow_meaning.proofs.Examples.{counts_fit, raised_counts_hold, up_to_three}
use Rattle.bounds_flow_meaning.proofs.laws.examples.Goals as goal

pub returns-clause-valid : goal.returns-clause-valid
returns-clause-valid c = up_to_three

pub returns-clause-fit : goal.returns-clause-fit
returns-clause-fit c = counts_fit

pub returns-clause-raised : goal.returns-clause-raised
returns-clause-raised c = raised_counts_hold
