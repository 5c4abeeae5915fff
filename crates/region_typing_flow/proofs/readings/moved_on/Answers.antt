use Rattle.std.proofs.Common.{rules}
use Rattle.region_typing_flow.proofs.readings.moved_on.Goals as goal

pub overflow_add-elements : goal.overflow_add-elements
overflow_add-elements c = search rules

pub overflow_sub-elements : goal.overflow_sub-elements
overflow_sub-elements c = search rules

pub returns-in-Forward-clause-forward : goal.returns-in-Forward-clause-forward
returns-in-Forward-clause-forward c = search rules

pub returns-in-Backward-clause-backward : goal.returns-in-Backward-clause-backward
returns-in-Backward-clause-backward c = search rules
