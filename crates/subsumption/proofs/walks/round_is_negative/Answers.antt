use Rattle.std.proofs.Common.{rules}
use Rattle.subsumption.proofs.walks.round_is_negative.Goals as goal

pub overflow_add-result : goal.overflow_add-result
overflow_add-result c = search rules

pub returns-in-Some : goal.returns-in-Some
returns-in-Some c = search rules
