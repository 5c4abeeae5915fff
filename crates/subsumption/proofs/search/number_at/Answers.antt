use Rattle.std.proofs.Common.{rules}
use Rattle.subsumption.proofs.search.number_at.Goals as goal

pub overflow_add-i : goal.overflow_add-i
overflow_add-i c = search rules

pub offset_bounds-distances-i : goal.offset_bounds-distances-i
offset_bounds-distances-i c = search rules

pub bounds-distances-i : goal.bounds-distances-i
bounds-distances-i c = search rules

pub bounds-distances-0 : goal.bounds-distances-0
bounds-distances-0 c = search rules

pub difference-requires-clause-a : goal.difference-requires-clause-a
difference-requires-clause-a c = search rules

pub difference-requires-clause-b : goal.difference-requires-clause-b
difference-requires-clause-b c = search rules

pub returns : goal.returns
returns c = search rules
