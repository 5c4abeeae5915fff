use Rattle.std.proofs.Common.{rules}
use Rattle.subsumption.proofs.matrix.Matrix.turned.Goals as goal

pub step-requires-clause-i : goal.step-requires-clause-i
step-requires-clause-i c = search rules

pub step-requires-clause-j : goal.step-requires-clause-j
step-requires-clause-j c = search rules

pub step-requires-in-Reach-clause-i : goal.step-requires-in-Reach-clause-i
step-requires-in-Reach-clause-i c = search rules

pub step-requires-in-Reach-clause-j : goal.step-requires-in-Reach-clause-j
step-requires-in-Reach-clause-j c = search rules

pub through-requires-clause-plus : goal.through-requires-clause-plus
through-requires-clause-plus c = search rules

pub through-requires-clause-behind : goal.through-requires-clause-behind
through-requires-clause-behind c = search rules

pub killed-requires-clause-i : goal.killed-requires-clause-i
killed-requires-clause-i c = search rules

pub killed-requires-clause-j : goal.killed-requires-clause-j
killed-requires-clause-j c = search rules

pub step-requires-in-Gain-clause-i : goal.step-requires-in-Gain-clause-i
step-requires-in-Gain-clause-i c = search rules

pub step-requires-in-Gain-clause-j : goal.step-requires-in-Gain-clause-j
step-requires-in-Gain-clause-j c = search rules

pub more-requires-clause-near : goal.more-requires-clause-near
more-requires-clause-near c = search rules

pub more-requires-clause-gain : goal.more-requires-clause-gain
more-requires-clause-gain c = search rules

pub returns-in-Reach : goal.returns-in-Reach
returns-in-Reach c = search rules

pub returns-in-Forget : goal.returns-in-Forget
returns-in-Forget c = search rules

pub returns-in-Gain : goal.returns-in-Gain
returns-in-Gain c = search rules
