use Rattle.subsumption.specs.Matrices.{joined_step, IsChanged}
use Rattle.subsumption.proofs.matrix.Matrix.join_all.Given as goal

abbrev pub invariant-loop-i : goal.invariant-loop-i
invariant-loop-i l = IsChanged (joined_step l.fn.self l.other) l.fn.self l.self l.i
