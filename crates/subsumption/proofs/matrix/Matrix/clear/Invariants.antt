use Rattle.subsumption.specs.Matrices.{cleared, IsChanged}
use Rattle.subsumption.proofs.matrix.Matrix.clear.Given as goal

abbrev pub invariant-loop-i : goal.invariant-loop-i
invariant-loop-i l = IsChanged cleared l.fn.self l.self l.i
