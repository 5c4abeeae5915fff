use Rattle.std.proofs.Common.{◌≤◌}
use Rattle.subsumption.specs.Matrices.{LeavesOut, lowers}
use Rattle.subsumption.proofs.matrix.Matrix.lowered.Given as goal

abbrev pub invariant-loop-j : goal.invariant-loop-j
invariant-loop-j l = record {
  from : l.columns.from ≤ l.n;
  to : l.columns.to ≤ l.j;
  others : LeavesOut (lowers l.x l.y l.c l.self) l.j l.columns;
}
