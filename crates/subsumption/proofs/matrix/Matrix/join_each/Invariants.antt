use Rattle.std.proofs.Common.{◌≡◌, true}
use Rattle.subsumption.specs.Squares.{is_open, line}
use Rattle.subsumption.specs.Matrices.{IsRowChanged, joined_step}
use Rattle.subsumption.proofs.matrix.Matrix.join_each.Given as goal

abbrev pub invariant-loop-j : goal.invariant-loop-j
invariant-loop-j l = record {
  steps : IsRowChanged (joined_step l.fn.self l.other l.i) l.fn.self l.self l.i l.j;
  ready : is_open (line l.self l.i) ≡ true;
}
