use Rattle.std.proofs.Common.{◌≤◌, ◌≡◌, true}
use Rattle.subsumption.specs.Squares.{is_open, line}
use Rattle.subsumption.specs.Matrices.{IsRowChanged, ShowsRow, turned}
use Rattle.subsumption.proofs.matrix.Matrix.turn_row.Given as goal

abbrev pub invariant-loop-j : goal.invariant-loop-j
invariant-loop-j l = record {
  within : l.j ≤ l.fn.self.n;
  steps : IsRowChanged (turned l.turn l.fn.self l.i) l.fn.self l.self l.i l.j;
  ready : is_open (line l.self l.i) ≡ true;
  near : ShowsRow l.all_near (turned l.turn l.fn.self l.i) l.j;
}
