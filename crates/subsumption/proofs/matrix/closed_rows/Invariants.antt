use Rattle.std.proofs.Common.{◌≡◌, replicate}
use Rattle.subsumption.specs.Squares.{no_line}
use Rattle.subsumption.proofs.matrix.closed_rows.Given as goal

abbrev pub invariant-loop-i : goal.invariant-loop-i
invariant-loop-i l = l.rows.items ≡ replicate l._i no_line
