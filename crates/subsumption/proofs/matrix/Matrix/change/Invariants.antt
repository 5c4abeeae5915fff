use Rattle.subsumption.specs.Matrices.{changed, IsChanged}
use Rattle.subsumption.proofs.Matrices.{ShowsNear}
use Rattle.subsumption.proofs.matrix.Matrix.change.Given as goal

abbrev pub invariant-loop-i : goal.invariant-loop-i
invariant-loop-i l = record {
  steps : IsChanged (changed l.change l.fn.self) l.fn.self l.self l.i;
  near : ShowsNear l.all_near (changed l.change l.fn.self) l.fn.self.n l.i;
}
