use Rattle.std.proofs.Common.{◌<◌, Option, subst, arith}
use Rattle.subsumption.specs.declared.row.Step.{Step}
use Rattle.subsumption.specs.Matrices.{Puts}
use Rattle.subsumption.proofs.Matrices.{join_same, row_more}
use Rattle.subsumption.proofs.matrix.Matrix.join_each.Goals as goal

pub loop-j-preserved : goal.loop-j-preserved
loop-j-preserved c =
    let lt : c.loop-j.j < c.args.self.now.n = (let size = c.size-n.ensures.value in let test = c.loop-j-test.true in omega (arith, size, test)) in
    let P : Option Step → Type 0 = λ s. Puts c.loop-j.self c.args.i c.loop-j.j s c.join_at.new.self in
    record {
      steps = row_more _ _ _ _ _ _ lt c.loop-j.invariant.steps (subst P (join_same _ _ c.args.other.now _ _ lt c.loop-j.invariant.steps) c.join_at.ensures);
      ready = c.join_at.ensures.ready;
    }
