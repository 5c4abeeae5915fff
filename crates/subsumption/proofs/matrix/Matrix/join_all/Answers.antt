use Rattle.std.proofs.Common.{◌<◌, arith}
use Rattle.subsumption.proofs.Matrices.{changed_more, joined_same, row_by}
use Rattle.subsumption.proofs.matrix.Matrix.join_all.Goals as goal

pub loop-i-preserved : goal.loop-i-preserved
loop-i-preserved c =
    let lt : c.loop-i.i < c.args.self.now.n = (let size = c.size-n.ensures.value in let test = c.loop-i-test.true in omega (arith, size, test)) in
    changed_more _ _ _ _ _ c.loop-i.invariant (row_by _ _ _ _ _ (λ j lj. joined_same _ _ c.args.other.now _ lt c.loop-i.invariant j) c.join_row.ensures)
