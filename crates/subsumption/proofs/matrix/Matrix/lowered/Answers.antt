use Rattle.std.proofs.Common.{◌+◌, ◌≤◌, refl, sym, subst, arith}
use Rattle.std.specs.Int.{w128}
use Rattle.std.proofs.Common.{to_z, of_z}
use Rattle.subsumption.specs.declared.matrix.Columns.{Columns}
use Rattle.subsumption.specs.Matrices.{LeavesOut, lowers}
use Rattle.subsumption.proofs.Matrices.{columns_more, left_more}
use Rattle.subsumption.proofs.matrix.Matrix.lowered.Goals as goal

pub loop-j-preserved : goal.loop-j-preserved
loop-j-preserved c =
    let test = lowers c.args.x c.args.y (to_z w128 (of_z w128 c.args.c)) c.args.self.now in
    let lt = c.loop-j-test.true in
    let more = columns_more c.size-n.result c.loop-j.j c.loop-j.columns (test c.loop-j.j) (omega (arith, lt)) c.loop-j.invariant.from c.loop-j.invariant.to in
    record {
      from = subst (λ (columns : Columns). columns.from ≤ c.size-n.result) (sym c.widened-columns.ensures) more.0;
      to = subst (λ (columns : Columns). columns.to ≤ c.loop-j.j + 1) (sym c.widened-columns.ensures) more.1;
      others = subst (λ (columns : Columns). LeavesOut test (c.loop-j.j + 1) columns) (sym c.widened-columns.ensures) (left_more test c.loop-j.j c.loop-j.columns (test c.loop-j.j) refl c.loop-j.invariant.to c.loop-j.invariant.others);
    }
