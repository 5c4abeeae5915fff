use Rattle.std.proofs.Common.{ℤ, ◌≡◌, ◌∙◌, subst}
use Rattle.std.specs.Int.{w128}
use Rattle.std.proofs.lemmas.Int.{to_z-of_z}
use Rattle.subsumption.specs.ClosedTables.{added, rows_of}
use Rattle.subsumption.specs.Matrices.{constants_of}
use Rattle.subsumption.specs.MatrixPaths.{guarded_rows}
use Rattle.subsumption.proofs.MatrixSteps.{added_same, canonical_same}
use Rattle.subsumption.proofs.matrix.Matrix.add.Goals as goal

pub apply-requires-clause-canonical : goal.apply-requires-clause-canonical
apply-requires-clause-canonical c = canonical_same _ _ c.in_ok-make_room.ensures.ok.size c.in_ok-make_room.ensures.ok.same c.requires.canonical

pub returns-clause-table : goal.returns-clause-table
returns-clause-table c =
    let P : ℤ → Type 0 = λ z. rows_of c.apply.new.self.n (constants_of c.apply.new.self) ≡ guarded_rows c.args.self.now.n (added c.args.x c.args.y z (constants_of c.args.self.now)) in
    subst P (to_z-of_z w128 c.args.c c.ranges.c) (c.apply.ensures.table ∙ added_same _ _ _ _ _ c.requires.placed.0 c.requires.placed.1 c.in_ok-make_room.ensures.ok)
