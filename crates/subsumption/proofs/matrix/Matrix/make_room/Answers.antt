use Rattle.std.proofs.Common.{◌<◌, ◌≡◌, false, sym, subst, ◌∙◌, ap}
use Rattle.std.specs.Prelude.{slice_set}
use Rattle.subsumption.specs.Squares.{Cells, is_open, line}
use Rattle.subsumption.specs.Matrices.{Opens}
use Rattle.subsumption.proofs.Matrices.{open_at}
use Rattle.subsumption.proofs.matrix.Matrix.make_room.Goals as goal

pub returns-in_ok-self-inside-clause-ok : goal.returns-in_ok-self-inside-clause-ok
returns-in_ok-self-inside-clause-ok c =
    let m : Cells = record { n = c.self.inside.n; rows = c.self.inside.rows.items } in
    let new : Cells = record { n = c.self.inside.n; rows = slice_set c.self.inside.rows.items c.args.i c.in_ok-self-inside.field-0 } in
    let shut : is_open (line m c.args.i) ≡ false = ap (λ m. is_open (line m c.args.i)) c.self.view_is ∙ (sym c.is_open.ensures ∙ c.if-not-is_open.true) in
    subst (λ m. Opens m c.args.i new) c.self.view_is (open_at m new c.args.i c.self.invariant (subst (λ (m : Cells). c.args.i < m.n) (sym c.self.view_is) c.requires) shut (ap (λ l. record { n = c.self.inside.n; rows = slice_set c.self.inside.rows.items c.args.i l }) c.in_ok-self-inside.ensures))
