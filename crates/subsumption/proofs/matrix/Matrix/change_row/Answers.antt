use Rattle.subsumption.specs.Matrices.{AreColumns, Spares, turned}
use Rattle.std.proofs.Common.{subst, sym, ◌∙◌}
use Rattle.subsumption.proofs.Matrices.{kept_near, near_by, row_by, row_near, row_same, turn_kept, turn_near, turn_open, turn_placed, turn_spares, turn_to, turned_is}
use Rattle.subsumption.proofs.matrix.Matrix.change_row.Goals as goal

pub turn_row-requires-clause-ready : goal.turn_row-requires-clause-ready
turn_row-requires-clause-ready c = turn_open _ _ c.args.change.now c.in-Some.turn c.requires.room (sym c.turn.ensures ∙ c.in-Some.is)

pub turn_row-requires-clause-placed : goal.turn_row-requires-clause-placed
turn_row-requires-clause-placed c = turn_placed _ _ c.args.change.now c.in-Some.turn c.requires.placed c.requires.near (sym c.turn.ensures ∙ c.in-Some.is)

pub turn_row-requires-clause-near : goal.turn_row-requires-clause-near
turn_row-requires-clause-near c = turn_near _ _ c.args.change.now c.in-Some.turn c.requires.near (sym c.turn.ensures ∙ c.in-Some.is)

pub returns-in-Some-clause-changed : goal.returns-in-Some-clause-changed
returns-in-Some-clause-changed c = row_by _ _ _ _ _ (λ j lj. turned_is _ _ c.args.change.now c.in-Some.turn j (sym c.turn.ensures ∙ c.in-Some.is)) c.turn_row.ensures.turned

pub returns-in-Some-clause-near : goal.returns-in-Some-clause-near
returns-in-Some-clause-near c = near_by _ _ _ _ (λ j lj. turned_is _ _ c.args.change.now c.in-Some.turn j (sym c.turn.ensures ∙ c.in-Some.is)) c.turn_row.ensures.near

pub returns-in-None-clause-changed : goal.returns-in-None-clause-changed
returns-in-None-clause-changed c = row_same _ _ _ (turn_kept _ _ c.args.change.now c.requires.keeps (sym c.turn.ensures ∙ c.in-None.is))

pub returns-in-None-clause-near : goal.returns-in-None-clause-near
returns-in-None-clause-near c = kept_near _ _ c.args.change.now c.requires.near c.requires.keeps (sym c.turn.ensures ∙ c.in-None.is)

pub turn_row-requires-clause-columns : goal.turn_row-requires-clause-columns
turn_row-requires-clause-columns c = subst (AreColumns c.args.self.now.n) (sym c.columns.ensures) (turn_to c.args.self.now c.args.i c.in-Some.turn c.args.columns c.requires.columns)

pub turn_row-requires-clause-spares : goal.turn_row-requires-clause-spares
turn_row-requires-clause-spares c =
    subst (Spares (turned c.in-Some.turn c.args.self.now c.args.i) c.args.self.now c.args.i) (sym c.columns.ensures)
    (turn_spares _ _ c.args.change.now c.in-Some.turn c.args.columns (sym c.turn.ensures ∙ c.in-Some.is) c.requires.spares)

pub turn_row-requires-clause-row : goal.turn_row-requires-clause-row
turn_row-requires-clause-row c = row_near _ _ c.args.change.now c.requires.near
