use Rattle.std.proofs.Common.{◌<◌, ◌≡◌, FitsSigned, to_z, of_z, ap, sym, subst, rules, ◌∙◌}
use Rattle.std.specs.Int.{w64, w128}
use Rattle.std.proofs.lemmas.Int.{to_z-of_z}
use Rattle.subsumption.specs.Facts.{Entails}
use Rattle.subsumption.specs.Shifts.{moved}
use Rattle.subsumption.specs.Tables.{Becomes, Table}
use Rattle.subsumption.specs.ClosedTables.{shifted}
use Rattle.subsumption.specs.MatrixPaths.{table_by}
use Rattle.subsumption.proofs.KeptTables.{broken_shifted, kept_after, shift_becomes, shift_table, view}
use Rattle.subsumption.proofs.facts.Facts.shift.Goals as goal

pub returns-then-self-clause-ok : goal.returns-then-self-clause-ok
returns-then-self-clause-ok c =
    let lt : c.args.var < c.self.inside.vars = subst (λ (t : Table). c.args.var < t.vars) (sym c.self.view_is) c.requires in
    let P : Table → Type 0 = λ t. Becomes t (λ goal. Entails t.facts (moved c.args.var c.args.c goal)) t in
    subst P c.self.view_is (shift_becomes _ _ _ _ _ _ _ c.self.invariant c.self.invariant c.args.var c.args.c lt (broken_shifted c.self.inside.vars c.args.var c.args.c c.self.inside.broken c.self.inside.matrix c.if-self.true))

pub returns-clause-table : goal.returns-clause-table
returns-clause-table c =
    let P : Table → Type 0 = λ t. table_by c.self.inside.broken c.apply.new.self ≡ shifted t.vars c.args.var c.args.c t.table in
    subst P c.self.view_is (shift_table _ c.self.inside.path.items _ _ _ _ _ _ c.if-self.false (let e = to_z-of_z w64 c.args.c c.ranges.c in let fits : FitsSigned w128 c.args.c = search rules in ap (λ z. to_z w128 (of_z w128 z)) e ∙ to_z-of_z w128 c.args.c fits) c.self.invariant c.apply.ensures.table)

pub returns-clause-ok : goal.returns-clause-ok
returns-clause-ok c =
    let lt : c.args.var < c.self.inside.vars = subst (λ (t : Table). c.args.var < t.vars) (sym c.self.view_is) c.requires in
    let table = shift_table _ c.self.inside.path.items _ _ _ _ _ _ c.if-self.false (let e = to_z-of_z w64 c.args.c c.ranges.c in let fits : FitsSigned w128 c.args.c = search rules in ap (λ z. to_z w128 (of_z w128 z)) e ∙ to_z-of_z w128 c.args.c fits) c.self.invariant c.apply.ensures.table in
    let left = kept_after _ _ _ _ _ c.if-self.false c.self.invariant c.apply.ensures.size c.apply.ensures.canonical in
    let P : Table → Type 0 = λ t. Becomes t (λ goal. Entails t.facts (moved c.args.var c.args.c goal)) (view c.self.inside.vars c.self.inside.broken c.self.inside.path.items c.apply.new.self) in
    subst P c.self.view_is (shift_becomes _ _ _ _ _ _ _ c.self.invariant left c.args.var c.args.c lt table)
