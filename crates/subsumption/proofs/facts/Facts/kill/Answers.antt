use Rattle.std.proofs.Common.{◌<◌, ◌≡◌, sym, subst}
use Rattle.subsumption.specs.Tables.{Becomes, FollowsWithout, Table}
use Rattle.subsumption.specs.ClosedTables.{without}
use Rattle.subsumption.specs.MatrixPaths.{table_by}
use Rattle.subsumption.proofs.KeptTables.{broken_killed, kept_after, kill_becomes, kill_table, view}
use Rattle.subsumption.proofs.facts.Facts.kill.Goals as goal

pub returns-then-self-clause-ok : goal.returns-then-self-clause-ok
returns-then-self-clause-ok c =
    let lt : c.args.var < c.self.inside.vars = subst (λ (t : Table). c.args.var < t.vars) (sym c.self.view_is) c.requires in
    let P : Table → Type 0 = λ t. Becomes t (FollowsWithout c.args.var t.facts) t in
    subst P c.self.view_is (kill_becomes _ _ _ _ _ _ _ c.self.invariant c.self.invariant c.args.var lt (broken_killed c.self.inside.vars c.args.var c.self.inside.broken c.self.inside.matrix c.if-self.true))

pub returns-clause-table : goal.returns-clause-table
returns-clause-table c =
    let P : Table → Type 0 = λ t. table_by c.self.inside.broken c.apply.new.self ≡ without t.vars c.args.var t.table in
    subst P c.self.view_is (kill_table _ c.self.inside.path.items _ _ _ _ c.if-self.false c.self.invariant c.apply.ensures.table)

pub returns-clause-ok : goal.returns-clause-ok
returns-clause-ok c =
    let lt : c.args.var < c.self.inside.vars = subst (λ (t : Table). c.args.var < t.vars) (sym c.self.view_is) c.requires in
    let table = kill_table _ c.self.inside.path.items _ _ _ _ c.if-self.false c.self.invariant c.apply.ensures.table in
    let left = kept_after _ _ _ _ _ c.if-self.false c.self.invariant c.apply.ensures.size c.apply.ensures.canonical in
    let P : Table → Type 0 = λ t. Becomes t (FollowsWithout c.args.var t.facts) (view c.self.inside.vars c.self.inside.broken c.self.inside.path.items c.apply.new.self) in
    subst P c.self.view_is (kill_becomes _ _ _ _ _ _ _ c.self.invariant left c.args.var lt table)
