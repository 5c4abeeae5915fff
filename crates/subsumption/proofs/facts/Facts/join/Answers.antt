use Rattle.std.proofs.Common.{◌≡◌, ◌∙◌, ap, sym, subst, ℕ, false}
use Rattle.subsumption.specs.Tables.{Joins, Table}
use Rattle.subsumption.specs.ClosedTables.{joined}
use Rattle.subsumption.specs.MatrixPaths.{IsKeptClosed, table_by}
use Rattle.subsumption.proofs.KeptTables.{broken_joined, join_becomes, join_table, kept_after, taken_over, view}
use Rattle.subsumption.proofs.facts.Facts.join.Goals as goal

pub returns-then-self-clause-ok : goal.returns-then-self-clause-ok
returns-then-self-clause-ok c =
    let same : c.other.inside.vars ≡ c.self.inside.vars = ap (λ (t : Table). t.vars) c.other.view_is ∙ c.requires ∙ ap (λ (t : Table). t.vars) (sym c.self.view_is) in
    let other : IsKeptClosed c.self.inside.vars c.other.inside.broken c.other.inside.path.items c.other.inside.matrix = subst (λ n. IsKeptClosed n c.other.inside.broken c.other.inside.path.items c.other.inside.matrix) same c.other.invariant in
    let left = taken_over _ c.self.inside.path.items _ _ _ _ c.if-other.false c.in_ok-self-inside.ensures other in
    let table = broken_joined c.self.inside.vars c.self.inside.broken c.other.inside.broken c.self.inside.matrix c.other.inside.matrix c.in_ok-self-inside.field-0 c.if-self.true c.if-other.false c.in_ok-self-inside.ensures in
    let P : Table → Type 0 = λ t. Joins t (view c.self.inside.vars c.other.inside.broken c.other.inside.path.items c.other.inside.matrix) (view c.self.inside.vars false c.self.inside.path.items c.in_ok-self-inside.field-0) in
    let R : ℕ → Type 0 = λ n. Joins c.args.self.now (view n c.other.inside.broken c.other.inside.path.items c.other.inside.matrix) (view c.self.inside.vars false c.self.inside.path.items c.in_ok-self-inside.field-0) in
    let Q : Table → Type 0 = λ t. Joins c.args.self.now t (view c.self.inside.vars false c.self.inside.path.items c.in_ok-self-inside.field-0) in
    subst Q c.other.view_is (subst R (sym same) (subst P c.self.view_is (join_becomes _ _ _ _ _ _ _ c.self.invariant left _ _ _ other table)))

pub returns-clause-table : goal.returns-clause-table
returns-clause-table c =
    let same : c.other.inside.vars ≡ c.self.inside.vars = ap (λ (t : Table). t.vars) c.other.view_is ∙ c.requires ∙ ap (λ (t : Table). t.vars) (sym c.self.view_is) in
    let other : IsKeptClosed c.self.inside.vars c.other.inside.broken c.other.inside.path.items c.other.inside.matrix = subst (λ n. IsKeptClosed n c.other.inside.broken c.other.inside.path.items c.other.inside.matrix) same c.other.invariant in
    let table = join_table _ _ _ _ _ _ _ _ c.if-self.false c.if-other.false c.self.invariant other c.join.ensures.table in
    let P : Table → Type 0 = λ t. table_by c.self.inside.broken c.join.new.self ≡ joined t.vars t.table (table_by c.other.inside.broken c.other.inside.matrix) in
    let Q : Table → Type 0 = λ t. table_by c.self.inside.broken c.join.new.self ≡ joined c.args.self.now.vars c.args.self.now.table t.table in
    subst Q c.other.view_is (subst P c.self.view_is table)

pub returns-clause-ok : goal.returns-clause-ok
returns-clause-ok c =
    let same : c.other.inside.vars ≡ c.self.inside.vars = ap (λ (t : Table). t.vars) c.other.view_is ∙ c.requires ∙ ap (λ (t : Table). t.vars) (sym c.self.view_is) in
    let other : IsKeptClosed c.self.inside.vars c.other.inside.broken c.other.inside.path.items c.other.inside.matrix = subst (λ n. IsKeptClosed n c.other.inside.broken c.other.inside.path.items c.other.inside.matrix) same c.other.invariant in
    let table = join_table _ _ _ _ _ _ _ _ c.if-self.false c.if-other.false c.self.invariant other c.join.ensures.table in
    let left = kept_after _ _ _ _ _ c.if-self.false c.self.invariant c.join.ensures.size c.join.ensures.canonical in
    let after = view c.self.inside.vars c.self.inside.broken c.self.inside.path.items c.join.new.self in
    let P : Table → Type 0 = λ t. Joins t (view c.self.inside.vars c.other.inside.broken c.other.inside.path.items c.other.inside.matrix) after in
    let R : ℕ → Type 0 = λ n. Joins c.args.self.now (view n c.other.inside.broken c.other.inside.path.items c.other.inside.matrix) after in
    let Q : Table → Type 0 = λ t. Joins c.args.self.now t after in
    subst Q c.other.view_is (subst R (sym same) (subst P c.self.view_is (join_becomes _ _ _ _ _ _ _ c.self.invariant left _ _ _ other table)))
