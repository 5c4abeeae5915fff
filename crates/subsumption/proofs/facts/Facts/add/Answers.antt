use Rattle.std.proofs.Common.{◌^◌, ◌≡◌, ◌++◌, [], ◌∷◌, true, FitsSigned, refl, sym, subst, ◌∙◌, rules}
use Rattle.std.specs.Int.{w128}
use Rattle.std.specs.List.{All, Contains}
use Rattle.std.proofs.lemmas.Int.{to_z-of_z}
use Rattle.subsumption.specs.declared.fact.Fact.{Fact}
use Rattle.subsumption.specs.Graphs.{IsWithin}
use Rattle.subsumption.specs.Facts.{Entails, IsAbout, IsBelow, fact_of}
use Rattle.subsumption.specs.Tables.{Becomes, Table}
use Rattle.subsumption.specs.ClosedTables.{Contradiction, with_fact}
use Rattle.subsumption.specs.MatrixPaths.{table_by}
use Rattle.subsumption.proofs.KeptTables.{add_becomes, add_table, broken_more, contradicted, contradicted_among, contradicted_table, front_among, kept_after, named_below, view}
use Rattle.subsumption.proofs.facts.Facts.add.Goals as goal
use Rattle.subsumption.proofs.facts.Facts.add.Goals.{In_ok-contradiction, In_ok-add}

-- a fact about terms whose variables are those of the table is about them
about_terms : (t u : Table) (f g : Fact) → t ≡ u → f ≡ g → IsBelow u.vars g.left → IsBelow u.vars g.right → IsAbout t.vars f
about_terms t u f g e h left right = subst (λ f. IsAbout t.vars f) (sym h) (subst (λ t. IsAbout t.vars g) (sym e) (record { left = left; right = right }))

pub returns-then-self-clause-ok : goal.returns-then-self-clause-ok
returns-then-self-clause-ok c =
    let f = fact_of c.args.a c.args.b in
    let about : IsAbout c.self.inside.vars f = about_terms _ _ f f c.self.view_is refl c.requires.a_below c.requires.b_below in
    let P : Table → Type 0 = λ t. Becomes t (Entails (t.facts ++ f ∷ [])) t in
    subst P c.self.view_is (add_becomes _ _ _ _ _ _ _ c.self.invariant c.self.invariant f about (broken_more c.self.inside.vars f c.self.inside.broken c.self.inside.matrix c.if-self.true))

pub returns-then-self-clause-path : goal.returns-then-self-clause-path
returns-then-self-clause-path c = λ e. front_among c.args.self.now.facts (fact_of c.args.a c.args.b)

pub returns-then-contradicts-clause-table : goal.returns-then-contradicts-clause-table
returns-then-contradicts-clause-table c =
    let f = c.fact_from-fact.result in
    let about : IsAbout c.self.inside.vars f = about_terms _ _ f _ c.self.view_is c.fact_from-fact.ensures.value c.requires.a_below c.requires.b_below in
    let left = named_below c.self.inside.vars c.self.inside.matrix f.left c.self.invariant.size about.left in
    let right = named_below c.self.inside.vars c.self.inside.matrix f.right c.self.invariant.size about.right in
    let P : Table → Fact → Type 0 = λ t f. Contradiction ≡ with_fact t.vars f t.table in
    let here = contradicted_table c.self.inside.vars c.self.inside.matrix f c.self.inside.path.items _ c.if-self.false c.self.invariant left right (sym c.contradicts.ensures ∙ c.if-contradicts.true) in
    subst (λ t. P t (fact_of c.args.a c.args.b)) c.self.view_is (subst (P (view c.self.inside.vars c.self.inside.broken c.self.inside.path.items c.self.inside.matrix)) c.fact_from-fact.ensures.value here)

pub invariant_of-self-then-contradicts : goal.invariant_of-self-then-contradicts
invariant_of-self-then-contradicts c = contradicted c.self.inside.vars c.self.inside.matrix c.fact_from-fact.result _ _ _ c.self.invariant c.in_ok-contradiction.ensures

pub returns-then-contradicts-clause-ok : goal.returns-then-contradicts-clause-ok
returns-then-contradicts-clause-ok c =
    let f = c.fact_from-fact.result in
    let about : IsAbout c.self.inside.vars f = about_terms _ _ f _ c.self.view_is c.fact_from-fact.ensures.value c.requires.a_below c.requires.b_below in
    let left = named_below c.self.inside.vars c.self.inside.matrix f.left c.self.invariant.size about.left in
    let right = named_below c.self.inside.vars c.self.inside.matrix f.right c.self.invariant.size about.right in
    let table = contradicted_table c.self.inside.vars c.self.inside.matrix f c.self.inside.path.items _ c.if-self.false c.self.invariant left right (sym c.contradicts.ensures ∙ c.if-contradicts.true) in
    let after = contradicted c.self.inside.vars c.self.inside.matrix f _ _ _ c.self.invariant c.in_ok-contradiction.ensures in
    let P : Table → Fact → Type 0 = λ t f. Becomes t (Entails (t.facts ++ f ∷ [])) (view c.self.inside.vars true c.contradiction.new.path.items c.self.inside.matrix) in
    subst (λ t. P t (fact_of c.args.a c.args.b)) c.self.view_is (subst (P (view c.self.inside.vars c.self.inside.broken c.self.inside.path.items c.self.inside.matrix)) c.fact_from-fact.ensures.value
    (add_becomes _ _ _ _ _ _ _ c.self.invariant after f about table))

pub returns-then-contradicts-clause-path : goal.returns-then-contradicts-clause-path
returns-then-contradicts-clause-path c = λ e.
    let P : Table → Fact → Type 0 = λ t f. All (Contains (t.facts ++ f ∷ [])) c.contradiction.new.path.items in
    subst (λ t. P t (fact_of c.args.a c.args.b)) c.self.view_is (subst (P (view c.self.inside.vars c.self.inside.broken c.self.inside.path.items c.self.inside.matrix)) c.fact_from-fact.ensures.value
    (contradicted_among c.self.inside.matrix c.fact_from-fact.result _ c.self.inside.path.items _ c.if-self.false c.in_ok-contradiction.ensures))

-- the table after a fact that can be met
table_here : (c : In_ok-add) → table_by c.self.inside.broken c.add.new.self ≡ with_fact c.self.inside.vars c.fact_from-fact.result (table_by c.self.inside.broken c.self.inside.matrix)
table_here c =
    let f = c.fact_from-fact.result in
    let about : IsAbout c.self.inside.vars f = about_terms _ _ f _ c.self.view_is c.fact_from-fact.ensures.value c.requires.a_below c.requires.b_below in
    let left = named_below c.self.inside.vars c.self.inside.matrix f.left c.self.invariant.size about.left in
    let right = named_below c.self.inside.vars c.self.inside.matrix f.right c.self.invariant.size about.right in
    let small : IsWithin (2 ^ 66) f.plus = c.fact_from-fact.ensures.small in
    let fits : FitsSigned w128 f.plus = search rules in
    add_table c.self.inside.vars c.self.inside.path.items c.self.inside.matrix c.add.new.self c.self.inside.broken f _ _ _ c.if-self.false c.self.invariant c.node.ensures c.node-2.ensures (to_z-of_z w128 f.plus fits) left right (sym c.contradicts.ensures ∙ c.if-contradicts.false) c.in_ok-add.ensures.table

pub returns-clause-table : goal.returns-clause-table
returns-clause-table c =
    let P : Table → Fact → Type 0 = λ t f. table_by c.self.inside.broken c.add.new.self ≡ with_fact t.vars f t.table in
    subst (λ t. P t (fact_of c.args.a c.args.b)) c.self.view_is (subst (P (view c.self.inside.vars c.self.inside.broken c.self.inside.path.items c.self.inside.matrix)) c.fact_from-fact.ensures.value (table_here c))

pub returns-clause-ok : goal.returns-clause-ok
returns-clause-ok c =
    let f = c.fact_from-fact.result in
    let about : IsAbout c.self.inside.vars f = about_terms _ _ f _ c.self.view_is c.fact_from-fact.ensures.value c.requires.a_below c.requires.b_below in
    let after = kept_after _ _ _ _ _ c.if-self.false c.self.invariant c.in_ok-add.ensures.size c.in_ok-add.ensures.canonical in
    let P : Table → Fact → Type 0 = λ t f. Becomes t (Entails (t.facts ++ f ∷ [])) (view c.self.inside.vars c.self.inside.broken c.self.inside.path.items c.add.new.self) in
    subst (λ t. P t (fact_of c.args.a c.args.b)) c.self.view_is (subst (P (view c.self.inside.vars c.self.inside.broken c.self.inside.path.items c.self.inside.matrix)) c.fact_from-fact.ensures.value
    (add_becomes _ _ _ _ _ _ _ c.self.invariant after f about (table_here c)))

pub contradiction-requires-clause-left : goal.contradiction-requires-clause-left
contradiction-requires-clause-left c = search rules

pub contradiction-requires-clause-right : goal.contradiction-requires-clause-right
contradiction-requires-clause-right c = search rules

pub contradiction-requires-clause-canonical : goal.contradiction-requires-clause-canonical
contradiction-requires-clause-canonical c = search rules

pub invariant_of-self : goal.invariant_of-self
invariant_of-self c = search rules

pub returns-in_err-contradiction-clause-ok : goal.returns-in_err-contradiction-clause-ok
returns-in_err-contradiction-clause-ok c = search rules

pub returns-in_err-contradiction-clause-table : goal.returns-in_err-contradiction-clause-table
returns-in_err-contradiction-clause-table c = search rules

pub returns-in_err-contradiction-clause-path : goal.returns-in_err-contradiction-clause-path
returns-in_err-contradiction-clause-path c = search rules

pub returns-in_err-contradiction-clause-err : goal.returns-in_err-contradiction-clause-err
returns-in_err-contradiction-clause-err c = search rules

pub add-requires-clause-placed : goal.add-requires-clause-placed
add-requires-clause-placed c = search rules

pub add-requires-clause-canonical : goal.add-requires-clause-canonical
add-requires-clause-canonical c = search rules

pub add-requires-clause-met : goal.add-requires-clause-met
add-requires-clause-met c = search rules

pub invariant_of-self-in_err-add : goal.invariant_of-self-in_err-add
invariant_of-self-in_err-add c = search rules

pub returns-in_err-add-clause-ok : goal.returns-in_err-add-clause-ok
returns-in_err-add-clause-ok c = search rules

pub returns-in_err-add-clause-table : goal.returns-in_err-add-clause-table
returns-in_err-add-clause-table c = search rules

pub returns-in_err-add-clause-path : goal.returns-in_err-add-clause-path
returns-in_err-add-clause-path c = search rules

pub returns-in_err-add-clause-err : goal.returns-in_err-add-clause-err
returns-in_err-add-clause-err c = search rules

pub invariant_of-self-2 : goal.invariant_of-self-2
invariant_of-self-2 c = search rules

pub returns-clause-path : goal.returns-clause-path
returns-clause-path c = search rules
