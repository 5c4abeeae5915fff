use Rattle.std.proofs.Common.{◌+◌, subst, ◌∙◌}
use Rattle.subsumption.specs.declared.fact.Fact.{Fact}
use Rattle.subsumption.specs.declared.fact.Answer.TheVariants.{Yes}
use Rattle.subsumption.specs.Facts.{AnswersFact, fact_of}
use Rattle.subsumption.specs.Tables.{Table}
use Rattle.subsumption.proofs.KeptTables.{FactsOf, broken_answer, met_answer, shows_kept, view}
use Rattle.subsumption.proofs.ShownTables.{answers_are_shown}
use Rattle.subsumption.proofs.Tables.{terms_answer}
use Rattle.subsumption.proofs.facts.Facts.entails.Goals as goal
use Rattle.subsumption.proofs.facts.Facts.entails.Goals.{In_ok-path, In_ok-answer}

broken_here : (c : In_ok-path) → AnswersFact (c.args.self.now.vars + 1) c.args.self.now.facts (fact_of c.args.a.now c.args.b.now) (Yes (record { facts = c.in_ok-path.path }))
broken_here c =
    let P : Table → Type 0 = λ t. AnswersFact (t.vars + 1) t.facts (fact_of c.args.a.now c.args.b.now) (Yes (record { facts = c.in_ok-path.path })) in
    subst P c.self.view_is (broken_answer _ _ _ _ _ (fact_of c.args.a.now c.args.b.now) c.if-self.true c.self.invariant (c.in_ok-path.ensures.items ∙ c.as_slice.ensures.value))

pub returns-then-self-clause-answers : goal.returns-then-self-clause-answers
returns-then-self-clause-answers c = terms_answer c.args.self.now c.args.a.now c.args.b.now (Yes (record { facts = c.in_ok-path.path })) (broken_here c)

pub returns-then-self-clause-table : goal.returns-then-self-clause-table
returns-then-self-clause-table c = answers_are_shown _ _ c.args.self.now.table (fact_of c.args.a.now c.args.b.now) (Yes (record { facts = c.in_ok-path.path })) (subst FactsOf c.self.view_is (shows_kept _ _ _ _ c.self.invariant)) (record { left = c.requires.a_below; right = c.requires.b_below }) (broken_here c)

met_here : (c : In_ok-answer) → AnswersFact (c.args.self.now.vars + 1) c.args.self.now.facts (fact_of c.args.a.now c.args.b.now) c.in_ok-answer.answer
met_here c =
    let P : Table → Fact → Type 0 = λ t f. AnswersFact (t.vars + 1) t.facts f c.in_ok-answer.answer in
    subst (λ t. P t (fact_of c.args.a.now c.args.b.now)) c.self.view_is (subst (P (view c.self.inside.vars c.self.inside.broken c.self.inside.path.items c.self.inside.matrix)) c.fact_from-goal.ensures.value
    (met_answer c.self.inside.vars c.self.inside.path.items c.self.inside.matrix c.self.inside.broken c.fact_from-goal.result c.in_ok-answer.answer c.if-self.false c.self.invariant c.in_ok-answer.ensures))

pub returns-clause-answers : goal.returns-clause-answers
returns-clause-answers c = terms_answer c.args.self.now c.args.a.now c.args.b.now _ (met_here c)

pub returns-clause-table : goal.returns-clause-table
returns-clause-table c = answers_are_shown _ _ c.args.self.now.table (fact_of c.args.a.now c.args.b.now) _ (subst FactsOf c.self.view_is (shows_kept _ _ _ _ c.self.invariant)) (record { left = c.requires.a_below; right = c.requires.b_below }) (met_here c)
