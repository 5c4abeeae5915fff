use Rattle.std.proofs.Common.{subst}
use Rattle.bounds_flow.specs.Flows.{Knowledge}
use Rattle.bounds_flow.specs.Conditions.{AnswersBy}
use Rattle.bounds_flow.proofs.Answers.{answers_by}
use Rattle.bounds_flow.proofs.flow.Flow.entails.Goals as goal

pub returns-clause-answers : goal.returns-clause-answers
returns-clause-answers c =
    let flow = c.self.inside in
    let P : Knowledge → Type 0 = λ f. AnswersBy f c.args.a.now c.args.b.now c.in_ok-answer.answer in
    subst P c.self.view_is (answers_by flow.facts flow.held.items flow.assigned.items flow.bundled c.args.a.now c.args.b.now c.in_ok-answer.answer c.is_narrow.ensures.shows c.in_ok-answer.ensures.answers)
