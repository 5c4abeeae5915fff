use Rattle.std.proofs.lemmas.Grind.{common_steps}
use Rattle.std.proofs.Common.{List, false, ap, length, subst, sym, ◌∙◌, rules, arith}
use Rattle.std.proofs.lemmas.List.{length-map}
use Rattle.bounds_flow.specs.declared.held.Held.{Held}
use Rattle.bounds_flow.specs.declared.changes.Change.TheVariants.{Settle}
use Rattle.bounds_flow.specs.Flows.{Knowledge}
use Rattle.bounds_flow.specs.Settling.{Answers}
use Rattle.bounds_flow.proofs.Variables.{filled_length, passed, refilled, renumbered}
use Rattle.bounds_flow.proofs.flow.Flow.settle.Goals as goal

pub invariant_of-self : goal.invariant_of-self
invariant_of-self c =
    let flow = c.self.inside in
    let vars = flow.facts.vars in
    let assigned = flow.assigned.items in
    let is = passed vars flow.held.items c.deref_mut.result.now c.change_all.new.held assigned c.deref-in-Kept.result.now Settle c.self.invariant c.deref_mut.ensures.value c.change_all.ensures in
    let cleared = ap length c.clear.ensures ∙ (length-map c.deref_mut-in-Kept.result.now (λ was. false) ∙ (ap length c.deref_mut-in-Kept.ensures.value ∙ c.self.invariant.numbers)) in
    let size = filled_length vars flow.assigned c.clear.new.assigned c.self.invariant.numbers cleared in
    renumbered vars _ assigned _ (refilled vars flow.held c.change_all.new.held assigned c.self.invariant is) (size ∙ sym c.self.invariant.numbers)

pub returns-clause-answers : goal.returns-clause-answers
returns-clause-answers c =
    let flow = c.self.inside in
    let P : List Held → Type 0 = λ l. Answers flow.facts.vars flow.facts.table l c.in_ok-answer.answer in
    let Q : Knowledge → Type 0 = λ f. Answers f.vars f.facts f.held c.in_ok-answer.answer in
    subst Q c.self.view_is (subst P c.deref.ensures.value c.in_ok-answer.ensures)

pub first_unmet-requires-clause-below : goal.first_unmet-requires-clause-below
first_unmet-requires-clause-below c = search rules

pub returns-in_err-answer-clause-answers : goal.returns-in_err-answer-clause-answers
returns-in_err-answer-clause-answers c = search rules

pub returns-in_err-answer-clause-after : goal.returns-in_err-answer-clause-after
returns-in_err-answer-clause-after c = search rules

pub returns-in_err-answer-clause-err : goal.returns-in_err-answer-clause-err
returns-in_err-answer-clause-err c = search rules

pub returns-clause-after : goal.returns-clause-after
returns-clause-after c = grind (arith, common_steps)
