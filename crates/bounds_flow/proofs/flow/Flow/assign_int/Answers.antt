use Rattle.std.proofs.Common.{◌≡◌, true, map, sym, ap, ◌∙◌}
use Rattle.std.proofs.lemmas.List.{length-set}
use Rattle.bounds_flow.specs.Flows.{Knowledge, number_assigned, number_held}
use Rattle.bounds_flow.specs.Changes.{changed}
use Rattle.bounds_flow.proofs.Answers.{number_made}
use Rattle.bounds_flow.proofs.Variables.{passed, recounted, refilled, refilled_is, renumbered}
use Rattle.bounds_flow.proofs.flow.Flow.assign_int.Goals as goal

pub invariant_of-self-2 : goal.invariant_of-self-2
invariant_of-self-2 c =
    let flow = c.self.inside in
    let vars = flow.facts.vars in
    let assigned = flow.assigned.items in
    let is = passed vars flow.held.items c.deref_mut.result.now c.change_all.new.held assigned c.deref.result.now c.number_change.result c.self.invariant c.deref_mut.ensures.value c.change_all.ensures in
    let filled = refilled vars flow.held c.change_all.new.held assigned c.self.invariant is in
    recounted vars _ _ _ c.in_ok-assign_number.ensures.vars (renumbered vars _ assigned _ filled (length-set assigned c.args.var true))

pub returns-clause-ok : goal.returns-clause-ok
returns-clause-ok c =
    let flow = c.self.inside in
    let vars = flow.facts.vars in
    let assigned = flow.assigned.items in
    let is = passed vars flow.held.items c.deref_mut.result.now c.change_all.new.held assigned c.deref.result.now c.number_change.result c.self.invariant c.deref_mut.ensures.value c.change_all.ensures in
    let since = c.deref.result.now in
    let made : c.change_all.new.held ≡ map (changed since c.number_change.result) flow.held.items =
    c.change_all.ensures ∙ ap (λ l. map (changed since c.number_change.result) l) c.deref_mut.ensures.value in
    let held = refilled_is vars flow.held c.change_all.new.held assigned c.self.invariant is
    ∙ (made ∙ (sym (c.number_change.ensures.change since flow.held.items) ∙ ap (λ s. number_held c.args.var c.args.to s flow.held.items) c.deref.ensures.value)) in
    number_made vars _ flow.facts.table _ flow.held.items _ assigned flow.bundled c.args.var c.args.to c.in_ok-assign_number.ensures.vars c.in_ok-assign_number.ensures.table held
    ∙ ap (λ (f : Knowledge). number_assigned c.args.var c.args.to f) c.self.view_is
