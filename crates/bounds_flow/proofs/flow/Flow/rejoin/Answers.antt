use Rattle.std.proofs.Common.{◌≡◌, ℕ, List, ap, subst, sym, ◌∙◌}
use Rattle.bounds_flow.specs.declared.held.Held.{Held}
use Rattle.bounds_flow.specs.Flows.{Knowledge}
use Rattle.bounds_flow.specs.Conditions.{AreOfVariables}
use Rattle.bounds_flow.proofs.Variables.{recounted, refilled, rejoined_of}
use Rattle.bounds_flow.proofs.flow.Flow.rejoin.Goals as goal

pub invariant_of-self-2 : goal.invariant_of-self-2
invariant_of-self-2 c =
    let flow = c.self.inside in
    let earlier = c.before-2.inside in
    let vars = flow.facts.vars in
    let assigned = flow.assigned.items in
    let since = earlier.assigned.items in
    let count : Knowledge → ℕ = λ f. f.vars in
    let same : earlier.facts.vars ≡ vars = ap count c.before-2.view_is ∙ (c.requires.before ∙ sym (ap count c.self.view_is)) in
    let P : List Held → Type 0 = λ l. AreOfVariables vars l since in
    let Q : List Held → Type 0 = λ l. AreOfVariables vars l assigned in
    let was : P c.deref-2.result.now = subst P (sym c.deref-2.ensures.value) (recounted earlier.facts.vars vars _ _ (sym same) c.before-2.invariant) in
    let lent : Q c.deref_mut.result.now = subst Q (sym c.deref_mut.ensures.value) c.self.invariant in
    let met : Q c.rejoin_all.new.held = subst Q (sym c.rejoin_all.ensures) (rejoined_of vars c.deref-2.result.now c.deref_mut.result.now c.deref.result.now since assigned was lent) in
    recounted vars _ _ _ c.in_ok-join.ensures.ok.vars (refilled vars flow.held c.rejoin_all.new.held assigned c.self.invariant met)
