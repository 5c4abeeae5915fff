use Rattle.std.proofs.Common.{List, subst, sym}
use Rattle.bounds_flow.specs.declared.held.Held.{Held}
use Rattle.bounds_flow.specs.Conditions.{AreOfVariables}
use Rattle.bounds_flow.proofs.Variables.{met_of, recounted, refilled}
use Rattle.bounds_flow.proofs.flow.Flow.join.Goals as goal

pub invariant_of-self-2 : goal.invariant_of-self-2
invariant_of-self-2 c =
    let flow = c.self.inside in
    let vars = flow.facts.vars in
    let assigned = flow.assigned.items in
    let Q : List Held → Type 0 = λ l. AreOfVariables vars l assigned in
    let lent : Q c.deref_mut.result.now = subst Q (sym c.deref_mut.ensures.value) c.self.invariant in
    let met : Q c.join_all.new.held = subst Q (sym c.join_all.ensures) (met_of vars c.deref_mut.result.now c.deref.result.now assigned lent) in
    recounted vars _ _ _ c.in_ok-join.ensures.ok.vars (refilled vars flow.held c.join_all.new.held assigned c.self.invariant met)
