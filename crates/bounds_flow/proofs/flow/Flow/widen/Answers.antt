use Rattle.std.proofs.Common.{◌<◌, length, subst, sym}
use Rattle.std.proofs.lemmas.List.Elements.{All-get_or}
use Rattle.bounds_flow.specs.Pointers.{with_bounds}
use Rattle.bounds_flow.specs.Flows.{Knowledge, wider}
use Rattle.bounds_flow.specs.Conditions.{IsHeldBelow}
use Rattle.bounds_flow.proofs.FlowSteps.{bounded_below, wider_below}
use Rattle.bounds_flow.proofs.Variables.{placed}
use Rattle.bounds_flow.proofs.flow.Flow.widen.Goals as goal

pub invariant_of-self : goal.invariant_of-self
invariant_of-self c =
    let flow = c.self.inside in
    let vars = flow.facts.vars in
    let own = c.index.result.now in
    let raised = wider c.args.index.now flow.facts.table own.bounds in
    let now : Knowledge → Type 0 = λ f. c.args.var < f.vars in
    let lt : c.args.var < length flow.held.items = subst (λ n. c.args.var < n) (sym c.self.invariant.pointers) (subst now (sym c.self.view_is) c.requires.below) in
    let h = subst (IsHeldBelow vars) (sym c.index.ensures) (All-get_or (IsHeldBelow vars) flow.held.items c.args.var own lt c.self.invariant.below) in
    let made = bounded_below vars raised own (wider_below vars c.args.index.now flow.facts.table own.bounds h.bounds) h in
    let after = subst (λ o. IsHeldBelow vars (with_bounds o own)) (sym c.in_ok-after.ensures) made in
    placed vars _ flow.assigned.items c.args.var c.with_bounds.result c.self.invariant (subst (IsHeldBelow vars) (sym c.with_bounds.ensures) after)
