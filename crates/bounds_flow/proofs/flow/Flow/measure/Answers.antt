use Rattle.std.proofs.Common.{◌<◌, length, subst, sym}
use Rattle.std.proofs.lemmas.List.Elements.{All-get_or}
use Rattle.bounds_flow.specs.Flows.{Knowledge}
use Rattle.bounds_flow.specs.Conditions.{IsHeldBelow}
use Rattle.bounds_flow.proofs.FlowSteps.{measured_below}
use Rattle.bounds_flow.proofs.Variables.{placed, recounted}
use Rattle.bounds_flow.proofs.flow.Flow.measure.Goals as goal

pub invariant_of-self-2 : goal.invariant_of-self-2
invariant_of-self-2 c =
    let flow = c.self.inside in
    let vars = flow.facts.vars in
    let own = c.index.result.now in
    let now : Knowledge → Type 0 = λ f. c.args.pointer < f.vars in
    let var_now : Knowledge → Type 0 = λ f. c.args.var < f.vars in
    let lt : c.args.pointer < length flow.held.items = subst (λ n. c.args.pointer < n) (sym c.self.invariant.pointers) (subst now (sym c.self.view_is) c.requires.pointer_below) in
    let h = subst (IsHeldBelow vars) (sym c.index.ensures) (All-get_or (IsHeldBelow vars) flow.held.items c.args.pointer own lt c.self.invariant.below) in
    let made = measured_below vars c.args.var c.add.new.self.table own.bounds own (subst var_now (sym c.self.view_is) c.requires.below) h.bounds h in
    recounted vars _ _ _ c.in_ok-add.ensures.ok.vars (placed vars _ flow.assigned.items c.args.pointer c.in_ok-own.own c.self.invariant (subst (IsHeldBelow vars) (sym c.in_ok-own.ensures) made))
