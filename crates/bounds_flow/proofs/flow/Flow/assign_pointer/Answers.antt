use Rattle.std.proofs.Common.{◌<◌, length, subst, sym}
use Rattle.std.proofs.lemmas.List.Elements.{All-get_or}
use Rattle.bounds_flow.specs.declared.changes.Change.TheVariants.{Base}
use Rattle.bounds_flow.specs.Flows.{Knowledge}
use Rattle.bounds_flow.specs.Conditions.{IsHeldBelow, IsSourceBelow}
use Rattle.bounds_flow.proofs.Pointers.{assigned_below}
use Rattle.bounds_flow.proofs.Variables.{passed, placed, refilled}
use Rattle.bounds_flow.proofs.flow.Flow.assign_pointer.Goals as goal

pub invariant_of-self : goal.invariant_of-self
invariant_of-self c =
    let flow = c.self.inside in
    let vars = flow.facts.vars in
    let change = Base c.args.var c.args.moved in
    let is = passed vars flow.held.items c.deref_mut.result.now c.change_all.new.held flow.assigned.items c.deref.result.now change c.self.invariant c.deref_mut.ensures.value c.change_all.ensures in
    let now : Knowledge → Type 0 = λ f. c.args.var < f.vars in
    let from : Knowledge → Type 0 = λ f. IsSourceBelow f.vars c.args.from.now in
    let lt : c.args.var < length flow.held.items = subst (λ n. c.args.var < n) (sym c.self.invariant.pointers) (subst now (sym c.self.view_is) c.requires.below) in
    let h = subst (IsHeldBelow vars) (sym c.index.ensures) (All-get_or (IsHeldBelow vars) flow.held.items c.args.var c.index.result.now lt c.self.invariant.below) in
    let made = assigned_below vars c.args.var c.args.from.now c.args.moved c.args.not_null c.index.result.now h (subst from (sym c.self.view_is) c.requires.from_below) in
    let below = subst (IsHeldBelow vars) (sym c.assign-own.ensures) made in
    placed vars _ flow.assigned.items c.args.var c.assign-own.result (refilled vars flow.held c.change_all.new.held flow.assigned.items c.self.invariant is) below
