use Rattle.std.proofs.lemmas.Grind.{common_steps}
use Rattle.std.proofs.Common.{false, subst, sym, rules, arith}
use Rattle.std.proofs.lemmas.List.{length-set}
use Rattle.bounds_flow.specs.declared.changes.Change.TheVariants.{Leave}
use Rattle.bounds_flow.specs.Conditions.{IsHeldBelow}
use Rattle.bounds_flow.proofs.Variables.{none_below, passed, placed, recounted, refilled, renumbered}
use Rattle.bounds_flow.proofs.flow.Flow.leave.Goals as goal

pub invariant_of-self-2 : goal.invariant_of-self-2
invariant_of-self-2 c =
    let flow = c.self.inside in
    let vars = flow.facts.vars in
    let assigned = flow.assigned.items in
    let is = passed vars flow.held.items c.deref_mut.result.now c.change_all.new.held assigned c.deref.result.now (Leave c.args.var) c.self.invariant c.deref_mut.ensures.value c.change_all.ensures in
    let below = subst (IsHeldBelow vars) (sym c.nothing.ensures) (none_below vars) in
    let left = placed vars _ assigned c.args.var c.nothing.result (refilled vars flow.held c.change_all.new.held assigned c.self.invariant is) below in
    recounted vars _ _ _ c.in_ok-kill.ensures.ok.vars (renumbered vars _ assigned _ left (length-set assigned c.args.var false))

pub invariant_of-self : goal.invariant_of-self
invariant_of-self c = search rules

pub returns-in_err-kill-clause-ok : goal.returns-in_err-kill-clause-ok
returns-in_err-kill-clause-ok c = search rules

pub returns-in_err-kill-clause-err : goal.returns-in_err-kill-clause-err
returns-in_err-kill-clause-err c = search rules

pub index_mut-requires : goal.index_mut-requires
index_mut-requires c = search rules

pub index_mut-requires-2 : goal.index_mut-requires-2
index_mut-requires-2 c = search rules

pub returns-clause-ok : goal.returns-clause-ok
returns-clause-ok c = grind (arith, common_steps)
