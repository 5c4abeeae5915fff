use Rattle.std.proofs.lemmas.Grind.{common_steps}
use Rattle.std.proofs.lemmas.Bool.Decides.{nat_tests}
use Rattle.std.proofs.Common.{List, subst, sym, rules, arith}
use Rattle.std.specs.Vec.{with_items}
use Rattle.bounds_flow.specs.declared.held.Held.{Held}
use Rattle.bounds_flow.specs.declared.changes.Change.TheVariants.{Head}
use Rattle.bounds_flow.specs.Conditions.{AreOfVariables}
use Rattle.bounds_flow.proofs.Variables.{forgotten, passed, recounted, refilled}
use Rattle.bounds_flow.proofs.flow.Flow.enter_loop.Goals as goal

pub invariant_of-self-2 : goal.invariant_of-self-2
invariant_of-self-2 c =
    let flow = c.self.inside in
    let vars = flow.facts.vars in
    let assigned = flow.assigned.items in
    let is = passed vars flow.held.items c.deref_mut.result.now c.change_all.new.held assigned c.deref.result.now Head c.self.invariant c.deref_mut.ensures.value c.change_all.ensures in
    let filled = refilled vars flow.held c.change_all.new.held assigned c.self.invariant is in
    let Q : List Held → Type 0 = λ l. AreOfVariables vars l assigned in
    let lent : Q c.deref_mut-2.result.now = subst Q (sym c.deref_mut-2.ensures.value) filled in
    let left : Q c.forget_all.new.held = subst Q (sym c.forget_all.ensures) (forgotten vars c.deref_mut-2.result.now assigned c.args.assigned.now lent) in
    recounted vars _ _ _ c.in_ok-kill_all.ensures.vars (refilled vars (with_items flow.held c.change_all.new.held) c.forget_all.new.held assigned filled left)

pub kill_all-requires : goal.kill_all-requires
kill_all-requires c = search rules

pub invariant_of-self : goal.invariant_of-self
invariant_of-self c = grind (arith, nat_tests)

pub returns-in_err-kill_all-clause-ok : goal.returns-in_err-kill_all-clause-ok
returns-in_err-kill_all-clause-ok c = search rules

pub returns-in_err-kill_all-clause-err : goal.returns-in_err-kill_all-clause-err
returns-in_err-kill_all-clause-err c = search rules

pub forget_all-requires : goal.forget_all-requires
forget_all-requires c = search rules

pub returns-clause-ok : goal.returns-clause-ok
returns-clause-ok c = grind (arith, common_steps)
