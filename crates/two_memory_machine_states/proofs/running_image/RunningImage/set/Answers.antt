use Rattle.std.proofs.lemmas.Grind.{elements}
use Rattle.std.proofs.lemmas.Bool.Decides.{nat_tests}
use Rattle.std.proofs.Common.{◌≡◌, Some, None, true, nat_lt, length, refl, sym, ap, ◌∙◌, rules, arith}
use Rattle.std.specs.Prelude.{slice_get}
use Rattle.two_memory_machine_states.specs.declared.running_image.Phase.TheVariants as phases
use Rattle.two_memory_machine_states.specs.Machines.{Machine}
use Rattle.two_memory_machine_states.proofs.Callers.{running}
use Rattle.two_memory_machine_states.proofs.Outcomes.{pop_found}
use Rattle.two_memory_machine_states.proofs.running_image.RunningImage.set.Goals as goal

pub returns : goal.returns
returns c = λ f here acts inputs events.
    let i = c.self.inside in
    let found : Some c.in-Some.word ≡ slice_get i.calls.frame.stack 0 = rw (← c.self.view_is) at c.in-Some.ensures in
    let there : nat_lt c.args.slot (length i.calls.frame.slots) ≡ true = sym c.set.ensures.there ∙ c.if-not-set.false in
    let p : i.phase ≡ phases.Running = running i.phase (ap (λ (m : Machine). m.doing) c.self.view_is ∙ c.requires.runs) in
    let going : i.over ≡ None = ap (λ (m : Machine). m.over) c.self.view_is ∙ c.requires.going in
    rw (← c.self.view_is, pop_found i.calls.frame.stack c.in-Some.word _ _ found, there, p, c.advance.ensures, c.pop.ensures, c.set.ensures.after, c.if-not-set.false) (refl, refl, going, (refl, refl))

pub returns-in_default : goal.returns-in_default
returns-in_default c = search rules

pub invariant_of-self : goal.invariant_of-self
invariant_of-self c = grind (arith, nat_tests)

pub returns-then-not-set : goal.returns-then-not-set
returns-then-not-set c = search rules

pub pop-requires : goal.pop-requires
pop-requires c = grind (arith, elements)

pub invariant_of-self-2 : goal.invariant_of-self-2
invariant_of-self-2 c = grind (arith, nat_tests)
