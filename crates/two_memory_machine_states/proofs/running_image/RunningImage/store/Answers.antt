use Rattle.std.proofs.lemmas.Grind.{common_steps}
use Rattle.std.proofs.Common.{◌≡◌, Some, None, true, refl, ap, ◌∙◌, arith, rules}
use Rattle.std.proofs.lemmas.Bool.Decides.{nat_tests}
use Rattle.trusted_memory.specs.Memories.{Holds}
use Rattle.code_words.specs.Table.{State, holds, store}
use Rattle.two_memory_machine_states.specs.declared.running_image.Phase.TheVariants as phases
use Rattle.two_memory_machine_states.specs.Machines.{Machine, state_of}
use Rattle.two_memory_machine_states.specs.Insides.{machine}
use Rattle.two_memory_machine_states.specs.Steps.{two_topmost}
use Rattle.two_memory_machine_states.proofs.Callers.{running}
use Rattle.two_memory_machine_states.proofs.Outcomes.{pop_2_found}
use Rattle.two_memory_machine_states.proofs.running_image.RunningImage.store.Goals as goal

pub returns : goal.returns
returns c = λ acts inputs events.
    let i = c.self.inside in
    let found : Some (c.in-Some.address, c.in-Some.word) ≡ two_topmost i.calls.frame.stack = rw (← c.self.view_is) at c.in-Some.ensures in
    let inside : Holds i.memory c.in-Some.address c.args.len = c.in_range.ensures.0 c.if-not-in_range.false in
    let s : State = state_of (machine i) acts inputs events in
    let there : holds i.memory c.in-Some.address c.args.len ≡ true = grind (arith, nat_tests, inside.0, inside.1) in
    let p : i.phase ≡ phases.Running = running i.phase (ap (λ (m : Machine). m.doing) c.self.view_is ∙ c.requires.ready.runs) in
    let going : i.over ≡ None = ap (λ (m : Machine). m.over) c.self.view_is ∙ c.requires.ready.going in
    rw (← c.self.view_is, pop_2_found i.calls.frame.stack c.in-Some.address c.in-Some.word (λ address w stack. store c.args.len address w stack i.calls.frame s) s found, there, p, c.advance.ensures, c.pop.ensures, c.store.ensures) (refl, refl, going, (refl, refl))

pub returns-in_default : goal.returns-in_default
returns-in_default c = search rules

pub returns-then-not-in_range : goal.returns-then-not-in_range
returns-then-not-in_range c = search rules

pub store-requires-clause-inside : goal.store-requires-clause-inside
store-requires-clause-inside c = search rules

pub pop-requires : goal.pop-requires
pop-requires c = search rules

pub advance-requires : goal.advance-requires
advance-requires c = search rules

pub invariant_of-self : goal.invariant_of-self
invariant_of-self c = grind (arith, common_steps)
