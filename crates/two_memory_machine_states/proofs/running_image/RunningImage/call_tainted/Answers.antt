use Rattle.std.proofs.Common.{◌≡◌, Some, None, true, false, nat_le, nat_lt, length, suc, refl, sym, ap, ◌∙◌, arith, rules}
use Rattle.std.specs.Prelude.{slice_get}
use Rattle.std.proofs.lemmas.Bool.Decides.{nat_tests}
use Rattle.code_words.specs.Table.{Passes}
use Rattle.two_memory_machine_memory.specs.CallStacks.{callers_of}
use Rattle.two_memory_machine_states.specs.declared.running_image.Phase.TheVariants as phases
use Rattle.two_memory_machine_states.specs.Machines.{Machine}
use Rattle.two_memory_machine_states.proofs.Callers.{item_found, running, AreTop, are_top}
use Rattle.two_memory_machine_states.proofs.Outcomes.{none_on_top}
use Rattle.two_memory_machine_states.proofs.running_image.RunningImage.call_tainted.Goals as goal
use Rattle.two_memory_machine_states.proofs.running_image.RunningImage.call_tainted.Goals.{In-Some-top_words}

pub returns-in_default : goal.returns-in_default
returns-in_default c = rw (← c.self.view_is)
    (λ f here acts inputs events.
    let none : slice_get c.self.inside.image.now.layout.imports c.args.import ≡ None = rw c.imports.ensures at (sym (item_found c.imports.result.now c.args.import None c.in_default.ensures.lookup)) in
    rw none ((rw (← c.self.view_is) at c.end_wild.ensures.line) acts inputs events))

pub returns-in_default-top_words : goal.returns-in_default-top_words
returns-in_default-top_words c = rw (← c.self.view_is)
    (λ f here acts inputs events.
    let i = c.self.inside in
    let there : slice_get i.image.now.layout.imports c.args.import ≡ Some c.in-Some.tainted.now = rw c.imports.ensures at (sym (item_found c.imports.result.now c.args.import (Some c.in-Some.tainted) c.in-Some.ensures.lookup)) in
    let few : nat_le c.in-Some.tainted.now.args (length i.calls.frame.stack) ≡ false = none_on_top c.in-Some.tainted.now.args i.calls.frame.stack (rw (← c.self.view_is, c.args-args.ensures.args) at c.in_default-top_words.ensures) in
    rw (there, few) ((rw (← c.self.view_is) at c.end_wild-in_default-top_words.ensures.line) acts inputs events))

-- the function is there
there : (c : In-Some-top_words) → slice_get c.self.inside.image.now.layout.imports c.args.import ≡ Some c.in-Some.tainted.now
there c = rw c.imports.ensures at (sym (item_found c.imports.result.now c.args.import (Some c.in-Some.tainted) c.in-Some.ensures.lookup))

top : (c : In-Some-top_words) → AreTop c.in-Some.tainted.now.args c.self.inside.calls.frame.stack c.in-Some-top_words.words
top c = are_top c.in-Some.tainted.now.args c.self.inside.calls.frame.stack c.in-Some-top_words.words (rw (← c.self.view_is, c.args-args.ensures.args) at c.in-Some-top_words.ensures)

pub returns-then-not-may_call : goal.returns-then-not-may_call
returns-then-not-may_call c = rw (← c.self.view_is)
    (λ f here acts inputs events.
    let b = (goal.at.returns-then-not-may_call c).In-Some-top_words in
    let i = c.self.inside in
    let deep : nat_lt (suc (length (callers_of i.calls.behind))) 1000 ≡ false = grind (arith, nat_tests, c.self.invariant.depth, sym c.may_call.ensures ∙ c.if-not-may_call.true) in
    let p : i.phase ≡ phases.Running = running i.phase (ap (λ (m : Machine). m.doing) c.self.view_is ∙ c.requires.runs) in
    rw (there b, (top b).enough, p, deep) (rw p at ((rw (← c.self.view_is) at c.end.ensures.line) acts inputs events)))

pub returns : goal.returns
returns c = λ f here acts inputs events.
    let b = (goal.at.returns c).In-Some-top_words in
    let i = c.self.inside in
    let p : i.phase ≡ phases.Running = running i.phase (ap (λ (m : Machine). m.doing) c.self.view_is ∙ c.requires.runs) in
    let going : i.over ≡ None = ap (λ (m : Machine). m.over) c.self.view_is ∙ c.requires.going in
    let deep : nat_lt (suc (length (callers_of i.calls.behind))) 1000 ≡ true = grind (arith, nat_tests, c.self.invariant.depth, sym c.may_call.ensures ∙ c.if-not-may_call.false) in
    rw (← c.self.view_is, there b, p, (top b).enough, ← (top b).same, deep, c.pop.ensures, c.args-args.ensures.args) (refl, (Passes c.args.import c.in-Some-top_words.words c.args.place, refl), going, (refl, refl))

pub pop-requires : goal.pop-requires
pop-requires c = search rules

pub invariant_of-self : goal.invariant_of-self
invariant_of-self c = grind (arith, nat_tests)
