use Rattle.std.proofs.Common.{◌≡◌, Some, None, true, false, nat_lt, length, suc, ◌+◌, refl, sym, ap, subst, ◌∙◌, arith, rules}
use Rattle.std.specs.Prelude.{slice_get, ◌==◌}
use Rattle.std.proofs.lemmas.Bool.Decides.{nat_tests}
use Rattle.marshalling.specs.Crossing.{arguments_fault}
use Rattle.two_memory_machine_memory.specs.CallStacks.{callers_of}
use Rattle.two_memory_machine_states.specs.Machines.{Machine, TellsAct, callers_in}
use Rattle.two_memory_machine_states.specs.Insides.{doing_of, machine}
use Rattle.two_memory_machine_states.specs.Steps.{IsSuspended}
use Rattle.two_memory_machine_memory.specs.Faults.{fault_ending}
use Rattle.two_memory_machine_states.proofs.Callers.{item_found, away, tested_ends, tested_passes}
use Rattle.two_memory_machine_states.proofs.Moving.{gives_at}
use Rattle.two_memory_machine_states.proofs.running_image.RunningImage.call_back.Goals as goal
use Rattle.two_memory_machine_states.proofs.running_image.RunningImage.call_back.Goals.{After-fault_of, In-Some}

there : (c : After-fault_of) → slice_get c.self.inside.image.now.layout.callbacks c.args.k ≡ Some c.in-Some.callback.now
there c = rw c.callbacks.ensures at (sym (item_found c.callbacks.result.now c.args.k (Some c.in-Some.callback) c.in-Some.ensures.lookup))

count : (c : After-fault_of) → (length c.in-Some.callback.now.signature == length c.args.words.now) ≡ true
count c = let params = ap length c.as_slice-params.ensures.parameters in let args = ap length c.as_slice-args.ensures.items in grind (arith, nat_tests, params, args, c.if-params-args.false)

early : (c : After-fault_of) → nat_lt c.self.inside.ticks c.self.inside.settings.budget ≡ true
early c = grind (arith, nat_tests, c.if-self.false)

shallow : (c : After-fault_of) → nat_lt (suc (length (callers_in (doing_of c.self.inside.phase) c.self.inside.calls.frame (callers_of c.self.inside.calls.behind)))) 1000 ≡ true
shallow c =
    let a = away c.self.inside.phase (subst IsSuspended (ap (λ (m : Machine). m.doing) (sym c.self.view_is)) c.requires.suspended) in
    rw a.is (grind (arith, nat_tests, c.self.invariant.depth, sym c.may_call-may_call.ensures ∙ c.if-not-may_call.false))

same_fault : (c : After-fault_of) → c.fault_of.result ≡ fault_ending c.in-Some.callback.now.signature (arguments_fault c.in-Some.callback.now.signature c.args.words.now (length c.self.inside.sandbox.items))
same_fault c =
    let size : c.len-size.result ≡ length c.self.inside.sandbox.items = omega (arith, c.len-size.ensures, c.self.inside.sandbox.ok.0) in
    c.fault_of.ensures ∙ ap (λ n. fault_ending c.in-Some.callback.now.signature (arguments_fault c.in-Some.callback.now.signature c.args.words.now n)) size

pub returns-in-Some-fault_of : goal.returns-in-Some-fault_of
returns-in-Some-fault_of c = λ acts inputs events.
    let b = (goal.at.returns-in-Some-fault_of c).After-fault_of in
    let i = c.self.inside in
    let callback = c.in-Some.callback.now in
    let words = c.args.words.now in
    let fault = arguments_fault callback.signature words (length i.sandbox.items) in
    let ends : Some c.in-Some-fault_of.ending ≡ fault_ending callback.signature fault = sym c.in-Some-fault_of.is ∙ same_fault b in
    rw (← c.self.view_is, there b, count b, early b, shallow b, tested_ends i.image.now c.args.k callback fault words _ c.in-Some-fault_of.ending ends) ((rw (c.set_ticks.ensures, ← c.self.view_is) at c.end_move-in-Some-fault_of.ensures.line) acts inputs events)

pub returns-in-None : goal.returns-in-None
returns-in-None c = λ acts inputs events.
    let b = (goal.at.returns-in-None c).After-fault_of in
    let i = c.self.inside in
    let callback = c.in-Some.callback.now in
    let words = c.args.words.now in
    let fault = arguments_fault callback.signature words (length i.sandbox.items) in
    let passes : None ≡ fault_ending callback.signature fault = sym c.in-None.is ∙ same_fault b in
    rw (← c.self.view_is, there b, count b, early b, shallow b, tested_passes i.image.now c.args.k callback fault words _ passes)
    (gives_at TellsAct acts inputs events _ (machine i) (record (machine i) { ticks = i.ticks + 1 }) c.run_callback.new.self c.run_callback.result refl refl ((rw (c.set_ticks.ensures, ← c.self.view_is, c.as_slice-args.ensures.items) at c.run_callback.ensures) acts inputs events))

pub returns-in_default : goal.returns-in_default
returns-in_default c = rw (← c.self.view_is)
    (λ acts inputs events.
    let none : slice_get c.self.inside.image.now.layout.callbacks c.args.k ≡ None = rw c.callbacks.ensures at (sym (item_found c.callbacks.result.now c.args.k None c.in_default.ensures.lookup)) in
    rw none ((rw (← c.self.view_is) at c.stop_by_act.ensures.line) acts inputs events))

-- the callback is there
named : (c : In-Some) → slice_get c.self.inside.image.now.layout.callbacks c.args.k ≡ Some c.in-Some.callback.now
named c = rw c.callbacks.ensures at (sym (item_found c.callbacks.result.now c.args.k (Some c.in-Some.callback) c.in-Some.ensures.lookup))

pub returns-then-params-args : goal.returns-then-params-args
returns-then-params-args c = rw (← c.self.view_is)
    (λ acts inputs events.
    let other : (length c.in-Some.callback.now.signature == length c.args.words.now) ≡ false = let params = ap length c.as_slice-params.ensures.parameters in let args = ap length c.as_slice-args.ensures.items in grind (arith, nat_tests, params, args, c.if-params-args.true) in
    rw (named (goal.at.returns-then-params-args c).In-Some, other) ((rw (← c.self.view_is) at c.stop_by_act-then-params-args.ensures.line) acts inputs events))

pub returns-then-self : goal.returns-then-self
returns-then-self c = rw (← c.self.view_is)
    (λ acts inputs events.
    let same : (length c.in-Some.callback.now.signature == length c.args.words.now) ≡ true = let params = ap length c.as_slice-params.ensures.parameters in let args = ap length c.as_slice-args.ensures.items in grind (arith, nat_tests, params, args, c.if-params-args.false) in
    let late : nat_lt c.self.inside.ticks c.self.inside.settings.budget ≡ false = grind (arith, nat_tests, c.if-self.true) in
    rw (named (goal.at.returns-then-self c).In-Some, same, late) ((rw (← c.self.view_is) at c.end_move.ensures.line) acts inputs events))

pub returns-then-not-may_call : goal.returns-then-not-may_call
returns-then-not-may_call c = rw (← c.self.view_is)
    (λ acts inputs events.
    let i = c.self.inside in
    let same : (length c.in-Some.callback.now.signature == length c.args.words.now) ≡ true = let params = ap length c.as_slice-params.ensures.parameters in let args = ap length c.as_slice-args.ensures.items in grind (arith, nat_tests, params, args, c.if-params-args.false) in
    let soon : nat_lt i.ticks i.settings.budget ≡ true = grind (arith, nat_tests, c.if-self.false) in
    let a = away i.phase (subst IsSuspended (ap (λ (m : Machine). m.doing) (sym c.self.view_is)) c.requires.suspended) in
    let deep : nat_lt (suc (length (callers_in (doing_of i.phase) i.calls.frame (callers_of i.calls.behind)))) 1000 ≡ false =
    rw a.is (grind (arith, nat_tests, c.self.invariant.depth, sym c.may_call-may_call.ensures ∙ c.if-not-may_call.true)) in
    rw (named (goal.at.returns-then-not-may_call c).In-Some, same, soon, deep) ((rw (c.set_ticks.ensures, ← c.self.view_is) at c.end_move-then-not-may_call.ensures.line) acts inputs events))

pub overflow_add-self-inside : goal.overflow_add-self-inside
overflow_add-self-inside c = search rules

pub len-size-requires : goal.len-size-requires
len-size-requires c κs = search rules

pub overflow_cast-size : goal.overflow_cast-size
overflow_cast-size c = search rules

pub overflow_add-spent : goal.overflow_add-spent
overflow_add-spent c = search rules

pub set_ticks-requires : goal.set_ticks-requires
set_ticks-requires c = search rules

pub run_callback-requires-clause-going : goal.run_callback-requires-clause-going
run_callback-requires-clause-going c = search rules

pub run_callback-requires-clause-suspended : goal.run_callback-requires-clause-suspended
run_callback-requires-clause-suspended c = search rules

pub run_callback-requires-clause-few : goal.run_callback-requires-clause-few
run_callback-requires-clause-few c = grind (arith, nat_tests)
