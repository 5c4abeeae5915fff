use Rattle.std.proofs.Common.{◌≡◌, ℕ, ◌+◌, ◌<◌, Some, None, true, false, nat_le, nat_lt, length, drop, suc, refl, sym, ap, ◌∙◌, arith}
use Rattle.std.specs.Prelude.{slice_get}
use Rattle.std.proofs.lemmas.Bool.Decides.{nat_tests}
use Rattle.code_words.specs.Functions.{Func}
use Rattle.two_memory_machine_memory.specs.declared.calls.Link.TheVariants.{Called}
use Rattle.two_memory_machine_states.specs.declared.running_image.Phase.TheVariants as phases
use Rattle.two_memory_machine_memory.specs.CallStacks.{CallStack, entered, at_next, with_stack, callers_of}
use Rattle.two_memory_machine_states.specs.Machines.{Machine}
use Rattle.two_memory_machine_states.proofs.Callers.{item_found, one_found, running, length-callers, AreTop, are_top}
use Rattle.two_memory_machine_states.proofs.Outcomes.{none_on_top}
use Rattle.two_memory_machine_states.proofs.running_image.RunningImage.call.Goals as goal
use Rattle.two_memory_machine_states.proofs.running_image.RunningImage.call.Goals.{After-as_slice}

-- the function is there
there : (c : After-as_slice) → slice_get c.self.inside.image.now.trusted.funs c.args.k ≡ Some c.in-Some.fun.now
there c = rw c.functions.ensures.functions at (sym (item_found c.functions.result.now c.args.k (Some c.in-Some.fun) c.in-Some.ensures.lookup))

shallow : (c : After-as_slice) → nat_lt c.self.inside.depth 1000 ≡ true
shallow c = sym c.may_call.ensures ∙ c.if-not-may_call.false

below : (n : ℕ) → nat_lt n 1000 ≡ true → n < 1000
below n h = grind (arith, nat_tests)

behind_same : (c : After-as_slice) → c.advance.new.self ≡ at_next (c.self.inside.calls.frame.next + 1) (with_stack (drop c.in-Some.fun.now.args c.self.inside.calls.frame.stack) c.self.inside.calls)
behind_same c =
    let popped = c.pop.ensures ∙ ap (λ n. with_stack (drop n c.self.inside.calls.frame.stack) c.self.inside.calls) c.args-args.ensures.args in
    c.advance.ensures ∙ ap (λ (s : CallStack). at_next (s.frame.next + 1) s) popped

pub enter-requires-clause-few : goal.enter-requires-clause-few
enter-requires-clause-few c =
    omega (arith, ap (λ (s : CallStack). length s.behind) (behind_same c), length-callers c.self.inside.calls.behind, c.self.invariant.depth, below c.self.inside.depth (shallow c))

pub enter-requires-clause-fits : goal.enter-requires-clause-fits
enter-requires-clause-fits c = λ f e.
    let found : slice_get c.self.inside.image.now.trusted.funs c.args.k ≡ Some f = ap (λ funs. slice_get funs c.args.k) (sym (ap (λ (s : CallStack). s.funs) (behind_same c) ∙ c.self.invariant.funs)) ∙ e in
    let same : c.in-Some.fun.now ≡ f = one_found c.self.inside.image.now.trusted.funs c.args.k c.in-Some.fun.now f (there c) found in
    let top = are_top c.in-Some.fun.now.args c.args.self.now.frame.stack c.in-Some-top_words.words (rw c.args-args.ensures.args at c.in-Some-top_words.ensures) in
    omega (arith, c.args-args.ensures.frame.held, ap (λ (g : Func). g.slots) same, top.count, ap length c.as_slice.ensures.items)

-- the function is there for the open calls too
found : (c : After-as_slice) → slice_get c.advance.new.self.funs c.args.k ≡ Some c.in-Some.fun.now
found c = ap (λ funs. slice_get funs c.args.k) (ap (λ (s : CallStack). s.funs) (behind_same c) ∙ c.self.invariant.funs) ∙ there c

pub invariant_of-self : goal.invariant_of-self
invariant_of-self c =
    let b = (goal.at.invariant_of-self c).After-as_slice in
    let i = c.self.inside in
    let h = c.self.invariant in
    let p : i.phase ≡ phases.Running = running i.phase (ap (λ (m : Machine). m.doing) c.self.view_is ∙ c.requires.runs) in
    let e = c.enter.ensures c.in-Some.fun.now (found b) in
    record {
      format = h.format;
      fits = h.fits;
      addresses = h.addresses;
      offsets = h.offsets;
      base = h.base;
      bytes = h.bytes;
      counter = h.counter;
      made = h.made;
      blocks = h.blocks;
      rows = h.rows;
      funs = ap (λ (s : CallStack). s.funs) e ∙ ap (λ (s : CallStack). s.funs) (behind_same b) ∙ h.funs;
      there = rw e (found b);
      depth = omega (arith, ap (λ (s : CallStack). length (callers_of s.behind)) e, ap (λ (s : CallStack). length (callers_of s.behind)) (behind_same b), h.depth);
      few = rw p (omega (arith, below i.depth (shallow b)));
      phase = rw p _;
      sandbox = h.sandbox;
      room = h.room;
      ticks = h.ticks;
    }

pub returns : goal.returns
returns c = λ f here acts inputs events.
    let b = (goal.at.returns c).After-as_slice in
    let i = c.self.inside in
    let g = c.in-Some.fun.now in
    let p : i.phase ≡ phases.Running = running i.phase (ap (λ (m : Machine). m.doing) c.self.view_is ∙ c.requires.runs) in
    let going : i.over ≡ None = ap (λ (m : Machine). m.over) c.self.view_is ∙ c.requires.going in
    let words : c.as_slice.result.now ≡ c.in-Some-top_words.words = c.as_slice.ensures.items in
    let e = c.enter.ensures g (found b) ∙ ap (λ ws. entered Called c.args.k g ws c.advance.new.self) words ∙ ap (entered Called c.args.k g c.in-Some-top_words.words) (behind_same b) in
    let top : AreTop g.args i.calls.frame.stack c.in-Some-top_words.words = are_top g.args i.calls.frame.stack c.in-Some-top_words.words (rw (← c.self.view_is, c.args-args.ensures.args) at c.in-Some-top_words.ensures) in
    let deep : nat_lt (suc (length (callers_of i.calls.behind))) 1000 ≡ true = grind (arith, nat_tests, c.self.invariant.depth, shallow b) in
    rw (← c.self.view_is, there b, p, top.enough, ← top.same, deep, e) (refl, refl, going, (refl, refl))

pub returns-in_default : goal.returns-in_default
returns-in_default c = rw (← c.self.view_is)
    (λ f here acts inputs events.
    let none : slice_get c.self.inside.image.now.trusted.funs c.args.k ≡ None = rw c.functions.ensures.functions at (sym (item_found c.functions.result.now c.args.k None c.in_default.ensures.lookup)) in
    rw none ((rw (← c.self.view_is) at c.end_wild.ensures.line) acts inputs events))

pub returns-in_default-top_words : goal.returns-in_default-top_words
returns-in_default-top_words c = rw (← c.self.view_is)
    (λ f here acts inputs events.
    let i = c.self.inside in
    let named : slice_get i.image.now.trusted.funs c.args.k ≡ Some c.in-Some.fun.now = rw c.functions.ensures.functions at (sym (item_found c.functions.result.now c.args.k (Some c.in-Some.fun) c.in-Some.ensures.lookup)) in
    let few : nat_le c.in-Some.fun.now.args (length i.calls.frame.stack) ≡ false = none_on_top c.in-Some.fun.now.args i.calls.frame.stack (rw (← c.self.view_is, c.args-args.ensures.args) at c.in_default-top_words.ensures) in
    rw (named, few) ((rw (← c.self.view_is) at c.end_wild-in_default-top_words.ensures.line) acts inputs events))

pub returns-then-not-may_call : goal.returns-then-not-may_call
returns-then-not-may_call c = rw (← c.self.view_is)
    (λ f here acts inputs events.
    let i = c.self.inside in
    let g = c.in-Some.fun.now in
    let named : slice_get i.image.now.trusted.funs c.args.k ≡ Some g = rw c.functions.ensures.functions at (sym (item_found c.functions.result.now c.args.k (Some c.in-Some.fun) c.in-Some.ensures.lookup)) in
    let top = are_top g.args i.calls.frame.stack c.in-Some-top_words.words (rw (← c.self.view_is, c.args-args.ensures.args) at c.in-Some-top_words.ensures) in
    let deep : nat_lt (suc (length (callers_of i.calls.behind))) 1000 ≡ false = grind (arith, nat_tests, c.self.invariant.depth, sym c.may_call.ensures ∙ c.if-not-may_call.true) in
    let p : i.phase ≡ phases.Running = running i.phase (ap (λ (m : Machine). m.doing) c.self.view_is ∙ c.requires.runs) in
    rw (named, top.enough, p, deep) (rw p at ((rw (← c.self.view_is) at c.end.ensures.line) acts inputs events)))
