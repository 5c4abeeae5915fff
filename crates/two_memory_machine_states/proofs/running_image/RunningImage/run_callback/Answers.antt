use Rattle.std.proofs.Common.{◌≡◌, Some, None, true, false, length, refl, sym, ap, ◌∙◌, arith}
use Rattle.std.specs.Prelude.{slice_get, ◌==◌}
use Rattle.std.proofs.lemmas.Bool.Decides.{nat_tests}
use Rattle.code_words.specs.Functions.{Func}
use Rattle.two_memory_machine_memory.specs.CallStacks.{CallStack, callers_of}
use Rattle.two_memory_machine_states.specs.Machines.{Machine}
use Rattle.two_memory_machine_states.proofs.Callers.{item_found, one_found, length-callers}
use Rattle.two_memory_machine_states.proofs.running_image.RunningImage.run_callback.Goals as goal
use Rattle.two_memory_machine_states.proofs.running_image.RunningImage.run_callback.Goals.{Else-args-words}

-- the function is there
there : (c : Else-args-words) → slice_get c.self.inside.image.now.trusted.funs c.args.callback.now.fun ≡ Some c.in-Some.fun.now
there c = rw c.functions.ensures.functions at (sym (item_found c.functions.result.now c.args.callback.now.fun (Some c.in-Some.fun) c.in-Some.ensures.lookup))

found : (c : Else-args-words) → slice_get c.self.inside.calls.funs c.args.callback.now.fun ≡ Some c.in-Some.fun.now
found c = ap (λ funs. slice_get funs c.args.callback.now.fun) c.self.invariant.funs ∙ there c

pub enter-requires-clause-few : goal.enter-requires-clause-few
enter-requires-clause-few c =
    let few = rw (← c.self.view_is) at c.requires.few in
    omega (arith, few, length-callers c.self.inside.calls.behind)

pub enter-requires-clause-fits : goal.enter-requires-clause-fits
enter-requires-clause-fits c = λ f e.
    let b = (goal.at.enter-requires-clause-fits c).Else-args-words in
    let same : c.in-Some.fun.now ≡ f = one_found c.self.inside.calls.funs c.args.callback.now.fun c.in-Some.fun.now f (found b) e in
    omega (arith, c.args-args.ensures.args, c.args-args.ensures.frame.held, ap (λ (g : Func). g.slots) same, c.if-args-words.false)

pub invariant_of-self : goal.invariant_of-self
invariant_of-self c =
    let b = (goal.at.invariant_of-self c).Else-args-words in
    let i = c.self.inside in
    let h = c.self.invariant in
    let e = c.enter.ensures c.in-Some.fun.now (found b) in
    let few = rw (← c.self.view_is) at c.requires.few in
    record {
      format = h.format;
      fits = h.fits;
      addresses = h.addresses;
      offsets = h.offsets;
      base = h.base;
      bytes = h.bytes;
      counter = h.counter;
      made = h.made;
      blocks = h.blocks;
      rows = h.rows;
      funs = ap (λ (s : CallStack). s.funs) e ∙ h.funs;
      there = rw e (found b);
      depth = omega (arith, ap (λ (s : CallStack). length (callers_of s.behind)) e, h.depth);
      few = omega (arith, h.depth, few);
      phase = _;
      sandbox = h.sandbox;
      room = h.room;
      ticks = h.ticks;
    }

pub returns : goal.returns
returns c = λ acts inputs events.
    let b = (goal.at.returns c).Else-args-words in
    let i = c.self.inside in
    let g = c.in-Some.fun.now in
    let going : i.over ≡ None = ap (λ (m : Machine). m.over) c.self.view_is ∙ c.requires.going in
    let e = c.enter.ensures g (found b) in
    let same : (g.args == length c.args.words.now) ≡ true = grind (arith, nat_tests, c.args-args.ensures.args, c.if-args-words.false) in
    rw (← c.self.view_is, there b, same, c.in-Suspended.is, e) (refl, _, going, (refl, refl))

pub returns-in_default-get : goal.returns-in_default-get
returns-in_default-get c = rw (← c.self.view_is)
    (λ acts inputs events.
    let none : slice_get c.self.inside.image.now.trusted.funs c.args.callback.now.fun ≡ None = rw c.functions.ensures.functions at (sym (item_found c.functions.result.now c.args.callback.now.fun None c.in_default-get.ensures.lookup)) in
    rw none ((rw (← c.self.view_is) at c.end_move.ensures.line) acts inputs events))

pub returns-then-args-words : goal.returns-then-args-words
returns-then-args-words c = rw (← c.self.view_is)
    (λ acts inputs events.
    let named : slice_get c.self.inside.image.now.trusted.funs c.args.callback.now.fun ≡ Some c.in-Some.fun.now = rw c.functions.ensures.functions at (sym (item_found c.functions.result.now c.args.callback.now.fun (Some c.in-Some.fun) c.in-Some.ensures.lookup)) in
    let other : (c.in-Some.fun.now.args == length c.args.words.now) ≡ false = grind (arith, nat_tests, c.args-args.ensures.args, c.if-args-words.true) in
    rw (named, other) ((rw (← c.self.view_is) at c.end_move-then-args-words.ensures.line) acts inputs events))
