use Rattle.std.proofs.lemmas.Grind.{elements}
use Rattle.std.proofs.Common.{◌≡◌, suc, ◌+◌, ◌<◌, Some, true, false, nat_lt, length, drop, refl, subst, sym, ap, ◌∙◌, arith, rules}
use Rattle.std.proofs.lemmas.Bool.Decides.{nat_tests}
use Rattle.code_words.specs.SandboxCode.{depth, function_of}
use Rattle.sandbox_actor_code.specs.CallFrames.{Call, at_next, with_stack}
use Rattle.sandbox_actor_code.specs.declared.code_actor.Phase.TheVariants as phases
use Rattle.sandbox_actor_code.specs.Codes.{Code, running}
use Rattle.sandbox_actor_code.specs.CodeInsides.{IsOpen, code}
use Rattle.sandbox_actor_code.proofs.OpenCalls.{open_behind, AreTop, are_top}
use Rattle.sandbox_actor_code.proofs.code_actor.CodeActor.call.Goals as goal
use Rattle.sandbox_actor_code.proofs.code_actor.CodeActor.call.Goals.{After-as_slice}

-- the call that waits from now on
moved : (c : After-as_slice) → c.advance.new.self ≡ at_next (c.self.inside.call.frame.next + 1) (with_stack (drop c.in-Some.fun.now.args c.self.inside.call.frame.stack) c.self.inside.call)
moved c =
    let popped = c.pop.ensures ∙ ap (λ n. with_stack (drop n c.self.inside.call.frame.stack) c.self.inside.call) c.args-args.ensures.args in
    c.advance.ensures ∙ ap (λ (f : Call). at_next (f.frame.next + 1) f) popped

pub returns-then-len-ge-MAX_OPEN : goal.returns-then-len-ge-MAX_OPEN
returns-then-len-ge-MAX_OPEN c = rw (← c.self.view_is)
    (λ f here.
    let i = c.self.inside in
    let g = c.in-Some.fun.now in
    let named : function_of i.image.now c.args.number ≡ Some g = sym (rw (← c.self.view_is) at c.in-Some.ensures.found) in
    let top : AreTop g.args i.call.frame.stack c.in-Some-top_words.words = are_top g.args i.call.frame.stack c.in-Some-top_words.words (rw (← c.self.view_is, c.args-args.ensures.args) at c.in-Some-top_words.ensures) in
    let count = open_behind i.waiting.calls (running (code i)) in
    let full : nat_lt (suc (depth (running (code i)))) 1000 ≡ false = grind (arith, nat_tests, count, c.len.ensures.count, c.if-len-ge-MAX_OPEN.true) in
    rw (named, top.enough, full) (rw (← c.self.view_is) at c.stop-then-len-ge-MAX_OPEN.ensures))

pub invariant_of-self : goal.invariant_of-self
invariant_of-self c =
    let b = (goal.at.invariant_of-self c).After-as_slice in
    let i = c.self.inside in
    let h = c.self.invariant in
    let g = c.in-Some.fun.now in
    let p : i.phase ≡ phases.Runs = ap (λ (m : Code). m.phase) c.self.view_is ∙ c.requires.runs in
    let opened : IsOpen i.image.now i.call × (length i.waiting.calls < 1000) = rw p at h.phase in
    let named : function_of i.image.now g.number ≡ Some g = subst (λ n. function_of i.image.now n ≡ Some g) (sym c.in-Some.ensures.number) (sym (rw (← c.self.view_is) at c.in-Some.ensures.found)) in
    rw (c.call.ensures, c.push.ensures.calls, moved b, p)
    (record {
      format = h.format;
      offsets = h.offsets;
      fits = h.fits;
      room = c.push.ensures.room;
      waiting = (record { f = opened.0.f; there = opened.0.there; ops = opened.0.ops; limit = opened.0.limit }, h.waiting);
      phase = (record { f = g; there = named; ops = refl; limit = refl }, omega (arith, c.len.ensures.count, c.if-len-ge-MAX_OPEN.false));
    })

pub returns : goal.returns
returns c = λ f here.
    let b = (goal.at.returns c).After-as_slice in
    let i = c.self.inside in
    let g = c.in-Some.fun.now in
    let p : i.phase ≡ phases.Runs = ap (λ (m : Code). m.phase) c.self.view_is ∙ c.requires.runs in
    let named : function_of i.image.now c.args.number ≡ Some g = sym (rw (← c.self.view_is) at c.in-Some.ensures.found) in
    let top : AreTop g.args i.call.frame.stack c.in-Some-top_words.words = are_top g.args i.call.frame.stack c.in-Some-top_words.words (rw (← c.self.view_is, c.args-args.ensures.args) at c.in-Some-top_words.ensures) in
    let count = open_behind i.waiting.calls (running (code i)) in
    let room : nat_lt (suc (depth (running (code i)))) 1000 ≡ true = grind (arith, nat_tests, count, c.len.ensures.count, c.if-len-ge-MAX_OPEN.false) in
    rw (← c.self.view_is, named, top.enough, ← top.same, room, c.call.ensures, c.as_slice.ensures.items, c.push.ensures.calls, moved b, p) (refl, refl, refl, (refl, refl))

pub returns-in_default : goal.returns-in_default
returns-in_default c = search rules

pub returns-in_default-top_words : goal.returns-in_default-top_words
returns-in_default-top_words c = search rules

pub pop-requires : goal.pop-requires
pop-requires c = search rules

pub advance-requires : goal.advance-requires
advance-requires c = search rules

pub push-requires-clause-few : goal.push-requires-clause-few
push-requires-clause-few c = search rules

pub push-requires-clause-room : goal.push-requires-clause-room
push-requires-clause-room c = search rules

pub call-requires-clause-room : goal.call-requires-clause-room
call-requires-clause-room c = search rules

pub call-requires-clause-fits : goal.call-requires-clause-fits
call-requires-clause-fits c = grind (arith, elements)
