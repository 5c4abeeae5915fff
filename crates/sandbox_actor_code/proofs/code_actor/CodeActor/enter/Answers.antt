use Rattle.std.proofs.Common.{◌≡◌, ◌<◌, true, false, nat_lt, length, refl, ap, ◌∙◌, arith}
use Rattle.std.proofs.lemmas.Bool.Decides.{nat_tests}
use Rattle.code_words.specs.SandboxCode.{depth, function_of}
use Rattle.sandbox_actor_code.specs.CallFrames.{Call}
use Rattle.sandbox_actor_code.specs.declared.code_actor.Phase.TheVariants as phases
use Rattle.sandbox_actor_code.specs.Codes.{Code, at_rest}
use Rattle.sandbox_actor_code.specs.CodeInsides.{WaitsForReply, code}
use Rattle.sandbox_actor_code.proofs.OpenCalls.{open_at_rest, entered_behind}
use Rattle.sandbox_actor_code.proofs.code_actor.CodeActor.enter.Goals as goal

pub returns-then-len-ge-MAX_OPEN : goal.returns-then-len-ge-MAX_OPEN
returns-then-len-ge-MAX_OPEN c =
    let i = c.self.inside in
    let count = open_at_rest i.waiting.calls (at_rest (code i)) in
    let full : nat_lt (depth (at_rest (code i))) 1000 ≡ false = grind (arith, nat_tests, count, c.len.ensures.count, c.if-len-ge-MAX_OPEN.true) in
    rw (← c.self.view_is, full) (rw (← c.self.view_is) at c.stop.ensures)

pub call-requires-clause-fits : goal.call-requires-clause-fits
call-requires-clause-fits c = omega (arith, c.requires.count, c.requires.frame.held)

pub invariant_of-self : goal.invariant_of-self
invariant_of-self c =
    let i = c.self.inside in
    let h = c.self.invariant in
    let there : function_of i.image.now c.args.fun.now.number ≡ _ = rw (← c.self.view_is) at c.requires.there in
    let few : length i.waiting.calls < 1000 = omega (arith, c.len.ensures.count, c.if-len-ge-MAX_OPEN.false) in
    record {
      format = h.format;
      offsets = h.offsets;
      fits = h.fits;
      room = ap (λ (f : Call). f.room) c.call.ensures ∙ h.room;
      waiting = h.waiting;
      phase = rw c.call.ensures (record { f = c.args.fun.now; there = there; ops = refl; limit = refl }, few);
    }

pub returns : goal.returns
returns c =
    let i = c.self.inside in
    let count = open_at_rest i.waiting.calls (at_rest (code i)) in
    let room : nat_lt (depth (at_rest (code i))) 1000 ≡ true = grind (arith, nat_tests, count, c.len.ensures.count, c.if-len-ge-MAX_OPEN.false) in
    let p : i.phase ≡ phases.Rests = ap (λ (m : Code). m.phase) c.self.view_is ∙ c.requires.rests in
    let waits : WaitsForReply i.waiting.calls = rw p at c.self.invariant.phase in
    let held = entered_behind i.waiting.calls waits in
    rw (← c.self.view_is, room, c.call.ensures, held) (refl, refl, refl, (refl, refl))
