use Rattle.std.proofs.Common.{◌≡◌, List, [], ◌∷◌, Some, refl, subst, sym, ap, ◌∙◌}
use Rattle.std.specs.Prelude.{slice_get}
use Rattle.act_words.specs.Acts.{SeenReply}
use Rattle.code_words.specs.SandboxCode.{Held, CallsBack, Rests, State, Step}
use Rattle.sandbox_actor_code.specs.declared.code_actor.Phase.TheVariants as phases
use Rattle.sandbox_actor_code.specs.declared.waiting_calls.Awaited.TheVariants as awaited
use Rattle.sandbox_actor_code.specs.WaitingStacks.{awaited_of}
use Rattle.sandbox_actor_code.specs.Codes.{Code, at_rest, held_behind, held_at_rest, reply_of, resume_step, running}
use Rattle.sandbox_actor_code.specs.CodeInsides.{AreOpen, IsOpen, code}
use Rattle.sandbox_actor_code.proofs.OpenCalls.{first_waits, none_waits, rests_for_reply, no_function}
use Rattle.sandbox_actor_code.proofs.Shown.{led_from, shows_by, stops_by, reply_meets}
use Rattle.sandbox_actor_code.proofs.code_actor.CodeActor.take_reply.Goals as goal

pub returns-in-Some-Callback : goal.returns-in-Some-Callback
returns-in-Some-Callback c =
    let i = c.self.inside in
    let k = c.in-Some-Callback.number in
    let value = c.args.value in
    let waits : awaited_of i.waiting.calls ≡ Some (awaited.Callback k) = sym c.awaited.ensures ∙ c.in-Some-Callback.is ∙ ap Some c.in-Some-Callback.field-0-is in
    let first = first_waits i.waiting.calls (awaited.Callback k) waits in
    let w = first.0 in
    let rest = first.1 in
    let popped = c.pop.ensures.calls w rest first.2 in
    let opened : IsOpen i.image.now w.call × AreOpen i.image.now rest = subst (AreOpen i.image.now) first.2 c.self.invariant.waiting in
    let f = opened.0.f in
    let replied : c.reply_word-value.result ≡ reply_of (slice_get i.image.now.layout.callbacks k) value = rw (← c.self.view_is) at c.reply_word-value.ensures in
    let resumed = (rw (popped.0, popped.1, replied) at c.resume.ensures) f opened.0.there in
    let before : State = record { doing = Rests; held = CallsBack w.call.frame k ∷ held_behind rest; ticks = i.ticks } in
    let here : at_rest (code i) ≡ before =
    ap (λ (held : List Held). record { doing = Rests; held = held; ticks = i.ticks }) (rests_for_reply i.waiting.calls w rest k first.2 first.3) in
    let mid : Code = record { image = i.image.now; budget = i.budget; ticks = i.ticks; phase = phases.Runs; call = w.call; waiting = rest } in
    let goes : Step = resume_step f (reply_of (slice_get i.image.now.layout.callbacks k) value) w.call.frame (running mid) in
    rw (← c.self.view_is, here)
    (shows_by (code i) c.resume.new.self before (Some (SeenReply value)) c.resume.result goes
    (reply_meets i.image.now i.budget w.call.frame k (held_behind rest) i.ticks value f opened.0.there)
    (led_from (code i) mid c.resume.new.self c.resume.result goes (refl, refl) resumed))

pub returns-in-Some-Function : goal.returns-in-Some-Function
returns-in-Some-Function c =
    let i = c.self.inside in
    let p : i.phase ≡ phases.Rests = ap (λ (m : Code). m.phase) c.self.view_is ∙ c.requires in
    let waits : awaited_of i.waiting.calls ≡ Some awaited.Function = sym c.awaited.ensures ∙ c.in-Some-Function.is ∙ ap Some c.in-Some-Function.field-0-is in
    absurd (no_function i.waiting.calls (rw p at c.self.invariant.phase) waits)

pub returns-in-None : goal.returns-in-None
returns-in-None c =
    let i = c.self.inside in
    let none : i.waiting.calls ≡ [] = none_waits i.waiting.calls (sym c.awaited.ensures ∙ c.in-None.is) in
    let before : State = record { doing = Rests; held = []; ticks = i.ticks } in
    let here : at_rest (code i) ≡ before = ap (λ calls. record { doing = Rests; held = held_at_rest calls; ticks = i.ticks }) none in
    rw (← c.self.view_is, here)
    (stops_by (code i) c.stop-in-None.new.self before (Some (SeenReply c.args.value)) c.stop-in-None.result before (λ n. refl) (rw (← c.self.view_is) at c.stop-in-None.ensures))
