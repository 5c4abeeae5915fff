use Rattle.std.proofs.Common.{◌≡◌, ◌∷◌, List, Some, refl, subst, sym, ap, ◌∙◌}
use Rattle.sandbox_actor_code.specs.declared.waiting_calls.Awaited.TheVariants as awaited
use Rattle.sandbox_actor_code.specs.WaitingStacks.{awaited_of}
use Rattle.code_words.specs.SandboxCode.{Held, Runs, Calls, State}
use Rattle.sandbox_actor_code.specs.Codes.{held_behind, running}
use Rattle.sandbox_actor_code.specs.CodeInsides.{AreOpen, IsOpen, code}
use Rattle.sandbox_actor_code.proofs.OpenCalls.{first_waits, behind_function}
use Rattle.sandbox_actor_code.proofs.Shown.{returns_to}
use Rattle.sandbox_actor_code.proofs.code_actor.CodeActor.leave.Goals as goal

pub returns-in-Some-Function : goal.returns-in-Some-Function
returns-in-Some-Function c = λ f.
    let i = c.self.inside in
    let calls = i.waiting.calls in
    let waits : awaited_of calls ≡ Some awaited.Function = sym c.awaited.ensures ∙ c.in-Some-Function.is ∙ ap Some c.in-Some-Function.field-0-is in
    let first = first_waits calls awaited.Function waits in
    let w = first.0 in
    let rest = first.1 in
    let popped = c.pop.ensures.calls w rest first.2 in
    let opened : IsOpen i.image.now w.call × AreOpen i.image.now rest = subst (AreOpen i.image.now) first.2 c.self.invariant.waiting in
    let resumed = (rw (popped.0, popped.1) at c.resume.ensures) opened.0.f opened.0.there in
    let before : State = record { doing = Runs i.call.frame; held = Calls w.call.frame ∷ held_behind rest; ticks = i.ticks } in
    let here : running (code i) ≡ before =
    ap (λ (held : List Held). record { doing = Runs i.call.frame; held = held; ticks = i.ticks }) (behind_function calls w rest first.2 first.3) in
    rw (← c.self.view_is, here) (returns_to i.image.now i.budget f opened.0.f i.call.frame w.call.frame c.args.value (held_behind rest) i.ticks opened.0.there (code i) (record (code i) { call = w.call; waiting = rest }) c.resume.new.self c.resume.result (refl, refl) resumed)
