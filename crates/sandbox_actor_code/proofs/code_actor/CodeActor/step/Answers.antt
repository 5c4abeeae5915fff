use Rattle.std.proofs.Common.{◌≡◌, ◌<◌, Some, length, sym, ap, ◌∙◌}
use Rattle.std.specs.Prelude.{slice_get}
use Rattle.code_words.specs.SandboxCode.{step}
use Rattle.sandbox_actor_code.specs.declared.code_actor.Phase.TheVariants as phases
use Rattle.sandbox_actor_code.specs.Codes.{Code, Leads, running}
use Rattle.sandbox_actor_code.specs.CodeInsides.{IsOpen, code}
use Rattle.sandbox_actor_code.proofs.Led.{step_fewer}
use Rattle.sandbox_actor_code.proofs.code_actor.CodeActor.step.Goals as goal

pub returns-clause-fewer : goal.returns-clause-fewer
returns-clause-fewer c =
    let i = c.self.inside in
    let p : i.phase ≡ phases.Runs = ap (λ (m : Code). m.phase) c.self.view_is ∙ c.requires in
    let opened : IsOpen i.image.now i.call × (length i.waiting.calls < 1000) = rw p at c.self.invariant.phase in
    let next : slice_get opened.0.f.ops i.call.frame.next ≡ Some c.in-Some.op.now = ap (λ ops. slice_get ops i.call.frame.next) (sym opened.0.ops) ∙ sym c.in-Some.ensures.op in
    let acts = (rw (← c.self.view_is) at c.perform.ensures) opened.0.f opened.0.there in
    let leads : Leads (step i.image.now i.budget i.call.frame (running (code i))) (code i) c.perform.result c.perform.new.self = rw (opened.0.there, next) acts in
    rw (← c.self.view_is) (step_fewer (code i) c.perform.new.self c.perform.result c.self.invariant.format.paced p leads)
