use Rattle.std.proofs.Common.{refl, ◌∙◌, arith}
use Rattle.code_words.specs.SandboxCode.{step}
use Rattle.sandbox_actor_code.specs.Codes.{Code, running}
use Rattle.sandbox_actor_code.proofs.Led.{goes_on, more_steps, last_step}
use Rattle.sandbox_actor_code.proofs.code_actor.CodeActor.run.Goals as goal

pub steps-init : goal.steps-init
steps-init c = record { runs = c.requires; same = (refl, refl); leads = λ n. (n, refl); less = omega arith }

pub steps-preserved : goal.steps-preserved
steps-preserved c =
    let at = c.steps.invariant in
    let now : Code = c.steps.self in
    let on = goes_on (step now.image now.budget now.call.frame (running now)) now c.step.new.self c.in-None.ensures.leads in
    record {
      runs = on.0;
      same = (on.1.0 ∙ at.same.0, on.1.1 ∙ at.same.1);
      leads = more_steps c.args.self.now now c.step.new.self at.leads c.in-None.ensures.leads;
      less = omega (arith, at.less, c.in-None.ensures.fewer);
    }

pub returns-in-Some : goal.returns-in-Some
returns-in-Some c =
    let at = c.steps.invariant in
    last_step c.args.self.now c.steps.self c.step.new.self c.in-Some.act at.same at.leads at.less c.in-Some.ensures.leads c.in-Some.ensures.fewer
