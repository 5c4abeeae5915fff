use Rattle.run_core.proofs.Reaching.{steps_lead}
use Rattle.run_core.proofs.play.Play.step.Goals as goal

pub returns-clause-steps : goal.returns-clause-steps
returns-clause-steps c =
    let e = c.in_ok-tell.ensures in
    record {
      event = c.run_on-event.result;
      leads = rw (e.machine, e.inputs) (steps_lead c.args.self.now.machine c.run_on-event.new.self c.run_on-event.result c.args.self.now.inputs.now c.requires c.run_on-event.ensures.steps);
      tells = record { settings = e.tells.settings; text = e.tells.text; last = e.tells.last };
      ended = e.ended;
    }
