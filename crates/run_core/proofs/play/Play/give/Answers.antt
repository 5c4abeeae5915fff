use Rattle.std.proofs.Common.{◌≡◌, to_z, of_z, rules, sym, ap, subst, ◌∙◌}
use Rattle.std.specs.Prelude.{FitsSigned}
use Rattle.std.proofs.lemmas.Int.{to_z-of_z}
use mir.Syntax.{w32}
use Rattle.two_memory_machine.specs.Machines.{Machine, HasNumber}
use Rattle.run_core.specs.declared.play.Play.{Play}
use Rattle.run_core.specs.Inputs.{TakesInput}
use Rattle.run_core.specs.Progress.{Tells}
use Rattle.run_core.proofs.Reaching.{given_leads}
use Rattle.run_core.proofs.play.Play.give.Goals as goal

pub returns-clause-steps : goal.returns-clause-steps
returns-clause-steps c =
    let e = c.in_ok-tell.ensures in
    let n = c.next_input-number.ensures in
    let event = c.run_on-event.result in
    let new = c.run_on-event.new.self in
    let given = c.next_input-number.result in
    let fits : FitsSigned w32 given = search rules in
    let number = to_z w32 (of_z w32 given) in
    let taken = subst (λ z. TakesInput c.args.self.now.inputs.now z c.next_input-number.new.self.inputs.now) (sym (to_z-of_z w32 given fits)) n.number in
    let same : c.next_input-number.new.self.machine ≡ c.args.self.now.machine = ap (λ (p : Play). p.machine) n.rest in
    let holds = subst (λ (m : Machine). c.give.new.self ≡ record m { doing = HasNumber number }) same c.give.ensures.given in
    let tells = subst (λ (p : Play). Tells event (record p { machine = new }) c.tell.new.self) n.rest e.tells in
    record {
      event = event;
      leads = rw (e.machine, e.inputs) (given_leads c.args.self.now.machine c.give.new.self new event c.args.self.now.inputs.now number c.next_input-number.new.self.inputs.now c.requires taken holds c.run_on-event.ensures.steps);
      tells = record { settings = tells.settings; text = tells.text; last = tells.last };
      ended = e.ended ∙ ap (λ (p : Play). p.ended) n.rest;
    }
