use Rattle.std.proofs.Common.{◌<◌, arith}
use Rattle.two_memory_machine_states.specs.declared.event.Event.TheVariants.{Ran, Asks}
use Rattle.two_memory_machine_states.specs.Machines.{Steps, moves_left}
use Rattle.two_memory_machine_states.specs.declared.outcome.Outcome.TheVariants as outcomes
use Rattle.two_memory_machine_states.specs.Steps.{event_of}
use Rattle.two_memory_machine.specs.Together.{RunsTo, EndsIn, SomeSteps}
use Rattle.two_memory_machine.specs.Running.{StepsOn, IsEndedIf}
use Rattle.two_memory_machine.proofs.Tries.{runs_again, tells_other, told_by}
use Rattle.two_memory_machine.proofs.running.run_on.Goals as goal

pub steps-init : goal.steps-init
steps-init c = record { waits = c.requires; leads = λ event new steps. steps; moves = omega arith }

pub steps-preserved-in-Some-Ran : goal.steps-preserved-in-Some-Ran
steps-preserved-in-Some-Ran c =
    let at = c.steps.invariant in
    let now : RunsTo c.steps.machine c.try_steps.new.machine = rw c.in-Some-Ran.field-0-is at c.in-Some-Ran.ensures in
    record { waits = now.waits; leads = λ event new rest. at.leads event new (now.leads event new rest); moves = omega (arith, at.moves, now.sooner) }

pub returns-in-Some-Asks : goal.returns-in-Some-Asks
returns-in-Some-Asks c =
    let at = c.steps.invariant in
    let now : EndsIn c.steps.machine Asks c.try_steps.new.machine = rw c.in-Some-Asks.field-0-is at c.in-Some-Asks.ensures in
    record {
      steps = at.leads Asks c.try_steps.new.machine now.steps;
      over = now.over;
      told = _;
      sooner = omega (arith, at.moves, now.sooner);
    }

pub returns-in-Some-Ended : goal.returns-in-Some-Ended
returns-in-Some-Ended c =
    let at = c.steps.invariant in
    let over = c.try_steps.new.machine.over in
    let all : SomeSteps c.steps.machine outcomes.Ended c.try_steps.new.machine = rw c.in-Some-Ended.field-0-is at c.in-Some-Ended.ensures in
    let now : EndsIn c.steps.machine (event_of outcomes.Ended over) c.try_steps.new.machine = all.0 in
    let ends : IsEndedIf outcomes.Ended over = all.1 in
    record {
      steps = rw c.event.ensures (at.leads _ c.try_steps.new.machine now.steps);
      over = rw c.event.ensures now.over;
      told = rw c.event.ensures (told_by over ends);
      sooner = omega (arith, at.moves, now.sooner);
    }

-- a number that was given was taken
pub steps-preserved : goal.steps-preserved
steps-preserved c =
    let at = c.steps.invariant in
    let same = c.in-None.ensures.0 in
    let ran : Steps c.steps.machine Ran c.told_step.new.machine = rw same at c.in-Ran.ensures.steps in
    let sooner : moves_left c.told_step.new.machine < moves_left c.steps.machine = rw same at c.in-Ran.ensures.sooner in
    let again = runs_again c.steps.machine c.told_step.new.machine ran in
    record { waits = again; leads = λ event new rest. at.leads event new (StepsOn.more ran again rest); moves = omega (arith, at.moves, sooner) }

pub returns-in_default : goal.returns-in_default
returns-in_default c =
    let at = c.steps.invariant in
    let same = c.in-None.ensures.0 in
    let sooner : moves_left c.told_step.new.machine < moves_left c.steps.machine = rw same at c.told_step.ensures.sooner in
    record {
      steps = at.leads _ c.told_step.new.machine (StepsOn.last (rw same at c.told_step.ensures.steps));
      over = c.told_step.ensures.over;
      told = tells_other _ c.in_default.not-Ran;
      sooner = omega (arith, at.moves, sooner);
    }
