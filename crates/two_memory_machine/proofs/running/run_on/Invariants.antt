use Rattle.std.proofs.Common.{◌≡◌, ◌≤◌}
use Rattle.two_memory_machine_states.specs.declared.event.Event.{Event}
use Rattle.two_memory_machine_states.specs.declared.event.Waiting.TheVariants as waiting
use Rattle.two_memory_machine_states.specs.Machines.{Machine, waiting_of, moves_left}
use Rattle.two_memory_machine.specs.Running.{StepsOn}
use Rattle.two_memory_machine.proofs.running.run_on.Given as goal

-- the steps so far told nothing
abbrev pub invariant-steps : goal.invariant-steps
invariant-steps l =
    record {
      waits : waiting_of l.machine ≡ waiting.Runs;
      leads : (event : Event) (new : Machine) → StepsOn l.machine event new → StepsOn l.fn.machine event new;
      moves : moves_left l.machine ≤ moves_left l.fn.machine;
    }

abbrev pub decreases-steps : goal.decreases-steps
decreases-steps l = moves_left l.machine
