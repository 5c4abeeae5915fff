-- Many steps at once.
use Rattle.std.specs.Prelude.{◌≡◌, Option, Some, None}
use Rattle.act_words.specs.declared.ending.Ending.{Ending}
use Rattle.two_memory_machine_states.specs.declared.event.Event.{Event}
use Rattle.two_memory_machine_states.specs.declared.event.Event.TheVariants.{Ran}
use Rattle.two_memory_machine_states.specs.declared.event.Waiting.TheVariants as waiting
use Rattle.two_memory_machine_states.specs.declared.outcome.Outcome.{Outcome}
use Rattle.two_memory_machine_states.specs.declared.outcome.Outcome.TheVariants as outcomes
use Rattle.two_memory_machine_states.specs.Machines.{Machine, Steps, waiting_of, next_op_of}
use Rattle.two_memory_machine.specs.Told.{IsStep, IsTold}
use Rattle.two_memory_machine_states.specs.Steps.{event_of}

-- steps that tell nothing, and one more
pub data StepsOn : Machine → Event → Machine → Type 0 where
  last : {old new : Machine} {event : Event} → Steps old event new → StepsOn old event new
  more : {old mid new : Machine} {event : Event} → Steps old Ran mid → waiting_of mid ≡ waiting.Runs → StepsOn mid event new → StepsOn old event new

-- where the run ended, an ending is there
abbrev pub IsEndedIf : Outcome → Option Ending → Type 0
IsEndedIf outcomes.Ended None = ⊥
IsEndedIf _ over = Unit {0}

-- the step was made, or it writes or takes an input number, and nothing was done
abbrev pub TriesStep : Machine → Option Outcome → Machine → Type 0
TriesStep old None new = (new ≡ old) × IsTold (next_op_of old)
TriesStep old (Some outcome) new = IsStep old (event_of outcome new.over) new × IsEndedIf outcome new.over
