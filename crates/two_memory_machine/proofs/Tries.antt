-- Steps that tell nothing lead to a machine that runs on.
use Rattle.std.proofs.Common.{◌≡◌, Bool, true, false, Option, Some, None, [], refl}
use Rattle.std.specs.Prelude.{IsTrue}
use Rattle.code_words.specs.Paced.{is_paced}
use Rattle.code_words.specs.Table.{Step, Goes, Over, wild}
use Rattle.code_words.specs.declared.op.Op.{Op}
use Rattle.two_memory_machine_states.specs.declared.event.Event.{Event}
use Rattle.two_memory_machine_states.specs.declared.event.Event.TheVariants.{Ran, Input, Ended}
use Rattle.two_memory_machine_states.specs.declared.event.Waiting.TheVariants as waiting
use Rattle.two_memory_machine_states.specs.declared.outcome.Outcome.{Outcome}
use Rattle.two_memory_machine_states.specs.declared.outcome.Outcome.TheVariants as outcomes
use Rattle.act_words.specs.declared.ending.Ending.{Ending}
use Rattle.two_memory_machine_states.specs.Machines.{Machine, Running, Gives, TellsStep, Steps, StepsIf, is_input, waits_for_number, next_op_of, state_of, waiting_of, TellsSomething}
use Rattle.two_memory_machine.specs.Families.{ActsUnlessTold}
use Rattle.two_memory_machine_states.specs.Steps.{EventBy, GoesBy, Brings, Acts, IsGivenTo, Tells, event_of}
use Rattle.two_memory_machine.specs.Told.{IsStep}
use Rattle.two_memory_machine.specs.Running.{IsEndedIf, TriesStep}
use Rattle.two_memory_machine_states.proofs.Moving.{stands_in, runs_of, runs_other, steps_wild, step_over, gives_told, event_told}
use Rattle.two_memory_machine_states.proofs.Ends.{step_sooner}
use Rattle.two_memory_machine.proofs.Stepped.{stepped}

-- behind a step that tells nothing an instruction is next
pub runs_again : (old new : Machine) → Steps old Ran new → waiting_of new ≡ waiting.Runs
runs_again old new steps = by (waits_for_number old.doing (next_op_of old)) steps.makes
  where
    next : (step : Step) → Gives TellsStep [] [] [] step old Ran new → waiting_of new ≡ waiting.Runs
    next (Goes t) gives = rw (gives.2, gives.1) refl
    next (Over ending t) gives = absurd (let no : Ran ≡ Ended ending = gives.0 in cc)

    by : (input : Bool) → StepsIf input old Ran new → waiting_of new ≡ waiting.Runs
    by true h = absurd (let no : Ran ≡ Input = h.0 in cc)
    by false h = next _ (h [] [] [])

acts_told : (old new : Machine) (outcome : Outcome) (op : Op) → Acts op old outcome new → Tells op old (event_of outcome new.over) new
acts_told old new outcome op acts = λ f here all inputs events. gives_told all inputs events _ old new outcome (acts f here all inputs events)

-- a step where no instruction stands
pub stepped_wild : (old new : Machine) (event : Event) → IsTrue (is_paced old.image) → waiting_of old ≡ waiting.Runs → next_op_of old ≡ None → IsGivenTo old.doing (next_op_of old) → EventBy wild old event new → IsStep old event new
stepped_wild old new event paced waits next given goes =
    let at = runs_of old.over old.doing waits in
    let runs : old.doing ≡ Running = runs_other old.doing (next_op_of old) at.1 given (rw next refl) in
    let steps = steps_wild old new event runs next goes in
    record { steps = steps; over = step_over [] [] [] (wild (state_of old [] [] [])) old new event (goes [] [] []); sooner = step_sooner old new event paced at.0 at.1 steps }

-- an outcome that ends the run leaves an ending
ended : (step : Step) (old new : Machine) (outcome : Outcome) → Brings [] [] [] step old outcome new → IsEndedIf outcome new.over
ended (Goes s) old new outcomes.Ran brings = _
ended (Goes s) old new outcomes.Asks brings = _
ended (Goes s) old new outcomes.Ended brings = absurd brings.1
ended (Over ending s) old new outcome brings = rw (brings.0, brings.1) _

-- the ending of a run is told
pub told_by : (over : Option Ending) → IsEndedIf outcomes.Ended over → TellsSomething (event_of outcomes.Ended over)
told_by None ends = absurd ends
told_by (Some ending) ends = _

-- what an instruction did that isn't told is a step
pub tried : (old new : Machine) (outcome : Outcome) (op : Op) → IsTrue (is_paced old.image) → waiting_of old ≡ waiting.Runs → next_op_of old ≡ Some op → IsGivenTo old.doing (next_op_of old) → is_input (Some op) ≡ false → Acts op old outcome new → IsStep old (event_of outcome new.over) new × IsEndedIf outcome new.over
tried old new outcome op paced waits next given other acts =
    let s = stands_in old op next in
    (stepped old new (event_of outcome new.over) op paced waits next given other (acts_told old new outcome op acts), ended _ old new outcome (acts s.f s.here [] [] []))

pub tried_unless_told : (old new : Machine) (result : Option Outcome) (op : Op) → IsTrue (is_paced old.image) → waiting_of old ≡ waiting.Runs → next_op_of old ≡ Some op → IsGivenTo old.doing (next_op_of old) → ActsUnlessTold op old result new → TriesStep old result new
tried_unless_told old new None op paced waits next given acts = (acts.0, rw next acts.1)
tried_unless_told old new (Some outcome) op paced waits next given acts = tried old new outcome op paced waits next given acts.0 acts.1

pub tried_wild : (old new : Machine) (outcome : Outcome) → IsTrue (is_paced old.image) → waiting_of old ≡ waiting.Runs → next_op_of old ≡ None → IsGivenTo old.doing (next_op_of old) → GoesBy wild old outcome new → IsStep old (event_of outcome new.over) new × IsEndedIf outcome new.over
tried_wild old new outcome paced waits next given goes =
    (stepped_wild old new (event_of outcome new.over) paced waits next given (event_told wild old new (event_of outcome new.over) outcome refl goes), ended (wild (state_of old [] [] [])) old new outcome (goes [] [] []))

-- an event that isn't `Ran` tells something
pub tells_other : (event : Event) → (event ≡ Ran → ⊥) → TellsSomething event
tells_other Ran differs = absurd (differs refl)
tells_other _ differs = _
