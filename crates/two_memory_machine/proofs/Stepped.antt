-- A step that does what the next instruction says is a step of the table, and brings the end nearer.
use Rattle.std.proofs.Common.{◌≡◌, false, Some, refl}
use Rattle.std.specs.Prelude.{IsTrue}
use Rattle.code_words.specs.Paced.{is_paced}
use Rattle.code_words.specs.declared.op.Op.{Op}
use Rattle.code_words.specs.declared.op.Op.TheVariants as ops
use Rattle.two_memory_machine_states.specs.declared.event.Event.{Event}
use Rattle.two_memory_machine_states.specs.declared.event.Waiting.TheVariants as waiting
use Rattle.two_memory_machine_states.specs.Machines.{Machine, Running, is_input, next_op_of, waiting_of}
use Rattle.two_memory_machine_states.specs.Steps.{IsGivenTo, Tells}
use Rattle.two_memory_machine.specs.Told.{IsStep}
use Rattle.two_memory_machine_states.proofs.Moving.{runs_of, runs_other, steps_from, tells_over}
use Rattle.two_memory_machine_states.proofs.Ends.{step_sooner}

pub stepped : (old new : Machine) (event : Event) (op : Op) → IsTrue (is_paced old.image) → waiting_of old ≡ waiting.Runs → next_op_of old ≡ Some op → IsGivenTo old.doing (next_op_of old) → is_input (Some op) ≡ false → Tells op old event new → IsStep old event new
stepped old new event op paced waits next given other tells =
    let goes = runs_of old.over old.doing waits in
    let runs : old.doing ≡ Running = runs_other old.doing (next_op_of old) goes.1 given (rw next other) in
    let steps = steps_from old new event op runs next other tells in
    record { steps = steps; over = tells_over old new event op next tells; sooner = step_sooner old new event paced goes.0 goes.1 steps }

pub other_input : (op : Op) → (op ≡ ops.NextInput → ⊥) → is_input (Some op) ≡ false
other_input ops.NextInput differs = absurd (differs refl)
other_input _ differs = refl
