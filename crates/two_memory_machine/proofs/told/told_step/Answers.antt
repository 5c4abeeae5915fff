use Rattle.std.proofs.Common.{◌≡◌, Some, sym}
use Rattle.two_memory_machine_states.specs.Machines.{next_op_of}
use Rattle.two_memory_machine_states.proofs.Moving.{runs_of}
use Rattle.two_memory_machine_states.proofs.Ends.{step_sooner}
use Rattle.two_memory_machine.proofs.Stepped.{stepped, other_input}
use Rattle.two_memory_machine.proofs.told.told_step.Goals as goal

pub returns-in-NextInput-clause-sooner : goal.returns-in-NextInput-clause-sooner
returns-in-NextInput-clause-sooner c =
    let old = c.args.machine.now in
    let goes = runs_of old.over old.doing c.requires.runs in
    step_sooner old c.next_input.new.self c.next_input.result c.in-Some.ensures.paced goes.0 goes.1 c.next_input.ensures.steps

pub returns-in_default-op : goal.returns-in_default-op
returns-in_default-op c =
    let next : next_op_of c.args.machine.now ≡ Some c.in-Some.op.now = sym c.in-Some.ensures.op in
    let all = stepped c.args.machine.now c.write.new.machine c.write.result c.in-Some.op.now c.in-Some.ensures.paced c.requires.runs next c.in-Some.ensures.given (other_input c.in-Some.op.now c.in_default-op.not-NextInput) c.write.ensures.line in
    record { steps = all.steps; over = all.over; told = λ runs. c.write.ensures.told; sooner = all.sooner }
