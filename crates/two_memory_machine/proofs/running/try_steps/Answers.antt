use Rattle.std.proofs.Common.{◌≡◌, None, Some, sym}
use Rattle.two_memory_machine_states.specs.Machines.{next_op_of}
use Rattle.two_memory_machine.proofs.Tries.{tried_wild}
use Rattle.two_memory_machine.proofs.MadeTogether.{one_some, performed}
use Rattle.two_memory_machine.proofs.running.try_steps.Goals as goal

pub returns-in_default : goal.returns-in_default
returns-in_default c =
    let next : next_op_of c.args.machine.now ≡ None = sym c.in_default.ensures.op in
    one_some c.args.machine.now c.end_wild.new.self c.end_wild.result (tried_wild c.args.machine.now c.end_wild.new.self c.end_wild.result c.in_default.ensures.paced c.requires next c.in_default.ensures.given c.end_wild.ensures.line)

pub returns-in_default-op : goal.returns-in_default-op
returns-in_default-op c =
    let next : next_op_of c.args.machine.now ≡ Some c.in-Some.op.now = sym c.in-Some.ensures.op in
    performed c.args.machine.now c.perform.new.machine c.perform.result c.in-Some.op.now c.in-Some.ensures.paced c.requires next c.in-Some.ensures.given c.perform.ensures
