use Rattle.std.proofs.Common.{◌≡◌, refl}
use Rattle.code_words.specs.declared.op.Op.TheVariants as ops
use Rattle.two_memory_machine_states.specs.Machines.{Machine}
use Rattle.two_memory_machine.proofs.MadeTogether.{made_alone}
use Rattle.two_memory_machine.proofs.together.local.Goals as goal

pub returns : goal.returns
returns c =
    let m : Machine = c.args.machine.now in
    let mid : Machine = c.combine_slot.new.machine in
    let same : mid ≡ m = c.if-combine_slot.ensures in
    made_alone m mid c.local.new.self c.local.result (ops.Local c.args.slot) same c.requires.ready c.requires.paced c.requires.next refl c.local.ensures
