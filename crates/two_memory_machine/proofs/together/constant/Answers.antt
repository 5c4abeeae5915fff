use Rattle.std.proofs.Common.{◌≡◌, refl}
use Rattle.std.specs.Prelude.{FitsSigned}
use Rattle.std.proofs.lemmas.Int.{to_z-of_z}
use mir.Syntax.{w32}
use Rattle.code_words.specs.declared.op.Op.TheVariants as ops
use Rattle.two_memory_machine_states.specs.Machines.{Machine}
use Rattle.two_memory_machine_states.specs.Steps.{Acts}
use Rattle.two_memory_machine.proofs.MadeTogether.{made_alone}
use Rattle.two_memory_machine.proofs.together.constant.Goals as goal

pub returns : goal.returns
returns c =
    let m : Machine = c.args.machine.now in
    let mid : Machine = c.combine_number.new.machine in
    let same : mid ≡ m = c.if-combine_number.ensures in
    let fits : FitsSigned w32 c.args.number = c.ranges.number in
    let acts : Acts (ops.Const c.args.number) mid c.push.result c.push.new.machine = simp to_z-of_z at c.push.ensures in
    made_alone m mid c.push.new.machine c.push.result (ops.Const c.args.number) same c.requires.ready c.requires.paced c.requires.next refl acts
