use Rattle.std.proofs.Common.{◌+◌, ◌≤◌, length, arith}
use Rattle.code_words.specs.Functions.{Func}
use Rattle.two_memory_machine_states.specs.Ahead.{ahead_of}
use Rattle.two_memory_machine_states.specs.Machines.{Machine}
use Rattle.two_memory_machine_states.specs.Steps.{IsIn}
use Rattle.two_memory_machine.specs.Together.{IsElement}
use Rattle.two_memory_machine.proofs.MadeTogether.{element_goes}
use Rattle.two_memory_machine.proofs.together.element.Goals as goal

pub returns : goal.returns
returns c =
    let m : Machine = c.args.machine.now in
    let at = c.in-Some in
    let address = c.in-Some-checked_address.address in
    let e : IsElement (ahead_of m) m.frame.slots address = rw (at.ensures.ops, c.slots.ensures) at c.in-Some-checked_address.ensures in
    let room : (f : Func) → IsIn m f → length m.frame.stack + 6 ≤ f.stack = λ f here. omega (arith, c.free.ensures f here, c.if-free-lt6.false) in
    rw c.replace.ensures (element_goes m at.ensures.paced c.requires.going c.requires.runs address e room)
