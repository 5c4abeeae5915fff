use Rattle.std.proofs.Common.{◌≡◌, ◌+◌, ◌≤◌, Some, length, sym, arith}
use Rattle.std.specs.Prelude.{slice_get}
use Rattle.code_words.specs.Functions.{Func}
use Rattle.two_memory_machine_states.specs.Ahead.{ahead_of}
use Rattle.two_memory_machine_states.specs.Machines.{Machine}
use Rattle.two_memory_machine_states.specs.Steps.{IsIn}
use Rattle.two_memory_machine.specs.Together.{operand_of, combined_of}
use Rattle.two_memory_machine.proofs.MadeTogether.{both_goes}
use Rattle.two_memory_machine.proofs.together.combine_both.Goals as goal

pub returns : goal.returns
returns c =
    let m : Machine = c.args.machine.now in
    let left = c.args.left in
    let right = c.in-Some-number.right in
    let word = c.in-Some-combined.word in
    let first : operand_of (slice_get (ahead_of m) 0) m.frame.slots ≡ Some left = rw c.requires.ahead at c.requires.first in
    let second : operand_of (slice_get (ahead_of m) 1) m.frame.slots ≡ Some right = rw (c.requires.ahead, c.slots.ensures) at c.in-Some-number.ensures in
    let stands : slice_get (ahead_of m) 2 ≡ Some c.in-Some.op.now = rw c.requires.ahead at (sym c.in-Some.ensures) in
    let makes : combined_of (slice_get (ahead_of m) 2) left right ≡ Some word = rw stands (sym c.in-Some-combined.ensures) in
    let room : (f : Func) → IsIn m f → length m.frame.stack + 2 ≤ f.stack = λ f here. omega (arith, c.free.ensures f here, c.if-free-lt2.false) in
    rw c.replace.ensures (both_goes m c.requires.paced c.requires.going c.requires.runs left first right word second makes room)
