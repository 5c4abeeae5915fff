use Rattle.std.proofs.lemmas.Bool.Decides.{nat_tests}
use Rattle.std.proofs.lemmas.Grind.{common_steps, elements}
use Rattle.std.proofs.Common.{◌≡◌, ◌+◌, ◌≤◌, Some, length, refl, sym, arith}
use Rattle.std.specs.Prelude.{slice_get}
use Rattle.code_words.specs.Functions.{Func}
use Rattle.two_memory_machine_states.specs.Ahead.{ahead_of}
use Rattle.two_memory_machine_states.specs.Machines.{Machine}
use Rattle.two_memory_machine_states.specs.Steps.{IsIn}
use Rattle.two_memory_machine.specs.Together.{operand_of, combined_of}
use Rattle.two_memory_machine.proofs.MadeTogether.{top_goes}
use Rattle.two_memory_machine.proofs.together.combine_top.Goals as goal

pub returns : goal.returns
returns c =
    let m : Machine = c.args.machine.now in
    let left = c.in-Some-word.left in
    let right = c.args.right in
    let word = c.in-Some-combined.word in
    let first : operand_of (slice_get (ahead_of m) 0) m.frame.slots ≡ Some right = rw c.requires.ahead at c.requires.first in
    let stands : slice_get (ahead_of m) 1 ≡ Some c.in-Some.op.now = rw c.requires.ahead at (sym c.in-Some.ensures) in
    let makes : combined_of (slice_get (ahead_of m) 1) left right ≡ Some word = rw stands (sym c.in-Some-combined.ensures) in
    let room : (f : Func) → IsIn m f → length m.frame.stack + 1 ≤ f.stack = λ f here. omega (arith, c.free.ensures f here, c.if-free-lt1.false) in
    rw c.replace.ensures (top_goes m c.requires.paced c.requires.going c.requires.runs right first m.frame.stack left word refl c.in-Some-word.ensures makes room)

pub replace-requires-clause-there : goal.replace-requires-clause-there
replace-requires-clause-there c = grind (arith, common_steps)

pub replace-requires-clause-room : goal.replace-requires-clause-room
replace-requires-clause-room c = grind (arith, nat_tests)

pub replace-requires-clause-within : goal.replace-requires-clause-within
replace-requires-clause-within c = grind (arith, elements)
