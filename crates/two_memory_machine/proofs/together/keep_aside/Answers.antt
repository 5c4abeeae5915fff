use Rattle.std.proofs.Common.{◌≡◌, Some, sym, refl}
use Rattle.code_words.specs.declared.op.Op.TheVariants as ops
use Rattle.two_memory_machine_states.specs.declared.outcome.Outcome.TheVariants as outcomes
use Rattle.two_memory_machine_states.specs.Machines.{next_op_of}
use Rattle.two_memory_machine_states.specs.Steps.{Acts}
use Rattle.two_memory_machine.specs.Together.{RunsTo}
use Rattle.two_memory_machine.proofs.MadeTogether.{acted, acts_on, run_if}
use Rattle.two_memory_machine.proofs.together.keep_aside.Goals as goal

pub element-requires-clause-going : goal.element-requires-clause-going
element-requires-clause-going c =
    let m = c.args.machine.now in
    let at = c.in-Some-Set in
    let next : next_op_of m ≡ Some (ops.Set at.slot) = rw at.field-0-is at (sym at.ensures.op) in
    let acts : Acts (ops.Set at.slot) m outcomes.Ran c.set.new.self = rw c.in-Ran.is at c.set.ensures in
    (acts_on m c.set.new.self (ops.Set at.slot) next acts).0

pub element-requires-clause-runs : goal.element-requires-clause-runs
element-requires-clause-runs c =
    let m = c.args.machine.now in
    let at = c.in-Some-Set in
    let next : next_op_of m ≡ Some (ops.Set at.slot) = rw at.field-0-is at (sym at.ensures.op) in
    let acts : Acts (ops.Set at.slot) m outcomes.Ran c.set.new.self = rw c.in-Ran.is at c.set.ensures in
    (acts_on m c.set.new.self (ops.Set at.slot) next acts).1

pub returns-in-Ran : goal.returns-in-Ran
returns-in-Ran c =
    let m = c.args.machine.now in
    let at = c.in-Some-Set in
    let next : next_op_of m ≡ Some (ops.Set at.slot) = rw at.field-0-is at (sym at.ensures.op) in
    let acts : Acts (ops.Set at.slot) m outcomes.Ran c.set.new.self = rw c.in-Ran.is at c.set.ensures in
    let first : RunsTo m c.set.new.self = acted m c.set.new.self outcomes.Ran (ops.Set at.slot) at.ensures.paced c.requires.waits next at.ensures.given refl acts in
    run_if m c.set.new.self c.element.new.machine c.element.result first c.element.ensures

pub returns-in_default-set : goal.returns-in_default-set
returns-in_default-set c =
    let m = c.args.machine.now in
    let at = c.in-Some-Set in
    let next : next_op_of m ≡ Some (ops.Set at.slot) = rw at.field-0-is at (sym at.ensures.op) in
    acted m c.set.new.self c.set.result (ops.Set at.slot) at.ensures.paced c.requires.waits next at.ensures.given refl c.set.ensures
