use Rattle.std.proofs.Common.{◌≡◌, refl}
use Rattle.code_words.specs.declared.op.Op.TheVariants as ops
use Rattle.two_memory_machine_states.specs.declared.event.Waiting.TheVariants as waiting
use Rattle.two_memory_machine_states.specs.declared.outcome.Outcome.TheVariants as outcomes
use Rattle.two_memory_machine_states.specs.Machines.{Machine, next_op_of, waiting_of}
use Rattle.two_memory_machine_states.specs.Steps.{Acts, IsReady, IsGivenTo}
use Rattle.two_memory_machine.specs.Together.{RunsTo}
use Rattle.two_memory_machine.proofs.MadeTogether.{acted, acts_on, run_some}
use Rattle.two_memory_machine.proofs.together.non_null.Goals as goal

waits_of : (m : Machine) → IsReady m → waiting_of m ≡ waiting.Runs
waits_of m ready = rw (ready.going, ready.runs) refl

given_of : (m : Machine) → IsReady m → IsGivenTo m.doing (next_op_of m)
given_of m ready = rw ready.runs _

pub keep_aside-requires-clause-waits : goal.keep_aside-requires-clause-waits
keep_aside-requires-clause-waits c =
    let m = c.args.machine.now in
    let acts : Acts (ops.NonNull c.args.place) m outcomes.Ran c.non_null.new.machine = rw c.in-Ran.is at c.non_null.ensures in
    let on = acts_on m c.non_null.new.machine (ops.NonNull c.args.place) c.requires.next acts in
    rw (on.0, on.1) refl

pub keep_aside-requires-clause-runs : goal.keep_aside-requires-clause-runs
keep_aside-requires-clause-runs c =
    let m = c.args.machine.now in
    let acts : Acts (ops.NonNull c.args.place) m outcomes.Ran c.non_null.new.machine = rw c.in-Ran.is at c.non_null.ensures in
    (acts_on m c.non_null.new.machine (ops.NonNull c.args.place) c.requires.next acts).1

pub returns-in-Some : goal.returns-in-Some
returns-in-Some c =
    let m = c.args.machine.now in
    let mid = c.non_null.new.machine in
    let acts : Acts (ops.NonNull c.args.place) m outcomes.Ran mid = rw c.in-Ran.is at c.non_null.ensures in
    let first : RunsTo m mid = acted m mid outcomes.Ran (ops.NonNull c.args.place) c.requires.paced (waits_of m c.requires.ready) c.requires.next (given_of m c.requires.ready) refl acts in
    run_some m mid c.keep_aside.new.machine c.in-Some.outcome first c.in-Some.ensures

pub returns-in-None : goal.returns-in-None
returns-in-None c =
    let m = c.args.machine.now in
    let mid = c.non_null.new.machine in
    let acts : Acts (ops.NonNull c.args.place) m outcomes.Ran mid = rw c.in-Ran.is at c.non_null.ensures in
    let first : RunsTo m mid = acted m mid outcomes.Ran (ops.NonNull c.args.place) c.requires.paced (waits_of m c.requires.ready) c.requires.next (given_of m c.requires.ready) refl acts in
    rw c.in-None.ensures first

pub returns-in_default : goal.returns-in_default
returns-in_default c =
    let m = c.args.machine.now in
    acted m c.non_null.new.machine c.non_null.result (ops.NonNull c.args.place) c.requires.paced (waits_of m c.requires.ready) c.requires.next (given_of m c.requires.ready) refl c.non_null.ensures
