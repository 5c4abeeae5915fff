use Rattle.std.proofs.Common.{◌≡◌, ◌+◌, true, nat_lt, arith}
use Rattle.std.proofs.lemmas.Bool.Decides.{nat_tests}
use Rattle.code_words.specs.Table.{on_with}
use Rattle.two_memory_machine_states.specs.Machines.{Machine}
use Rattle.two_memory_machine_states.specs.Steps.{GoesBy}
use Rattle.two_memory_machine.proofs.stack.tick.Goals as goal

pub returns : goal.returns
returns c = λ f here acts inputs events.
    let m : Machine = c.args.machine.now in
    let early : nat_lt m.ticks m.settings.budget ≡ true = grind (arith, nat_tests, c.ticks-spent.ensures, c.budget.ensures, c.if-spent-budget.false) in
    let line : GoesBy (on_with m.frame m.frame.stack) (record m { ticks = m.ticks + 1 }) c.go_on.result c.go_on.new.self = rw (c.set_ticks.ensures, c.ticks-spent.ensures) at c.go_on.ensures in
    rw early (line acts inputs events)
