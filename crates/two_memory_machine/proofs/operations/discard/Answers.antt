use Rattle.two_memory_machine_states.proofs.Outcomes.{pop_found}
use Rattle.two_memory_machine.proofs.operations.discard.Goals as goal

pub returns : goal.returns
returns c = λ f here acts inputs events.
    rw (pop_found c.args.machine.now.frame.stack c.in-Some.field-0 _ _ c.in-Some.ensures) (c.go_on.ensures acts inputs events)
