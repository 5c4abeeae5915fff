use Rattle.two_memory_machine_states.proofs.Outcomes.{pop_2_found}
use Rattle.two_memory_machine.proofs.operations.compute.Goals as goal

pub returns : goal.returns
returns c = λ f here acts inputs events.
    rw (pop_2_found c.args.machine.now.frame.stack c.in-Some.left c.in-Some.right _ _ c.in-Some.ensures, ← c.compute-number.ensures) (c.push_number.ensures f here acts inputs events)
