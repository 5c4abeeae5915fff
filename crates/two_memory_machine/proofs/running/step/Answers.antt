use Rattle.two_memory_machine.proofs.running.step.Goals as goal

pub returns-in-Some : goal.returns-in-Some
returns-in-Some c =
    let now = c.in-Some.ensures.0 in
    record { steps = rw c.event.ensures now.steps; over = rw c.event.ensures now.over; sooner = now.sooner }
