use Rattle.two_memory_machine.proofs.stack.check.Goals as goal

pub returns : goal.returns
returns c = λ acts inputs events. rw c.if-not-holds.false (c.go_on.ensures acts inputs events)
