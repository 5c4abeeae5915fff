use Rattle.region_typing_statements.proofs.statements.loop_head.Goals as goal

pub returns-clause-known : goal.returns-clause-known
returns-clause-known c = rw (c.as_slice.ensures.value, c.in_ok-assigned.ensures.known) at c.enter_loop.ensures.known
