use Rattle.region_typing_expressions.proofs.calls.call.Goals as goal

pub returns-in-Some : goal.returns-in-Some
returns-in-Some c =
    let found = rw c.in-Some.is at c.function.ensures in
    rw (← found) c.declared.ensures

pub returns-in-None : goal.returns-in-None
returns-in-None c =
    let none = rw c.in-None.is at c.function.ensures in
    rw (← none) (rw c.from_vec.ensures.items at c.predefined.ensures)
