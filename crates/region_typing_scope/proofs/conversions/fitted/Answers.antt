use Rattle.region_typing_scope.proofs.conversions.fitted.Goals as goal

pub returns : goal.returns
returns c =
    let answer = rw (c.in_ok-met.ensures, c.deref.ensures) at c.converted_where.ensures in
    answer
