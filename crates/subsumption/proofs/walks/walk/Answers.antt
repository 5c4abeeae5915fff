use Rattle.std.proofs.Common.{sym, ◌∙◌, ap}
use Rattle.subsumption.specs.Matrices.{plus_of}
use Rattle.subsumption.proofs.walks.walk.Goals as goal

pub fact_between-requires-clause-j : goal.fact_between-requires-clause-j
fact_between-requires-clause-j c = (c.requires.canonical.paths.continues _ _ c.in-Some.step c.requires.here c.requires.there c.requires.apart (sym c.step.ensures ∙ c.in-Some.is)).room

pub fact_between-requires-clause-reached : goal.fact_between-requires-clause-reached
fact_between-requires-clause-reached c =
    let on = c.requires.canonical.paths.continues _ _ c.in-Some.step c.requires.here c.requires.there c.requires.apart (sym c.step.ensures ∙ c.in-Some.is) in
    (on.head, ap plus_of on.fact)
