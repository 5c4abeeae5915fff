use Rattle.std.specs.Prelude.{IsTrue}
use Rattle.run_core.proofs.OneRun.{one_run}
use Rattle.run_core.proofs.SomeRun.{some_run}
use Rattle.run_core.proofs.laws.given_runs.Goals as goal

pub returns-clause-one : goal.returns-clause-one
returns-clause-one g c = λ files ok first a b image settings inputs acts others d e t u once is one two p q.
    let same = one_run g.A.Actor.answers files first (λ s. IsTrue (ok s)) once is image settings inputs acts others d e t u one two (a, p) (b, q) in
    (same.ending, same.events, same.blocks)

pub returns-clause-some : goal.returns-clause-some
returns-clause-some g c = λ files ok left first image settings inputs once always is paced.
    let r = some_run g.A.Actor.answers files first (λ s. IsTrue (ok s)) left once always is image settings paced inputs in
    (r.0, r.1, r.2, (r.5).0, r.3, r.4, (r.5).1)
