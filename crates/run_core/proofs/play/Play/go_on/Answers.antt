use Rattle.std.proofs.lemmas.Result.{err_from_is_err_and}
use Rattle.run_core.proofs.Playing.{played_step, played_short}
use Rattle.run_core.proofs.play.Play.go_on.Goals as goal

pub returns-in_ok-step-in-Runs-clause-goes : goal.returns-in_ok-step-in-Runs-clause-goes
returns-in_ok-step-in-Runs-clause-goes g c = λ image settings inputs first played.
    played_step g.A.Actor.answers _ image settings inputs first _ c.args.self.now c.step.new.self c.in_ok-step-in-Runs.ensures.steps played

pub returns-in_ok-give-in-Number-clause-goes : goal.returns-in_ok-give-in-Number-clause-goes
returns-in_ok-give-in-Number-clause-goes g c = λ image settings inputs first played.
    played_step g.A.Actor.answers _ image settings inputs first _ c.args.self.now c.give.new.self c.in_ok-give-in-Number.ensures.steps played

pub returns-in_err-step-in-Runs-clause-goes : goal.returns-in_err-step-in-Runs-clause-goes
returns-in_err-step-in-Runs-clause-goes g c = λ image settings inputs first played.
    let p = err_from_is_err_and c.from_residual.result c.from_residual.ensures.1 in
    rw (p.1, p.2) (played_short g.A.Actor.answers _ image settings inputs first _ c.args.self.now played)

pub returns-in_err-give-in-Number-clause-goes : goal.returns-in_err-give-in-Number-clause-goes
returns-in_err-give-in-Number-clause-goes g c = λ image settings inputs first played.
    let p = err_from_is_err_and c.from_residual-in_err-give-in-Number.result c.from_residual-in_err-give-in-Number.ensures.1 in
    rw (p.1, p.2) (played_short g.A.Actor.answers _ image settings inputs first _ c.args.self.now played)
