use Rattle.std.proofs.Common.{◌≤◌, length, take, refl, ap, ◌∙◌, subst}
use Rattle.std.proofs.lemmas.Result.{err_from_is_err_and}
use Rattle.ckc_io.specs.Written.{grown}
use Rattle.run_core.specs.Finishes.{Finish}
use Rattle.run_core.proofs.finish.write_text.Goals as goal

pub returns-in_err-add_last_line : goal.returns-in_err-add_last_line
returns-in_err-add_last_line g c =
    let p = err_from_is_err_and c.from_residual.result c.from_residual.ensures.1 in
    rw (p.1, p.2) (Finish.no_memory refl refl)

pub returns-in-Ok : goal.returns-in-Ok
returns-in-Ok g c =
    let text = c.as_slice.ensures.value ∙ c.in_ok-add_last_line.ensures in
    Finish.whole (c.in-Ok.ensures.all ∙ ap (λ t. grown (g.K.Sink.written c.args.sink.now) t) text) c.in-Ok.ensures.counts

pub returns-in-Err-Failed : goal.returns-in-Err-Failed
returns-in-Err-Failed g c =
    let text = c.as_slice.ensures.value ∙ c.in_ok-add_last_line.ensures in
    let front = c.in-Err-Failed.ensures.front in
    Finish.failed
    (record {
      size = front.0;
      fits = subst (λ t. front.0 ≤ length t) text front.1;
      front = front.2 ∙ ap (λ t. grown (g.K.Sink.written c.args.sink.now) (take front.0 t)) text;
    })
    c.in-Err-Failed.ensures.counts
