use Rattle.std.proofs.Common.{[], refl, ◌∙◌, subst}
use Rattle.std.proofs.lemmas.Result.{err_from_is_err_and}
use Rattle.run_core.specs.Finishes.{Finishes}
use Rattle.run_core.specs.Chains.{Chain}
use Rattle.run_core.specs.Runs.{CameTo}
use Rattle.run_core.specs.Progress.{blocks_of}
use Rattle.run_core.proofs.Playing.{played_first}
use Rattle.run_core.proofs.Ending.{run_writes, run_counts}
use Rattle.run_core.proofs.run.run.Goals as goal

pub returns-clause-writes : goal.returns-clause-writes
returns-clause-writes g c =
    let image = c.args.image.now in
    let settings = c.args.settings.now in
    let inputs = c.args.inputs.now in
    let first = g.A.Actor.state_of c.args.actor.now in
    let is = c.in_ok-play.ensures in
    let started = played_first g.A.Actor.answers (g.F.Shelf.files c.args.shelf.now) image settings inputs first c.in_ok-play.play is.machine is.settings is.inputs is.text is.last is.ended in
    let play = c.to_end-outcome.new.self in
    let finishes = subst (λ k. Finishes play.text.items k (blocks_of play.machine) c.to_end-outcome.result (g.K.Sink.written c.args.sink.now) (g.K.Sink.written c.finish.new.sink) (g.K.Sink.faults c.args.sink.now) (g.K.Sink.faults c.finish.new.sink) c.finish.result) (c.to_end-outcome.ensures.settings ∙ is.settings) c.finish.ensures in
    run_writes g.A.Actor.answers _ image settings inputs first _ _ _ _ _ play.text.items (blocks_of play.machine) c.to_end-outcome.result c.finish.result (c.to_end-outcome.ensures.ends image settings inputs first started) finishes

pub returns-clause-counts : goal.returns-clause-counts
returns-clause-counts g c =
    let play = c.to_end-outcome.new.self in
    run_counts play.text.items play.settings (blocks_of play.machine) c.to_end-outcome.result c.finish.result _ _ _ _ _ _ _ _ c.to_end-outcome.ensures.counts c.finish.ensures

pub returns-in_err-play-clause-writes : goal.returns-in_err-play-clause-writes
returns-in_err-play-clause-writes g c =
    let p = err_from_is_err_and c.from_residual.result c.from_residual.ensures.1 in
    rw (p.1, p.2) (record { came = CameTo.given [] Chain.none; nothing = refl })
