use Rattle.std.proofs.Common.{refl}
use Rattle.std.proofs.lemmas.Result.{err_from_is_err_and}
use Rattle.run_core.specs.Finishes.{Finish}
use Rattle.run_core.specs.Progress.{blocks_of}
use Rattle.run_core.proofs.run.finish.Goals as goal

pub returns-in_err-blocks-in-Ok : goal.returns-in_err-blocks-in-Ok
returns-in_err-blocks-in-Ok g c =
    let p = err_from_is_err_and c.from_residual.result c.from_residual.ensures.1 in
    rw (c.in-Ok.is, p.1, p.2) (Finish.no_memory refl refl)

pub returns-in-Err : goal.returns-in-Err
returns-in-Err g c = rw c.in-Err.is (c.write_front.ensures c.args.play.now.settings (blocks_of c.args.play.now.machine))
