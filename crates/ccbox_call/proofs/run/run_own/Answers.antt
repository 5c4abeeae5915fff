use Rattle.std.proofs.Common.{refl, subst, arith}
use Rattle.run_core.specs.Runs.{Comes}
use Rattle.sandbox_actor_code.specs.Answering.{CodeState}
use Rattle.ccbox_call_words.specs.Statuses.{number_of}
use Rattle.ccbox_call.specs.Calls.{no_memory}
use Rattle.ccbox_call.specs.Supplies.{FromCode}
use Rattle.ccbox_call.proofs.Giving.{outcome_gives}
use Rattle.ccbox_call.proofs.ListRuns.{OfOwn, own_answers}
use Rattle.ccbox_call.proofs.run.run_own.Goals as goal

pub returns-in-Ok : goal.returns-in-Ok
returns-in-Ok g c =
    let files = g.F.Shelf.files c.args.shelf.now in
    let image = c.args.image.now in
    let settings = c.args.settings.now in
    let inputs = c.args.inputs.now in
    outcome_gives FromCode files image settings inputs _ (OfOwn image settings inputs)
    (λ last outcome text comes. own_answers image settings inputs (subst (λ (first : CodeState). Comes FromCode files image settings inputs first last outcome text) c.in-Ok.ensures comes))
    _ _ _ _ c.run-outcome.result _ _ _ _ _ _ _ (number_of c.give_outcome.result) c.run-outcome.ensures.writes c.run-outcome.ensures.counts c.give_outcome.ensures

pub returns-in-Err : goal.returns-in-Err
returns-in-Err g c = no_memory refl (omega arith) refl refl
