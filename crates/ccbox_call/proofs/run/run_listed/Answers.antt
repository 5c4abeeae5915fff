use Rattle.ccbox_call_words.specs.Statuses.{number_of}
use Rattle.ccbox_call.proofs.Giving.{outcome_gives}
use Rattle.ccbox_call.proofs.ListRuns.{FromList, OfList, answers}
use Rattle.ccbox_call.proofs.run.run_listed.Goals as goal

pub returns : goal.returns
returns g c =
    outcome_gives FromList (g.F.Shelf.files c.args.shelf.now) c.args.image.now c.args.settings.now c.args.inputs.now c.args.actor.now
    (OfList c.args.image.now c.args.settings.now c.args.inputs.now c.args.actor.now c.requires.paced)
    (λ last outcome text comes. answers c.args.image.now c.args.settings.now c.args.inputs.now c.args.actor.now c.requires.paced comes)
    _ _ _ _ c.run-outcome.result _ _ _ _ _ _ _ (number_of c.give_outcome.result) c.run-outcome.ensures.writes c.run-outcome.ensures.counts c.give_outcome.ensures
