use Rattle.std.proofs.Common.{ap, ◌∙◌}
use Rattle.sandbox_actor.specs.ActLists.{acts_of_file, lines_of}
use Rattle.sandbox_actor.proofs.Acts.{are_acts}
use Rattle.sandbox_actor.proofs.Cuts.{acts-first_bytes}
use Rattle.sandbox_actor.proofs.list_actor.ListActor.start.Goals as goal

pub returns-in-Ok-clause-content : goal.returns-in-Ok-clause-content
returns-in-Ok-clause-content g c m told =
    let whole = c.in-Ok.ensures.content m told in (whole.0, whole.1, ap acts_of_file whole.2 ∙ acts-first_bytes whole.0)

pub returns-in-Ok-clause-acts : goal.returns-in-Ok-clause-acts
returns-in-Ok-clause-acts g c = are_acts 1 0 (lines_of c.in-Ok.text.items)
