use Rattle.std.proofs.Common.{get_or, set, ap, ◌∙◌}
use Rattle.std.proofs.lemmas.List.Edits.{map_over_more}
use Rattle.bounds_flow.specs.Pointers.{no_pointer}
use Rattle.bounds_flow.specs.Changes.{changed}
use Rattle.bounds_flow.proofs.Variables.{read_again}
use Rattle.bounds_flow.proofs.changes.change_all.Goals as goal

pub loop-h-preserved : goal.loop-h-preserved
loop-h-preserved c =
    let held = c.loop-h.held in
    let i = c.loop-h.h-index in
    ap (λ h. set held i h) c.change_one.ensures
    ∙ map_over_more (changed c.args.assigned.now c.args.change.now) c.args.held.now held i (get_or held i no_pointer) c.loop-h-test.true c.loop-h.invariant (read_again held i no_pointer)
