use Rattle.std.proofs.Common.{false, get_or}
use Rattle.std.proofs.lemmas.List.Edits.{map_over_more}
use Rattle.bounds_flow.proofs.Variables.{read_again}
use Rattle.bounds_flow.proofs.changes.clear.Goals as goal

pub loop-was-preserved : goal.loop-was-preserved
loop-was-preserved c =
    map_over_more (λ was. false) c.args.assigned.now c.loop-was.assigned c.loop-was.was-index (get_or c.loop-was.assigned c.loop-was.was-index false) c.loop-was-test.true c.loop-was.invariant
    (read_again c.loop-was.assigned c.loop-was.was-index false)
