use Rattle.std.proofs.Common.{◌≡◌, below_more, subst}
use Rattle.bounds_flow.specs.declared.steps.Settled.{Settled}
use Rattle.bounds_flow.specs.Flows.{held_at}
use Rattle.bounds_flow.specs.Settling.{Meets, Tells, finding}
use Rattle.bounds_flow.proofs.settling.first_unmet.Goals as goal

pub loop-p-preserved : goal.loop-p-preserved
loop-p-preserved c =
    let t = c.args.facts.now in
    let held = c.args.held.now in
    let p = c.loop-p.p in
    let P : Settled → Type 0 = λ a. Tells t.vars t.table (finding t.table (held_at held p)) p a in
    below_more (λ q. finding t.table (held_at held q) ≡ Meets) p c.loop-p.invariant (subst P c.in-Kept.is c.in_ok-answer.ensures)
