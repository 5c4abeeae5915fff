use Rattle.std.proofs.Common.{◌++◌, ℕ, List, take, drop, get_or, set, add-one, ap, sym, ◌∙◌, arith}
use Rattle.bounds_flow.specs.declared.held.Held.{Held}
use Rattle.bounds_flow.specs.Pointers.{joined_over, no_pointer}
use Rattle.bounds_flow.specs.Flows.{rejoined_held}
use Rattle.bounds_flow.proofs.Variables.{rejoin_more}
use Rattle.bounds_flow.proofs.changes.rejoin_all.Goals as goal

pub loop-i-preserved : goal.loop-i-preserved
loop-i-preserved c =
    let before = c.args.before.now in
    let held = c.args.held.now in
    let others = c.args.others.now in
    let i = c.loop-i.i in
    let e = c.requires.others in
    let u = c.requires.before in
    let lt = c.loop-i-test.true in
    let done : ℕ → List Held = λ n. rejoined_held (take n before) (take n held) (take n others) ++ drop n held in
    let next : List Held → List Held = λ l. set l i (joined_over (get_or before i no_pointer).bounds (get_or l i no_pointer) (get_or others i no_pointer)) in
    ap (λ h. set c.loop-i.held i h) c.join_over.ensures
    ∙ (ap next c.loop-i.invariant
    ∙ (rejoin_more i before held others (omega (arith, lt, u)) lt (omega (arith, lt, e)) ∙ ap done (sym (add-one i))))
