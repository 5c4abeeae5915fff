use Rattle.std.proofs.Common.{◌++◌, ℕ, List, take, drop, get_or, set, add-one, ap, sym, ◌∙◌, arith}
use Rattle.bounds_flow.specs.declared.held.Held.{Held}
use Rattle.bounds_flow.specs.Pointers.{joined_with, no_pointer}
use Rattle.bounds_flow.specs.Flows.{joined_held}
use Rattle.bounds_flow.proofs.Variables.{join_more}
use Rattle.bounds_flow.proofs.changes.join_all.Goals as goal

pub loop-i-preserved : goal.loop-i-preserved
loop-i-preserved c =
    let held = c.args.held.now in
    let others = c.args.others.now in
    let i = c.loop-i.i in
    let e = c.requires in
    let lt = c.loop-i-test.true in
    let done : ℕ → List Held = λ n. joined_held (take n held) (take n others) ++ drop n held in
    let next : List Held → List Held = λ l. set l i (joined_with (get_or l i no_pointer) (get_or others i no_pointer)) in
    ap (λ h. set c.loop-i.held i h) c.join.ensures
    ∙ (ap next c.loop-i.invariant ∙ (join_more i held others lt (omega (arith, lt, e)) ∙ ap done (sym (add-one i))))
