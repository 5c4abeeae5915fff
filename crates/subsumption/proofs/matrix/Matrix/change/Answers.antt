use Rattle.std.proofs.Common.{ℕ, ◌+◌, ◌<◌, ◌≤◌, ◌≡◌, Bool, sym, subst, arith}
use Rattle.subsumption.specs.Matrices.{changed}
use Rattle.subsumption.proofs.MatrixSteps.{keeps_by, spares_by, steady_by}
use Rattle.subsumption.proofs.Matrices.{ShowsNear, changed_all, changed_more, keeps_on, near_all, near_by, near_to, room_on, row_by, rows_more, rows_near_on, spares_on, step_same}
use Rattle.subsumption.proofs.matrix.Matrix.change.Goals as goal

pub change_row-requires-clause-near : goal.change_row-requires-clause-near
change_row-requires-clause-near c =
    let lt : c.loop-i.i < c.args.self.now.n = (let size = c.size-n.ensures.value in let test = c.loop-i-test.true in omega (arith, size, test)) in
    rows_near_on _ _ _ lt c.args.change.now c.requires.placed (steady_by _ c.args.self.now c.requires.canonical _ c.requires.placed c.requires.met) c.requires.canonical.near c.loop-i.invariant.steps

pub change_row-requires-clause-room : goal.change_row-requires-clause-room
change_row-requires-clause-room c =
    let lt : c.loop-i.i < c.args.self.now.n = (let size = c.size-n.ensures.value in let test = c.loop-i-test.true in omega (arith, size, test)) in
    room_on _ _ _ lt c.args.change.now (c.requires.room _) c.loop-i.invariant.steps

pub change_row-requires-clause-keeps : goal.change_row-requires-clause-keeps
change_row-requires-clause-keeps c =
    let lt : c.loop-i.i < c.args.self.now.n = (let size = c.size-n.ensures.value in let test = c.loop-i-test.true in omega (arith, size, test)) in
    keeps_on _ _ _ lt c.args.change.now c.requires.placed (steady_by _ c.args.self.now c.requires.canonical _ c.requires.placed c.requires.met)
    (keeps_by _ c.args.self.now c.requires.canonical _ c.requires.placed c.requires.met _ lt) c.loop-i.invariant.steps

pub change_row-requires-clause-spares : goal.change_row-requires-clause-spares
change_row-requires-clause-spares c =
    let lt : c.loop-i.i < c.args.self.now.n = (let size = c.size-n.ensures.value in let test = c.loop-i-test.true in omega (arith, size, test)) in
    spares_on _ _ _ lt c.args.change.now _ c.requires.placed (steady_by _ c.args.self.now c.requires.canonical _ c.requires.placed c.requires.met)
    (spares_by _ c.args.self.now c.requires.canonical _ _ c.requires.placed c.requires.met c.columns-columns.ensures.others _ lt) c.loop-i.invariant.steps

pub loop-i-preserved : goal.loop-i-preserved
loop-i-preserved c =
    let lt : c.loop-i.i < c.args.self.now.n = (let size = c.size-n.ensures.value in let test = c.loop-i-test.true in omega (arith, size, test)) in
    let size : c.loop-i.self.n ≡ c.args.self.now.n = c.loop-i.invariant.steps.size in
    let below : (j : ℕ) → j < c.loop-i.self.n → j < c.args.self.now.n = λ j lj. subst (λ n. j < n) size lj in
    let same : (j : ℕ) → j < c.args.self.now.n → changed c.args.change.now c.loop-i.self c.loop-i.i j ≡ changed c.args.change.now c.args.self.now c.loop-i.i j
    = step_same _ _ _ lt c.args.change.now c.requires.placed (steady_by _ c.args.self.now c.requires.canonical _ c.requires.placed c.requires.met) c.loop-i.invariant.steps in
    let Q : Bool → Type 0 = λ b. ShowsNear b (changed c.args.change.now c.args.self.now) c.args.self.now.n (c.loop-i.i + 1) in
    record {
      steps = changed_more _ _ _ _ _ c.loop-i.invariant.steps (row_by _ _ _ _ _ (λ j lj. same j (below j lj)) c.change_row.ensures.changed);
      near = subst Q (sym c.both-all_near.ensures) (rows_more _ _ _ _ _ lt (near_by _ _ _ _ same (near_to _ _ _ _ size c.change_row.ensures.near)) c.loop-i.invariant.near);
    }

pub returns-clause-near : goal.returns-clause-near
returns-clause-near c =
    let all : c.args.self.now.n ≤ c.loop-i.i = (let size = c.size-n.ensures.value in let test = c.loop-i-test.false in omega (arith, size, test)) in
    near_all _ _ _ _ _ all (changed_all _ _ _ _ all c.loop-i.invariant.steps) c.loop-i.invariant.near
