use Rattle.std.proofs.Common.{◌+◌, ◌<◌, Bool, Option, inl, inr, sym, subst, ◌∙◌, ap, arith}
use Rattle.subsumption.specs.declared.row.Step.{Step}
use Rattle.subsumption.specs.Distances.{is_near}
use Rattle.subsumption.specs.Matrices.{Puts, ShowsRow, plus_of, turned}
use Rattle.subsumption.proofs.Matrices.{near_more, near_skip, row_more, row_skip, row_start, still_near, turned_same}
use Rattle.subsumption.proofs.matrix.Matrix.turn_row.Goals as goal

pub loop-j-init : goal.loop-j-init
loop-j-init c = record {
  within = c.requires.columns.0;
  steps = row_start _ _ _ _ (λ j lj lt. c.requires.spares j lj (inl lt));
  ready = c.requires.ready;
  near = λ j lt. (let from = c.requires.columns.0 in let lj : j < c.args.self.now.n = omega (arith, lt, from) in
      ap (λ s. is_near (plus_of s)) (c.requires.spares j lj (inl lt)) ∙ c.requires.row j lj);
}

pub turn_at-requires-clause-near : goal.turn_at-requires-clause-near
turn_at-requires-clause-near c =
    let lt : c.loop-j.j < c.args.self.now.n = (let to = c.requires.columns.1 in let test = c.loop-j-test.true in omega (arith, to, test)) in
    still_near _ _ _ _ _ lt (c.requires.near _ lt) c.loop-j.invariant.steps

pub loop-j-preserved : goal.loop-j-preserved
loop-j-preserved c =
    let lt : c.loop-j.j < c.args.self.now.n = (let to = c.requires.columns.1 in let test = c.loop-j-test.true in omega (arith, to, test)) in
    let same = turned_same c.args.turn.now c.args.self.now c.loop-j.self c.args.i c.loop-j.j lt c.requires.placed c.loop-j.invariant.steps in
    let P : Option Step → Type 0 = λ s. Puts c.loop-j.self c.args.i c.loop-j.j s c.turn_at.new.self in
    let Q : Bool → Type 0 = λ b. ShowsRow b (turned c.args.turn.now c.args.self.now c.args.i) (c.loop-j.j + 1) in
    record {
      within = omega (arith, lt);
      steps = row_more _ _ _ _ _ _ lt c.loop-j.invariant.steps (subst P same c.turn_at.ensures.puts);
      ready = c.turn_at.ensures.puts.ready;
      near = subst Q (sym c.both-all_near.ensures) (near_more _ _ _ _ (c.turn_at.ensures.near ∙ ap (λ s. is_near (plus_of s)) same) c.loop-j.invariant.near);
    }

pub returns-clause-turned : goal.returns-clause-turned
returns-clause-turned c =
    let end = c.loop-j-test.false in
    row_skip _ _ _ _ _ _ c.loop-j.invariant.steps c.loop-j.invariant.within (λ j lj ge lt. c.requires.spares j lj (inr (omega (arith, end, ge))))

pub returns-clause-near : goal.returns-clause-near
returns-clause-near c =
    let end = c.loop-j-test.false in
    near_skip _ _ _ _ c.loop-j.invariant.within (λ j ge lt. ap (λ s. is_near (plus_of s)) (c.requires.spares j lt (inr (omega (arith, end, ge)))) ∙ c.requires.row j lt) c.loop-j.invariant.near
