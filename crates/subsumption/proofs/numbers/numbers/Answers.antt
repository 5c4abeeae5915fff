use Rattle.std.proofs.Common.{◌+◌, ◌-ℤ◌, ◌∙◌, ap, FitsSigned, arith, rules}
use Rattle.std.specs.Int.{w128}
use Rattle.std.proofs.lemmas.Int.{to_z-of_z}
use Rattle.subsumption.specs.MatrixWays.{number_of}
use Rattle.subsumption.proofs.Lists.{push_each}
use Rattle.subsumption.proofs.numbers.numbers.Goals as goal

pub returns-in_err-push : goal.returns-in_err-push
returns-in_err-push c = grind arith

pub loop-i-preserved : goal.loop-i-preserved
loop-i-preserved c =
    let first : FitsSigned w128 c.number-zero.result = search rules in
    let new : FitsSigned w128 c.counted.result = search rules in
    let zero = to_z-of_z w128 c.number-zero.result first ∙ c.number-zero.ensures.value in
    rw c.in_ok-push.ensures.items
    (push_each _ _ (λ j. number_of c.args.matrix.now c.args.y (j + 1) -ℤ number_of c.args.matrix.now c.args.y 0) _
    c.loop-i.invariant.0 c.loop-i.invariant.1
    (to_z-of_z w128 c.counted.result new ∙ (c.counted.ensures ∙ ap (λ z. number_of c.args.matrix.now c.args.y (c.loop-i.i + 1) -ℤ z) zero)))
