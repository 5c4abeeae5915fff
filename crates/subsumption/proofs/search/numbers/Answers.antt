use Rattle.std.proofs.Common.{◌+◌, ◌-ℤ◌, ◌∙◌, FitsSigned, rules, get_or, pos}
use Rattle.std.specs.Int.{w128}
use Rattle.std.proofs.lemmas.Int.{to_z-of_z}
use Rattle.subsumption.proofs.Lists.{push_each}
use Rattle.subsumption.proofs.search.numbers.Goals as goal

pub loop-i-preserved : goal.loop-i-preserved
loop-i-preserved c =
    let new : FitsSigned w128 c.number_at.result = search rules in
    rw c.in_ok-push.ensures.items
    (push_each _ _ (λ j. get_or c.args.distances.now (j + 1) (pos 0) -ℤ get_or c.args.distances.now 0 (pos 0)) _
    c.loop-i.invariant.0 c.loop-i.invariant.1 (to_z-of_z w128 c.number_at.result new ∙ c.number_at.ensures))
