use Rattle.std.proofs.Common.{sym, ◌∙◌, ap}
use Rattle.subsumption.specs.ClosedTables.{smaller_of}
use Rattle.subsumption.specs.MatrixWays.{cost_of, least_below}
use Rattle.subsumption.proofs.MatrixNumbers.{least_more, least_none}
use Rattle.subsumption.proofs.numbers.searched.Goals as goal

pub loop-w-init : goal.loop-w-init
loop-w-init c = record { value = least_none (cost_of c.args.matrix.now c.args.y c.args.z); small = tt }

pub loop-w-preserved : goal.loop-w-preserved
loop-w-preserved c = record {
  value = c.smaller-least.ensures.value ∙ (ap (λ o. smaller_of o c.cost.result) c.loop-w.invariant.value
      ∙ (ap (smaller_of (least_below (cost_of c.args.matrix.now c.args.y c.args.z) c.loop-w.w)) c.cost.ensures.value ∙ sym (least_more (cost_of c.args.matrix.now c.args.y c.args.z) c.loop-w.w)));
  small = c.smaller-least.ensures.small;
}
