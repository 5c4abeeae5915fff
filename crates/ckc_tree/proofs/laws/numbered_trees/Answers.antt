use Rattle.ckc_tree.proofs.NumberedHeights.{numbered_height}
use Rattle.ckc_tree.proofs.NumberedWeights.{same_weight}
use Rattle.ckc_tree.proofs.laws.numbered_trees.Goals as goal

pub returns-clause-heights : goal.returns-clause-heights
returns-clause-heights c = numbered_height

pub returns-clause-weights : goal.returns-clause-weights
returns-clause-weights c = same_weight
