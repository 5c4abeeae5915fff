use Rattle.ckc_tree.proofs.SameHeights.{same_height}
use Rattle.ckc_tree.proofs.laws.same_heights.Goals as goal

pub returns : goal.returns
returns c = same_height
