use Rattle.built_forms.proofs.Numbered.{same_forms}
use Rattle.built_forms.proofs.laws.numbered_trees.Goals as goal

pub returns : goal.returns
returns c = same_forms
