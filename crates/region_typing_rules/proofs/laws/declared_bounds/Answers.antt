use Rattle.region_typing_rules.proofs.DeclaredBounds.{declared_is_formed}
use Rattle.region_typing_rules.proofs.laws.declared_bounds.Goals as goal

pub returns : goal.returns
returns c = declared_is_formed
