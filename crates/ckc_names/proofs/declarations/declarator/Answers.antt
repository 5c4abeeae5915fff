use Rattle.std.proofs.Common.{refl}
use Rattle.ckc_names.proofs.Going.{on}
use Rattle.ckc_names.proofs.declarations.declarator.Goals as goal

pub returns : goal.returns
returns c =
    on refl c.declare.ensures (on refl c.optional_bounds.ensures c.optional_initializer.ensures)
