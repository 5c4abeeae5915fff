use Rattle.std.proofs.Common.{refl}
use Rattle.ckc_names.proofs.Going.{on}
use Rattle.ckc_names.proofs.items.listed.Goals as goal

pub returns : goal.returns
returns c =
    on refl c.type_form.ensures (on refl c.declare.ensures c.optional_bounds.ensures)
