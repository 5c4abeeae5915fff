use Rattle.std.proofs.Common.{refl}
use Rattle.ckc_names.proofs.Going.{on}
use Rattle.ckc_names.proofs.items.function_block.Goals as goal

pub returns : goal.returns
returns c =
    on refl c.parameter_list.ensures (on refl c.optional_bounds.ensures c.body.ensures)
