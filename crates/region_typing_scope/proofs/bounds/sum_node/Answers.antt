use Rattle.std.proofs.Common.{map}
use Rattle.pointer_modes.specs.Types.{ctype}
use Rattle.ckc_core.specs.Core.{expression}
use Rattle.region_typing_flow.proofs.Below.{constant_small}
use Rattle.region_typing_scope.proofs.bounds.sum_node.Goals as goal

pub sum_bounds-moved-requires : goal.sum_bounds-moved-requires
sum_bounds-moved-requires c = rw c.constant.ensures (constant_small (map ctype c.args.locals.now) (expression c.args.number.now))
