use Rattle.ckc_tree.specs.Expressions.{bounds}
use Rattle.pointer_modes.specs.Types.{ctype}
use Rattle.region_typing_scope.specs.Views.{scope}
use Rattle.region_typing_expressions.proofs.Written.{cast_same}
use Rattle.region_typing_expressions.proofs.casts.cast_bounds.Goals as goal

pub returns : goal.returns
returns c =
    let p = c.args.point.now in
    rw (cast_same p.flow.now (scope p.scope.now) (ctype c.args.to.now) (bounds c.args.written.now)) c.bounds_written.ensures
