use Rattle.std.proofs.Common.{rules}
use Rattle.ckc_text.specs.Places.{place_at}
use Rattle.region_typing_scope.specs.OnHeap.{typed}
use Rattle.region_typing_scope.specs.Views.{scope}
use Rattle.region_typing_scope.proofs.Going.{goes_on}
use Rattle.region_typing_expressions.proofs.Continuing.{updated_parts}
use Rattle.region_typing_expressions.proofs.assignments.updated.Goals as goal

pub returns : goal.returns
returns c =
    rw (updated_parts (place_at c.args.context.now) (scope c.args.scope.now) c.args.direction (typed c.args.left) (typed c.args.right) c.args.span) (goes_on _ c.in_ok-target.ensures (rw (← c.site-site.ensures) c.update_target.ensures))

pub returns-in_err-target : goal.returns-in_err-target
returns-in_err-target c = search rules
